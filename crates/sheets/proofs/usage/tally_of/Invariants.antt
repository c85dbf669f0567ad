use Rattle.std.proofs.Common.{◌≡◌, ◌+◌, ◌*◌, ◌≤◌, drop}
use Rattle.sheets.specs.Usage.{count_in, weight_in}
use Rattle.sheets.proofs.usage.tally_of.Given as goal

abbrev pub invariant-loop-line : goal.invariant-loop-line
invariant-loop-line l =
    (l.count + count_in l.access (drop l.line-index l.lines) l.variable ≡ count_in l.access l.lines l.variable)
    × (l.weight + weight_in l.access (drop l.line-index l.lines) l.variable ≡ weight_in l.access l.lines l.variable)
    × (l.count ≤ 2 * l.line-index)
    × (l.weight ≤ 510 * l.line-index)
