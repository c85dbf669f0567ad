use Rattle.std.proofs.Common.{◌≡◌, drop}
use Rattle.sheets.specs.Placement.{price, everything_in_memory}
use Rattle.sheets.proofs.sheet.Sheet.price_in_memory.Given as goal

abbrev pub invariant-loop-line : goal.invariant-loop-line
invariant-loop-line g l =
    g.P.Price.sum l.total (price g.P.Price (drop l.line-index l.line-items) everything_in_memory) ≡ price g.P.Price l.line-items everything_in_memory
