use Rattle.std.proofs.Common.{◌≡◌, ◌+◌, ◌≤◌}
use Rattle.graphs.specs.Kept.{TableAt, Before}
use Rattle.graphs.specs.Stored.{count_at}
use Rattle.graphs.proofs.priced.Priced.extend.Given as goal

abbrev pub invariant-loop-i : goal.invariant-loop-i
invariant-loop-i g l =
    (l.i-iterator.end ≡ count_at l.self.graph l.turn.variable)
    × (l.i-iterator.next ≤ l.i-iterator.end)
    × TableAt g.P.Price l.self (l.turn.variable + 1) l.new (Before g.P.Price l.self.graph l.self.prices.now l.turn.variable l.fn.j l.i-iterator.next)
