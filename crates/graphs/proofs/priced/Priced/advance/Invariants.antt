use Rattle.std.proofs.Common.{◌≡◌, ◌+◌, ◌≤◌}
use Rattle.graphs.specs.Kept.{TableAt, Below}
use Rattle.graphs.proofs.priced.Priced.advance.Given as goal

abbrev pub invariant-loop-j : goal.invariant-loop-j
invariant-loop-j g l =
    (l.j-iterator.end ≡ 125)
    × (l.j-iterator.next ≤ 125)
    × TableAt g.P.Price l.self (l.turn.variable + 1) l.new (Below g.P.Price l.self.graph l.self.prices.now l.turn.variable l.j-iterator.next)
