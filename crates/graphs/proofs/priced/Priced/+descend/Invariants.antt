use Rattle.std.proofs.Common.{◌≡◌, ◌+◌, ◌-◌, ◌≤◌}
use Rattle.graphs.specs.Masks.{members_from, members_below}
use Rattle.graphs.specs.Search.{each, tried}
use Rattle.graphs.specs.Holding.{found_in}
use Rattle.graphs.specs.Stored.{count_at, model_at, pick_of}
use Rattle.graphs.proofs.priced.Priced.+descend.Given as goal

abbrev pub decreases-descend : goal.decreases-descend
decreases-descend g l = 12 - l.from

abbrev pub invariant-loop-i : goal.invariant-loop-i
invariant-loop-i g l =
    (l.i-iterator.end ≡ count_at l.self.graph l.from)
    × (l.i-iterator.next ≤ l.i-iterator.end)
    × (found_in l.best ≡ each (tried g.P.Price (model_at g.P.Price l.self) l.from (members_from l.self.graph.present (l.from + 1)) (members_below l.self.graph.present l.from) (pick_of l.taken) l.price) l.i-iterator.next (found_in l.initial.best))
