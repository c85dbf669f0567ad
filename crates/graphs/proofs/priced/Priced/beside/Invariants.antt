use Rattle.std.proofs.Common.{◌≡◌, ◌≤◌}
use Rattle.graphs.specs.Masks.{members_below}
use Rattle.graphs.specs.Model.{beside}
use Rattle.graphs.specs.Stored.{model_at, pick_of}
use Rattle.graphs.proofs.priced.Priced.beside.Given as goal

abbrev pub invariant-loop-u : goal.invariant-loop-u
invariant-loop-u g l =
    (l.u-iterator.end ≡ l.v)
    × (l.u-iterator.next ≤ l.v)
    × (l.price ≡ beside g.P.Price (model_at g.P.Price l.self).entries l.v (members_below l.self.graph.present l.u-iterator.next) l.i (pick_of l.taken))
