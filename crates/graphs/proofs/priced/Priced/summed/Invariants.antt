use Rattle.std.proofs.Common.{◌≡◌, ◌≤◌}
use Rattle.graphs.specs.Masks.{members_below}
use Rattle.graphs.specs.Model.{sum_over}
use Rattle.graphs.specs.Stored.{model_at, pick_of}
use Rattle.graphs.proofs.priced.Priced.summed.Given as goal

abbrev pub invariant-loop-v : goal.invariant-loop-v
invariant-loop-v g l =
    (l.v-iterator.end ≡ 12)
    × (l.v-iterator.next ≤ 12)
    × (l.price ≡ sum_over g.P.Price (model_at g.P.Price l.self).entries (members_below l.self.graph.present l.v-iterator.next) (pick_of l.picks))
