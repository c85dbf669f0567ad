use Rattle.std.proofs.Common.{◌≡◌, ℕ, ◌≤◌, cond, ltb, length, get_or}
use Rattle.graphs.specs.Masks.{has}
use Rattle.graphs.proofs.elimination.assign.Given as goal

abbrev pub invariant-loop-v : goal.invariant-loop-v
invariant-loop-v l =
    (l.v-iterator.end ≡ 12)
    × (l.v-iterator.next ≤ 12)
    × (length l.picks ≡ 12)
    × ((y : ℕ) → get_or l.picks y 0 ≡ cond (ltb y l.v-iterator.next) (cond (has l.graph.present y) (get_or l.chosen y 0) (get_or l.initial.picks y 0)) (get_or l.initial.picks y 0))
