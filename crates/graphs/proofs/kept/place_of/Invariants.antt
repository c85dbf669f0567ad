use Rattle.std.proofs.Common.{◌≡◌, ◌+◌, ◌<◌, ◌≤◌}
use Rattle.graphs.specs.Masks.{members_below}
use Rattle.graphs.specs.Kept.{number_of}
use Rattle.graphs.specs.Stored.{pick_of}
use Rattle.graphs.proofs.kept.place_of.Given as goal

abbrev pub invariant-loop-u : goal.invariant-loop-u
invariant-loop-u l =
    (l.u-iterator.end ≡ l.fn.v + 1)
    × (l.u-iterator.next ≤ l.fn.v + 1)
    × (l.place ≡ number_of (members_below l.front l.u-iterator.next) (pick_of l.picks))
    × (l.place < 125)
