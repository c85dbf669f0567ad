use Rattle.std.proofs.Common.{◌-◌}
use Rattle.graphs.proofs.linked.Linked.+sweep.Given as goal

abbrev pub decreases-sweep : goal.decreases-sweep
decreases-sweep g l = 12 - l.from
