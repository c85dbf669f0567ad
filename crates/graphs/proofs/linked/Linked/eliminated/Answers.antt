use Rattle.std.proofs.Common.{ap}
use Rattle.graphs.specs.declared.fault.Cause.TheVariants.{TurnedAway}
use Rattle.graphs.specs.Outcome.{refused}
use Rattle.graphs.specs.Eliminated.{none_narrow}
use Rattle.graphs.specs.Stored.{model_at}
use Rattle.graphs.proofs.linked.Linked.eliminated.Goals as goal

pub returns-in-Some : goal.returns-in-Some
returns-in-Some g c = (c.in-Some.v, c.in-Some.ensures, ap (λ n. refused (TurnedAway n 0)) c.number-variable.ensures.value)

pub swept-requires-clause-narrow : goal.swept-requires-clause-narrow
swept-requires-clause-narrow g c = none_narrow g.P.Price (model_at g.P.Price c.args.self.now.priced) c.in_default.ensures

pub returns : goal.returns
returns g c = (c.in_default.ensures, c.swept.ensures)
