-- The solver's part of the table of refusals.
use Rattle.refusals.specs.declared.told.Told.{Told}
use Rattle.graphs.specs.declared.fault.Cause.{Cause}
use Rattle.graphs.specs.declared.fault.Cause.TheVariants.{Short, TurnedAway, NothingFits}

abbrev pub told : Cause → Told
told Short = record { number = 10; place = 0; depth = 0 }
told (TurnedAway variable depth) = record { number = 11; place = variable; depth = depth }
told NothingFits = record { number = 12; place = 255; depth = 0 }
