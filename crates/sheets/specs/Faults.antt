-- The table of refusals: each cause with its number.
use Rattle.std.specs.Prelude.{ℕ}
use Rattle.refusals.specs.declared.told.Told.{Told}
use Rattle.sheets.specs.declared.fault.Cause.{Cause}
use Rattle.sheets.specs.declared.fault.Cause.TheVariants.{UnknownKind, WrongLength, OutOfRange, DeclaredAgain, Undeclared, WrongWidth, SheetFull, NoLine}
use Rattle.sheets.specs.declared.fault.SheetRefusal.{SheetRefusal}
use Rattle.sheets.specs.declared.fault.SheetRefusal.TheVariants.{Sheet}

abbrev pub number_of : Cause → ℕ
number_of UnknownKind = 1
number_of WrongLength = 2
number_of OutOfRange = 3
number_of DeclaredAgain = 4
number_of Undeclared = 4
number_of WrongWidth = 5
number_of SheetFull = 6
number_of NoLine = 7

abbrev pub told : SheetRefusal → Told
told (Sheet f) = record { number = number_of f.cause; place = f.place; depth = 0 }
