-- The kinds of records, each with its byte in the table of records.
use Rattle.std.specs.Prelude.{◌≡◌, ℕ, None, Result, MatchResult}
use Rattle.sheets.specs.declared.kind.Kind.{Kind}
use Rattle.sheets.specs.declared.kind.Kind.TheVariants.{Declare, Input, Output, Copy, Add, Multiply, UpperHalf, GoTo, GoToIfZero, End}
use Rattle.sheets.specs.declared.fault.Cause.TheVariants.{UnknownKind}
use Rattle.sheets.specs.declared.fault.SheetFault.{SheetFault}
use Rattle.sheets.specs.Table.{length_of}
use Rattle.sheets.specs.Records.{fault}

abbrev pub byte_of : Kind → ℕ
byte_of Declare = 0x01
byte_of Input = 0x10
byte_of Output = 0x11
byte_of Copy = 0x12
byte_of Add = 0x13
byte_of Multiply = 0x14
byte_of UpperHalf = 0x15
byte_of GoTo = 0x16
byte_of GoToIfZero = 0x17
byte_of End = 0x18

-- the answer is the kind that has this byte, or the fault that none has it
abbrev pub IsKindOf : ℕ → Result Kind SheetFault → Type 0
IsKindOf b r = MatchResult r (λ k. byte_of k ≡ b) (λ f. (f ≡ fault UnknownKind 0) × (length_of b ≡ None))
