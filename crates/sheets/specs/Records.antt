-- When a record is refused: the tests in their order, each at the lowest offset that fails it.
use Rattle.std.specs.Prelude.{◌≡◌, ℕ, ◌+◌, ◌<◌, Bool, true, false, cond, ◌&&◌, List, [], ◌∷◌, length, Some, None, Ok, Err, Option, Result, ◌==◌, nat_le, slice_index, slice_index_or}
use Rattle.sheets.specs.declared.line.Width.{Width}
use Rattle.sheets.specs.declared.line.Width.TheVariants.{Word, Wide}
use Rattle.sheets.specs.declared.line.Declaration.{Declaration}
use Rattle.sheets.specs.declared.line.Line.{Line}
use Rattle.sheets.specs.declared.field.Field.{Field}
use Rattle.sheets.specs.declared.field.Field.TheVariants.{Declares, WidthCode, Variable, Port, Target, Weight}
use Rattle.sheets.specs.declared.field.Wanted.{Wanted}
use Rattle.sheets.specs.declared.field.Wanted.TheVariants.{Exactly, Any, LikeFirst}
use Rattle.sheets.specs.declared.fault.Cause.{Cause}
use Rattle.sheets.specs.declared.fault.Cause.TheVariants.{UnknownKind, WrongLength, OutOfRange, DeclaredAgain, Undeclared, WrongWidth}
use Rattle.sheets.specs.declared.fault.SheetFault.{SheetFault}
use Rattle.sheets.specs.Table.{Row, size, row_of, declaration_rows, line_rows}

-- # One byte

-- what is tested of every byte of a record's body, in this order
pub data Test : Type 0 where
  InRange : Test
  Declared : Test
  OfWidth : Test

-- the lowest and the highest byte of a field
abbrev pub range : Field → ℕ × ℕ
range Declares = (0, 11)
range WidthCode = (1, 2)
range (Variable w) = (0, 11)
range Port = (0, 7)
range Target = (0, 63)
range Weight = (1, 255)

abbrev pub within : ℕ × ℕ → ℕ → Bool
within r b = nat_le r.0 b && nat_le b r.1

abbrev pub is_declared : Option Width → Bool
is_declared None = false
is_declared (Some w) = true

abbrev pub is_undeclared : Option Width → Bool
is_undeclared None = true
is_undeclared (Some w) = false

-- what a field asks of a variable's declaration
abbrev pub declared_so : Field → Option Width → Bool
declared_so Declares w = is_undeclared w
declared_so WidthCode w = true
declared_so (Variable x) w = is_declared w
declared_so Port w = true
declared_so Target w = true
declared_so Weight w = true

abbrev pub same_width : Option Width → Option Width → Bool
same_width None None = true
same_width None (Some w) = false
same_width (Some Word) None = false
same_width (Some Word) (Some Word) = true
same_width (Some Word) (Some Wide) = false
same_width (Some Wide) None = false
same_width (Some Wide) (Some Word) = false
same_width (Some Wide) (Some Wide) = true

-- what is wanted of a variable of width `w`, where the record's first variable has width `first`
abbrev pub as_wanted : Wanted → Option Width → Option Width → Bool
as_wanted (Exactly x) w first = same_width w (Some x)
as_wanted Any w first = true
as_wanted LikeFirst w first = same_width w first

abbrev pub of_width : Field → Option Width → Option Width → Bool
of_width Declares w first = true
of_width WidthCode w first = true
of_width (Variable x) w first = as_wanted x w first
of_width Port w first = true
of_width Target w first = true
of_width Weight w first = true

abbrev pub width_of : List (Option Width) → ℕ → Option Width
width_of ws v = slice_index_or ws v None

-- whether byte `b` passes a test as this field, where `first` is the byte at offset 1
abbrev pub passes : Test → List (Option Width) → Field → ℕ → ℕ → Bool
passes Test.InRange ws x b first = within (range x) b
passes Test.Declared ws x b first = declared_so x (width_of ws b)
passes Test.OfWidth ws x b first = of_width x (width_of ws b) (width_of ws first)

-- # One record

abbrev pub fault : Cause → ℕ → SheetFault
fault c p = record { cause = c; place = p }

abbrev pub undeclared_as : Field → Cause
undeclared_as Declares = DeclaredAgain
undeclared_as WidthCode = Undeclared
undeclared_as (Variable x) = Undeclared
undeclared_as Port = Undeclared
undeclared_as Target = Undeclared
undeclared_as Weight = Undeclared

-- why a byte is refused that does not pass
abbrev pub cause_of : Test → Field → Cause
cause_of Test.InRange x = OutOfRange
cause_of Test.Declared x = undeclared_as x
cause_of Test.OfWidth x = WrongWidth

-- whatever a call with a field and a byte may answer is the cause for which the test refuses that byte, where `first` is the byte at offset 1
abbrev pub TestsBy : (Field → ℕ → Option Cause → Type 0) → Test → List (Option Width) → ℕ → Type 0
TestsBy answers t ws first = (x : Field) (b : ℕ) (r : Option Cause) → b < 256 → answers x b r → r ≡ cond (passes t ws x b first) None (Some (cause_of t x))

-- the fault of the lowest offset, from `at` on, whose byte does not pass
abbrev pub first_fault : Test → List (Option Width) → ℕ → List Field → List ℕ → Option SheetFault
first_fault t ws at [] r = None
first_fault t ws at (x ∷ xs) r =
    cond (passes t ws x (slice_index r at) (slice_index r 1)) (first_fault t ws (at + 1) xs r) (Some (fault (cause_of t x) at))

abbrev pub unless : {A : Type 0} → Option SheetFault → Result A SheetFault → Result A SheetFault
unless None next = next
unless (Some f) next = Err f

-- each test on all bytes before the next test
abbrev pub tested : {A : Type 0} → List (Option Width) → List Field → List ℕ → A → Result A SheetFault
tested ws xs r a =
    unless (first_fault Test.InRange ws 1 xs r) (unless (first_fault Test.Declared ws 1 xs r) (unless (first_fault Test.OfWidth ws 1 xs r) (Ok a)))

abbrev pub judged : {A : Type 0} → List (Option Width) → List ℕ → Option (Row A) → Result A SheetFault
judged ws r None = Err (fault UnknownKind 0)
judged ws r (Some x) =
    cond (length r == size x) (tested ws x.fields r (x.says (λ i. slice_index r i))) (Err (fault WrongLength (size x)))

-- what a record says under these rows, where the widths are those declared, or why it is refused
abbrev pub read_as : {A : Type 0} → List (Row A) → List (Option Width) → List ℕ → Result A SheetFault
read_as rows ws r = judged ws r (row_of (slice_index r 0) rows)

abbrev pub declaration_of : List (Option Width) → List ℕ → Result Declaration SheetFault
declaration_of = read_as declaration_rows

abbrev pub line_of : List (Option Width) → List ℕ → Result Line SheetFault
line_of = read_as line_rows
