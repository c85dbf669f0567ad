-- How lines, widths, tallies and refusals are written.
use Rattle.std.specs.Prelude.{ℕ, List, ◌++◌, codes, decimal}
use Rattle.sheets.specs.declared.line.Width.{Width}
use Rattle.sheets.specs.declared.line.Width.TheVariants.{Word, Wide}
use Rattle.sheets.specs.declared.line.Line.{Line}
use Rattle.sheets.specs.declared.line.Line.TheVariants.{Input, Output, Copy, Add, Multiply, UpperHalf, GoTo, GoToIfZero, End}
use Rattle.sheets.specs.declared.access.Tally.{Tally}
use Rattle.sheets.specs.declared.fault.Cause.{Cause}
use Rattle.sheets.specs.declared.fault.Cause.TheVariants.{UnknownKind, WrongLength, OutOfRange, DeclaredAgain, Undeclared, WrongWidth, SheetFull, NoLine}
use Rattle.sheets.specs.declared.fault.SheetRefusal.{SheetRefusal}
use Rattle.sheets.specs.declared.fault.SheetRefusal.TheVariants.{Sheet}
use Rattle.sheets.specs.Faults.{told}
use Rattle.refusals.specs.Words.{told_words}

abbrev pub width_words : Width → List ℕ
width_words Word = codes "word"
width_words Wide = codes "wide"

abbrev variable : ℕ → List ℕ
variable v = codes "v" ++ decimal v

abbrev weighing : ℕ → List ℕ
weighing w = codes ", weight " ++ decimal w

abbrev pub line_words : Line → List ℕ
line_words (Input d p w) = variable d ++ (codes " = input " ++ (decimal p ++ weighing w))
line_words (Output s p w) = codes "output " ++ (decimal p ++ (codes " = " ++ (variable s ++ weighing w)))
line_words (Copy d s w) = variable d ++ (codes " = " ++ (variable s ++ weighing w))
line_words (Add d a b w) = variable d ++ (codes " = " ++ (variable a ++ (codes " + " ++ (variable b ++ weighing w))))
line_words (Multiply d a b w) = variable d ++ (codes " = " ++ (variable a ++ (codes " * " ++ (variable b ++ weighing w))))
line_words (UpperHalf d s w) = variable d ++ (codes " = upper half of " ++ (variable s ++ weighing w))
line_words (GoTo t) = codes "go to line " ++ decimal t
line_words (GoToIfZero s t w) = codes "go to line " ++ (decimal t ++ (codes " if " ++ (variable s ++ (codes " is zero" ++ weighing w))))
line_words End = codes "end"

abbrev pub tally_words : Tally → List ℕ
tally_words t = decimal t.count ++ (codes " (weight " ++ (decimal t.weight ++ codes ")"))

abbrev pub cause_words : Cause → List ℕ
cause_words UnknownKind = codes "the record is empty or not of a kind that this call takes"
cause_words WrongLength = codes "the record is not as long as its kind asks"
cause_words OutOfRange = codes "a byte is out of its range"
cause_words DeclaredAgain = codes "the variable is declared already"
cause_words Undeclared = codes "a variable is not declared"
cause_words WrongWidth = codes "a variable has the wrong width"
cause_words SheetFull = codes "64 lines stand already"
cause_words NoLine = codes "no line stands"

abbrev pub reason_words : SheetRefusal → List ℕ
reason_words (Sheet f) = cause_words f.cause

abbrev pub refusal_words : SheetRefusal → List ℕ
refusal_words r = reason_words r ++ told_words (told r)
