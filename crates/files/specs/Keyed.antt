-- A file keyed in: what stands then, and the first fault.
use Rattle.std.specs.Prelude.{ℕ, cond, List, [], ◌∷◌, length, Some, None, Ok, Err, Option, Result, ◌==◌, nat_le, slice_index}
use Rattle.sheets.specs.declared.fault.SheetFault.{SheetFault}
use Rattle.sheets.specs.declared.fault.SheetRefusal.{SheetRefusal}
use Rattle.sheets.specs.declared.fault.SheetRefusal.TheVariants.{Sheet}
use Rattle.sheets.specs.Contents.{Content, declaring, lining}
use Rattle.files.specs.declared.fault.FileCause.TheVariants.{TooLong}
use Rattle.files.specs.declared.fault.FileFault.{FileFault}
use Rattle.files.specs.declared.fault.RecordRefusal.{RecordRefusal}
use Rattle.files.specs.declared.fault.FileRefusal.{FileRefusal}
use Rattle.files.specs.declared.fault.FileRefusal.TheVariants.{File, Record}
use Rattle.files.specs.Cut.{Piece, cut}

-- a record of kind 01 is handed to declare, any other to line
abbrev pub entering : List ℕ → Content → Result Content SheetFault
entering r c = cond (slice_index r 0 == 1) (declaring r c) (lining r c)

-- what stands, and the first fault, if there is one
pub record Keyed : Type 0 where
  pub content : Content
  pub fault : Option FileRefusal

abbrev pub keeps : Content → Option FileRefusal → Keyed
keeps c f = record { content = c; fault = f }

abbrev pub refused_at : ℕ → SheetFault → FileRefusal
refused_at at f = Record (record { refusal = Sheet f; offset = at })

abbrev pub after : ℕ → Content → Result Content SheetFault → (Content → Keyed) → Keyed
after at c (Ok next) rest = rest next
after at c (Err f) rest = keeps c (Some (refused_at at f))

-- the records are handed over in order, up to the first that is refused
unfoldable pub keyed_records : Content → List Piece → Keyed
keyed_records c [] = keeps c None
keyed_records c (p ∷ ps) = after p.at c (entering p.bytes c) (λ next. keyed_records next ps)

abbrev pub too_long : FileFault
too_long = record { cause = TooLong; place = 0 }

-- a file of more than 4,096 bytes is refused whole
abbrev pub keyed : Content → List ℕ → Keyed
keyed c f = cond (nat_le (length f) 4096) (keyed_records c (cut f)) (keeps c (Some (File too_long)))

abbrev pub answer_of : Option FileRefusal → Result (Unit {0}) FileRefusal
answer_of None = Ok tt
answer_of (Some f) = Err f

-- # What the code goes through on the way

abbrev pub located : ℕ → Result (Unit {0}) SheetRefusal → Result (Unit {0}) RecordRefusal
located at (Ok x) = Ok x
located at (Err f) = Err (record { refusal = f; offset = at })

abbrev pub fitted : ℕ → Result (Unit {0}) FileFault
fitted n = cond (nat_le n 4096) (Ok tt) (Err too_long)
