-- What stands on a sheet, and what declare, line and withdraw make of it.
use Rattle.std.specs.Prelude.{◌≡◌, ℕ, ◌-◌, ◌≤◌, cond, List, [], ◌∷◌, ◌++◌, length, take, replicate, Some, None, Ok, Err, Option, Result, nat_lt, slice_set}
use Rattle.sheets.specs.declared.line.Declaration.{Declaration}
use Rattle.sheets.specs.declared.line.Line.{Line}
use Rattle.sheets.specs.declared.line.Width.{Width}
use Rattle.sheets.specs.declared.fault.SheetFault.{SheetFault}
use Rattle.sheets.specs.declared.fault.Cause.TheVariants.{SheetFull, NoLine}
use Rattle.sheets.specs.declared.fault.SheetRefusal.{SheetRefusal}
use Rattle.sheets.specs.declared.fault.SheetRefusal.TheVariants.{Sheet as BySheet}
use Rattle.sheets.specs.declared.sheet.Sheet.{Sheet}
use Rattle.sheets.specs.Records.{fault, declaration_of, line_of}

-- the declared width of each of the twelve variables, and the lines in order
pub record Content : Type 0 where
  pub widths : List (Option Width)
  pub lines : List Line

abbrev pub content_of : Sheet → Content
content_of s = record { widths = s.widths; lines = s.lines.items }

-- the bounds of every sheet, whatever was done with it
pub twelve_widths : (s : Sheet) → length (content_of s).widths ≡ 12
twelve_widths s = s.twelve

pub few_lines : (s : Sheet) → length (content_of s).lines ≤ 64
few_lines s = s.few

abbrev pub blank : Content
blank = record { widths = replicate 12 None; lines = [] }

abbrev pub with_declaration : Content → Result Declaration SheetFault → Result Content SheetFault
with_declaration c (Ok d) = Ok (record { widths = slice_set c.widths d.variable (Some d.width); lines = c.lines })
with_declaration c (Err f) = Err f

abbrev pub with_line : Content → Result Line SheetFault → Result Content SheetFault
with_line c (Ok l) = cond (nat_lt (length c.lines) 64) (Ok (record { widths = c.widths; lines = c.lines ++ (l ∷ []) })) (Err (fault SheetFull 64))
with_line c (Err f) = Err f

-- what an accepted declare, line or withdraw leaves, or why the call is refused
abbrev pub declaring : List ℕ → Content → Result Content SheetFault
declaring r c = with_declaration c (declaration_of c.widths r)

abbrev pub lining : List ℕ → Content → Result Content SheetFault
lining r c = with_line c (line_of c.widths r)

abbrev pub withdrawing : Content → Result Content SheetFault
withdrawing c = cond (nat_lt 0 (length c.lines)) (Ok (record { widths = c.widths; lines = take (length c.lines - 1) c.lines })) (Err (fault NoLine 0))

-- what the caller is answered
abbrev pub answered : Result Content SheetFault → Result (Unit {0}) SheetRefusal
answered (Ok c) = Ok tt
answered (Err f) = Err (BySheet f)

-- what stands after the call: a refusal leaves the sheet as it was
abbrev pub left : Result Content SheetFault → Content → Content
left (Ok c) before = c
left (Err f) before = before
