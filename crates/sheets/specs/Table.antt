-- The table of records: each kind with the fields of its body, and what a record of it says.
use Rattle.std.specs.Prelude.{ℕ, suc, cond, List, [], ◌∷◌, length, Some, None, Option, ◌==◌}
use Rattle.sheets.specs.declared.line.Width.{Width}
use Rattle.sheets.specs.declared.line.Width.TheVariants.{Word, Wide}
use Rattle.sheets.specs.declared.line.Declaration.{Declaration}
use Rattle.sheets.specs.declared.line.Line.{Line}
use Rattle.sheets.specs.declared.line.Line.TheVariants.{Input, Output, Copy, Add, Multiply, UpperHalf, GoTo, GoToIfZero, End}
use Rattle.sheets.specs.declared.field.Field.{Field}
use Rattle.sheets.specs.declared.field.Field.TheVariants.{Declares, WidthCode, Variable, Port, Target, Weight}
use Rattle.sheets.specs.declared.field.Wanted.TheVariants.{Exactly, Any, LikeFirst}

-- a kind, the fields of its body in order, and what the record says, given its bytes by their offsets
pub record Row (A : Type 0) : Type 0 where
  pub kind : ℕ
  pub fields : List Field
  pub says : (ℕ → ℕ) → A

abbrev pub row : {A : Type 0} → ℕ → List Field → ((ℕ → ℕ) → A) → Row A
row k fs s = record { kind = k; fields = fs; says = s }

-- the kind byte and a byte for each field
abbrev pub size : {A : Type 0} → Row A → ℕ
size x = suc (length x.fields)

abbrev word : Field
word = Variable (Exactly Word)

abbrev wide : Field
wide = Variable (Exactly Wide)

abbrev any_width : Field
any_width = Variable Any

abbrev like_first : Field
like_first = Variable LikeFirst

-- the width of a code in its range
abbrev pub width_coded : ℕ → Width
width_coded n = cond (n == 1) Word Wide

abbrev pub declaration : ℕ → Width → Declaration
declaration v w = record { variable = v; width = w }

abbrev pub declaration_rows : List (Row Declaration)
declaration_rows = row 0x01 (Declares ∷ WidthCode ∷ []) (λ b. declaration (b 1) (width_coded (b 2))) ∷ []

abbrev pub line_rows : List (Row Line)
line_rows =
    row 0x10 (word ∷ Port ∷ Weight ∷ []) (λ b. Input (b 1) (b 2) (b 3))
    ∷ row 0x11 (word ∷ Port ∷ Weight ∷ []) (λ b. Output (b 1) (b 2) (b 3))
    ∷ row 0x12 (any_width ∷ like_first ∷ Weight ∷ []) (λ b. Copy (b 1) (b 2) (b 3))
    ∷ row 0x13 (any_width ∷ like_first ∷ like_first ∷ Weight ∷ []) (λ b. Add (b 1) (b 2) (b 3) (b 4))
    ∷ row 0x14 (wide ∷ word ∷ word ∷ Weight ∷ []) (λ b. Multiply (b 1) (b 2) (b 3) (b 4))
    ∷ row 0x15 (word ∷ wide ∷ Weight ∷ []) (λ b. UpperHalf (b 1) (b 2) (b 3))
    ∷ row 0x16 (Target ∷ []) (λ b. GoTo (b 1))
    ∷ row 0x17 (word ∷ Target ∷ Weight ∷ []) (λ b. GoToIfZero (b 1) (b 2) (b 3))
    ∷ row 0x18 [] (λ b. End)
    ∷ []

abbrev pub row_of : {A : Type 0} → ℕ → List (Row A) → Option (Row A)
row_of k [] = None
row_of k (x ∷ xs) = cond (x.kind == k) (Some x) (row_of k xs)

abbrev pub fields_or : {A : Type 0} → List Field → Option (Row A) → List Field
fields_or other None = other
fields_or other (Some x) = x.fields

-- the fields of a record of this kind
abbrev pub fields_of : ℕ → List Field
fields_of k = fields_or (fields_or [] (row_of k line_rows)) (row_of k declaration_rows)

abbrev pub size_or : {A : Type 0} → Option ℕ → Option (Row A) → Option ℕ
size_or other None = other
size_or other (Some x) = Some (size x)

-- the length of a record of this kind
abbrev pub length_of : ℕ → Option ℕ
length_of k = size_or (size_or None (row_of k line_rows)) (row_of k declaration_rows)
