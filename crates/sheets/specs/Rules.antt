-- The rule of refusals as a relation: what a record is answered, case by case.
use Rattle.std.specs.Prelude.{◌≡◌, ℕ, ◌+◌, ◌<◌, false, ◌⊎◌, List, [], ◌∷◌, length, Ok, Err, Option, Result, ◌≢◌, slice_index, slice_index_or}
use Rattle.sheets.specs.declared.line.Width.{Width}
use Rattle.sheets.specs.declared.field.Field.{Field}
use Rattle.sheets.specs.declared.field.Field.TheVariants.{Port}
use Rattle.sheets.specs.declared.fault.Cause.TheVariants.{UnknownKind, WrongLength}
use Rattle.sheets.specs.declared.fault.SheetFault.{SheetFault}
use Rattle.sheets.specs.Table.{Row, size}
use Rattle.sheets.specs.Records.{Test, passes, cause_of, fault}

abbrev pub Listed : {A : Type 0} → Row A → List (Row A) → Type 0
Listed x [] = ⊥
Listed x (y ∷ ys) = (x ≡ y) ⊎ Listed x ys

-- the record has a byte, and its first is this row's kind
pub record OfRow {A : Type 0} (rows : List (Row A)) (r : List ℕ) (x : Row A) : Type 0 where
  pub listed : Listed x rows
  pub there : 0 < length r
  pub kind : x.kind ≡ slice_index r 0

-- the byte of field `i`, at offset 1 + i, does not pass
pub record Fails (t : Test) (ws : List (Option Width)) (xs : List Field) (r : List ℕ) (i : ℕ) : Type 0 where
  pub inside : i < length xs
  pub failed : passes t ws (slice_index_or xs i Port) (slice_index r (1 + i)) (slice_index r 1) ≡ false

abbrev pub Never : (ℕ → Type 0) → Type 0
Never P = (i : ℕ) → P i → ⊥

pub record Lowest (P : ℕ → Type 0) (i : ℕ) : Type 0 where
  pub holds : P i
  pub none_below : (j : ℕ) → j < i → P j → ⊥

-- no byte fails a test that comes before this one
abbrev pub PassedBefore : Test → List (Option Width) → List Field → List ℕ → Type 0
PassedBefore Test.InRange ws xs r = Unit {0}
PassedBefore Test.Declared ws xs r = Never (Fails Test.InRange ws xs r)
PassedBefore Test.OfWidth ws xs r = Never (Fails Test.InRange ws xs r) × Never (Fails Test.Declared ws xs r)

-- what a record is answered under these rows, where the widths are those declared
pub data Ruled {A : Type 0} (rows : List (Row A)) (ws : List (Option Width)) (r : List ℕ) : Result A SheetFault → Type 0 where
  unknown_kind : ((x : Row A) → OfRow rows r x → ⊥) → Ruled rows ws r (Err (fault UnknownKind 0))
  wrong_length : (x : Row A) → OfRow rows r x → (length r ≢ size x) → Ruled rows ws r (Err (fault WrongLength (size x)))
  refused_byte : (x : Row A) → OfRow rows r x → length r ≡ size x
      → (t : Test) → PassedBefore t ws x.fields r
      → (i : ℕ) → Lowest (Fails t ws x.fields r) i
      → Ruled rows ws r (Err (fault (cause_of t (slice_index_or x.fields i Port)) (1 + i)))
  accepted : (x : Row A) → OfRow rows r x → length r ≡ size x
      → ((t : Test) → Never (Fails t ws x.fields r))
      → Ruled rows ws r (Ok (x.says (λ i. slice_index r i)))

-- the rule allows this answer, and no other
pub record ByTheRule {A : Type 0} (rows : List (Row A)) (ws : List (Option Width)) (r : List ℕ) (a : Result A SheetFault) : Type 0 where
  pub holds : Ruled rows ws r a
  pub alone : (b : Result A SheetFault) → Ruled rows ws r b → b ≡ a
