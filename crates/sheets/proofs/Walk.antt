-- The walk over a record's fields and bytes: which ones a turn has, and what follows from the test of them.
use Rattle.std.proofs.Common.{◌≡◌, ℕ, ◌+◌, ◌<◌, Bool, true, false, cond, List, length, get_or, take, drop, Some, None, Ok, Err, Option, Result, refl, ap, ◌∙◌, ◌-◌, length-drop, arith}
use Rattle.std.proofs.lemmas.List.{drop_more, take_all, get_or-drop, get_or_read}
use Rattle.std.proofs.lemmas.List.FromFn.{length-enumerate_from, get_or-enumerate_from}
use Rattle.std.proofs.lemmas.Slice.Zip.{length-zip, get_or-zip}
use Rattle.std.specs.List.{zip, enumerate_from}
use Rattle.sheets.specs.declared.field.Field.{Field}
use Rattle.sheets.specs.declared.fault.Cause.{Cause}
use Rattle.sheets.specs.declared.fault.SheetFault.{SheetFault}
use Rattle.sheets.specs.declared.line.Width.{Width}
use Rattle.sheets.specs.Records.{Test, first_fault, passes, fault, cause_of, unless}

-- what a test answers of a byte, and what follows for the fault
passed : (p : Bool) (x : Cause) (next : Option SheetFault) (f : SheetFault) (r : Option Cause) → r ≡ cond p None (Some x) → r ≡ None → cond p next (Some f) ≡ next
passed true x next f r e h = refl
passed false x next f r e h = cc

refused : (p : Bool) (x : Cause) (next : Option SheetFault) (n : ℕ) (r : Option Cause) (y : Cause) → r ≡ cond p None (Some x) → r ≡ Some y
    → cond p next (Some (fault x n)) ≡ Some (fault y n)
refused true x next n r y e h = cc
refused false x next n r y e h = let q : x ≡ y = cc in ap (λ (z : Cause). Some (fault z n)) q

module _ (t : Test) (ws : List (Option Width)) (xs : List Field) (bs : List ℕ) (i : ℕ) (x : Field) (b : ℕ)
    (h : i < length xs) (f : x ≡ get_or xs i x) (g : b ≡ get_or bs (i + 1) 0)
    (r : Option Cause) (e : r ≡ cond (passes t ws x b (get_or bs 1 0)) None (Some (cause_of t x))) where
  pub fault_more : r ≡ None → first_fault t ws (i + 1) (drop i xs) bs ≡ first_fault t ws (i + 1 + 1) (drop (i + 1) xs) bs
  fault_more n = rw (drop_more xs i x, ← f, ← g) (passed _ _ _ _ r e n)

  pub fault_here : (c : Cause) (j : ℕ) → j ≡ i → r ≡ Some c → first_fault t ws (i + 1) (drop i xs) bs ≡ Some (fault c (j + 1))
  fault_here c j s n = rw (drop_more xs i x, ← f, ← g, s) (refused _ _ _ _ r c e n)

-- the fields with the bytes after the kind byte, as `fields.iter().zip(&bytes[1..]).enumerate()` gives them
module _ (xs : List Field) (bs : List ℕ) (fits : length bs ≡ length xs + 1) where
  abbrev pub body : List ℕ
  body = take (length bs - 1) (drop 1 bs)

  abbrev pub pairs : List (ℕ × (Field × ℕ))
  pairs = enumerate_from 0 (zip xs body)

  body_is : body ≡ drop 1 bs
  body_is = let l = length-drop 1 bs in take_all (length bs - 1) (drop 1 bs) (omega arith)

  body_long : length body ≡ length xs
  body_long = let l = length-drop 1 bs in ap length body_is ∙ l ∙ omega arith

  pairs_long : length pairs ≡ length xs
  pairs_long = let m = body_long in let z = length-zip xs body in length-enumerate_from 0 (zip xs body) ∙ omega arith

  -- item `n` is field `n` with the byte at offset `n + 1`
  pub pair_at : (n : ℕ) (p : ℕ × (Field × ℕ)) → n < length pairs → p ≡ get_or pairs n p → (n < length xs) × (p.0 ≡ n) × (p.1.0 ≡ get_or xs n p.1.0) × (p.1.1 ≡ get_or bs (n + 1) 0)
  pair_at n p h e =
      let long = pairs_long in
      let m = body_long in
      let z = length-zip xs body in
      let q : p ≡ (0 + n, (get_or xs n p.1.0, get_or body n p.1.1)) =
      e ∙ get_or-enumerate_from 0 (zip xs body) n p (omega arith) ∙ ap (λ (y : Field × ℕ). (0 + n, y)) (get_or-zip xs body n p.1 (omega arith) (omega arith)) in
      let first : p.0 ≡ 0 + n = ap (λ (y : ℕ × (Field × ℕ)). y.0) q in
      let at : p.1.1 ≡ get_or body n 0 = get_or_read body n p.1.1 (omega arith) (ap (λ (y : ℕ × (Field × ℕ)). y.1.1) q) 0 in
      let there : get_or body n 0 ≡ get_or bs (n + 1) 0 = ap (λ (ys : List ℕ). get_or ys n 0) body_is ∙ get_or-drop 1 bs n 0 ∙ ap (λ (j : ℕ). get_or bs j 0) (omega arith) in
      (omega arith, omega arith, ap (λ (y : ℕ × (Field × ℕ)). y.1.0) q, at ∙ there)

-- a test of a whole record, and what is left to do
module _ {A : Type 0} (o : Option SheetFault) (r : Result (Unit {0}) SheetFault) (next : Result A SheetFault) (e : r ≡ unless o (Ok tt)) where
  pub stops : (f : SheetFault) → r ≡ Err f → unless o next ≡ Err f
  stops f h = by o e
    where
      by : (p : Option SheetFault) → r ≡ unless p (Ok tt) → unless p next ≡ Err f
      by None q = cc
      by (Some x) q = cc

  pub goes : (x : Unit {0}) → r ≡ Ok x → unless o next ≡ next
  goes x h = by o e
    where
      by : (p : Option SheetFault) → r ≡ unless p (Ok tt) → unless p next ≡ next
      by None q = refl
      by (Some y) q = cc
