-- What the table's definitions answer is what the rule of refusals says.
use Rattle.std.proofs.Common.{◌≡◌, ℕ, zero, suc, ◌+◌, ◌<◌, Bool, true, false, eqb, List, [], ◌∷◌, length, get_or, Some, None, Err, Option, Result, sym, refl, ap, ◌∙◌, subst, inl, inr, ⊎_elim, arith}
use Rattle.std.proofs.lemmas.Bool.{cases_Bool, cond_both, both_ways, eqb-true, eqb-false, eq-eqb, ne_eqb, cases_order}
use Rattle.sheets.specs.declared.line.Width.{Width}
use Rattle.sheets.specs.declared.field.Field.{Field}
use Rattle.sheets.specs.declared.field.Field.TheVariants.{Port}
use Rattle.sheets.specs.declared.fault.Cause.TheVariants.{UnknownKind}
use Rattle.sheets.specs.declared.fault.SheetFault.{SheetFault}
use Rattle.sheets.specs.Table.{Row, size, row_of, declaration_rows, line_rows}
use Rattle.sheets.specs.Records.{Test, passes, cause_of, fault, first_fault, unless, tested, judged, read_as, declaration_of, line_of}
use Rattle.sheets.specs.Rules.{Listed, OfRow, Fails, Never, Lowest, PassedBefore, Ruled, ByTheRule}

-- # The row of a kind

module _ {A : Type 0} (k : ℕ) where
  row_found : (rows : List (Row A)) (x : Row A) → row_of k rows ≡ Some x → Listed x rows × (x.kind ≡ k)
  row_found [] x e = absurd (let z : ◌≡◌ {A = ℕ} 0 1 = cc in omega arith)
  row_found (y ∷ ys) x e = ⊎_elim
      (λ h. let f : y ≡ x = let g : Some y ≡ Some x = (rw h at e) in cc in (inl (sym f), ap (λ (w : Row A). w.kind) (sym f) ∙ eqb-true y.kind k h))
      (λ h. let p = row_found ys x (rw h at e) in (inr p.0, p.1))
      (cases_Bool (eqb y.kind k))

  row_missing : (rows : List (Row A)) → row_of k rows ≡ None → (x : Row A) → Listed x rows → x.kind ≡ k → ⊥
  row_missing [] e x l s = l
  row_missing (y ∷ ys) e x l s = ⊎_elim
      (λ h. let z : ◌≡◌ {A = ℕ} 0 1 = let g : Some y ≡ None = (rw h at e) in cc in omega arith)
      (λ h. ⊎_elim (λ q. eqb-false y.kind k h (ap (λ (w : Row A). w.kind) (sym q) ∙ s)) (λ q. row_missing ys (rw h at e) x q s) l)
      (cases_Bool (eqb y.kind k))

has_byte : {A : Type 0} (rows : List (Row A)) (r : List ℕ) → row_of 0 rows ≡ None → (x : Row A) → row_of (get_or r 0 0) rows ≡ Some x → 0 < length r
has_byte rows [] no_zero x e = absurd (let z : ◌≡◌ {A = ℕ} 0 1 = cc in omega arith)
has_byte rows (b ∷ bs) no_zero x e = omega arith

-- # The lowest offset that fails a test

module _ (t : Test) (ws : List (Option Width)) (r : List ℕ) where
  abbrev good : ℕ → List Field → ℕ → Bool
  good at xs i = passes t ws (get_or xs i Port) (get_or r (at + i) 0) (get_or r 1 0)

  -- the first fault, by the index of its field
  pub record Found (at : ℕ) (xs : List Field) (f : SheetFault) : Type 0 where
    pub index : ℕ
    pub inside : index < length xs
    pub failed : good at xs index ≡ false
    pub is : f ≡ fault (cause_of t (get_or xs index Port)) (at + index)
    pub before : (j : ℕ) → j < index → good at xs j ≡ true

  here : (at : ℕ) (x : Field) (xs : List Field) → good at (x ∷ xs) 0 ≡ passes t ws x (get_or r at 0) (get_or r 1 0)
  here at x xs = ap (λ n. passes t ws x (get_or r n 0) (get_or r 1 0)) (omega arith)

  on : (at : ℕ) (x : Field) (xs : List Field) (j : ℕ) → good at (x ∷ xs) (suc j) ≡ good (at + 1) xs j
  on at x xs j = ap (λ n. passes t ws (get_or xs j Port) (get_or r n 0) (get_or r 1 0)) (omega arith)

  -- what holds at the first field and below `n` at the others
  below : (at : ℕ) (x : Field) (xs : List Field) (n : ℕ) → passes t ws x (get_or r at 0) (get_or r 1 0) ≡ true
      → ((j : ℕ) → j < n → good (at + 1) xs j ≡ true) → (j : ℕ) → j < suc n → good at (x ∷ xs) j ≡ true
  below at x xs n p rest zero h = here at x xs ∙ p
  below at x xs n p rest (suc j) h = on at x xs j ∙ rest j (omega arith)

  first_none : (at : ℕ) (xs : List Field) → first_fault t ws at xs r ≡ None → (j : ℕ) → j < length xs → good at xs j ≡ true
  first_none at [] e j h = absurd (omega arith)
  first_none at (x ∷ xs) e j h = ⊎_elim
      (λ p. below at x xs (length xs) p (first_none (at + 1) xs (rw p at e)) j h)
      (λ p. absurd (let g : Some (fault (cause_of t x) at) ≡ None = (rw p at e) in let z : ◌≡◌ {A = ℕ} 0 1 = cc in omega arith))
      (cases_Bool (passes t ws x (get_or r at 0) (get_or r 1 0)))

  first_some : (at : ℕ) (xs : List Field) (f : SheetFault) → first_fault t ws at xs r ≡ Some f → Found at xs f
  first_some at [] f e = absurd (let z : ◌≡◌ {A = ℕ} 0 1 = cc in omega arith)
  first_some at (x ∷ xs) f e = ⊎_elim
      (λ p.
      let q = first_some (at + 1) xs f (rw p at e) in
      record {
        index = suc q.index;
        inside = omega arith;
        failed = on at x xs q.index ∙ q.failed;
        is = q.is ∙ ap (fault (cause_of t (get_or xs q.index Port))) (omega arith);
        before = below at x xs q.index p q.before;
      })
      (λ p.
      let g : Some (fault (cause_of t x) at) ≡ Some f = (rw p at e) in
      let k : f ≡ fault (cause_of t x) at = cc in
      record {
        index = 0;
        inside = omega arith;
        failed = here at x xs ∙ p;
        is = k ∙ ap (fault (cause_of t x)) (omega arith);
        before = λ j h. absurd (omega arith);
      })
      (cases_Bool (passes t ws x (get_or r at 0) (get_or r 1 0)))

-- # The answer

module _ {A : Type 0} (rows : List (Row A)) (ws : List (Option Width)) (r : List ℕ) where
  module _ (x : Row A) (of_row : OfRow rows r x) (long : length r ≡ size x) where
    never : (t : Test) → first_fault t ws 1 x.fields r ≡ None → Never (Fails t ws x.fields r)
    never t e i f = both_ways _ f.failed (first_none t ws r 1 x.fields e i f.inside)

    lowest : (t : Test) (f : SheetFault) → PassedBefore t ws x.fields r → first_fault t ws 1 x.fields r ≡ Some f → Ruled rows ws r (Err f)
    lowest t f before e =
        let q = first_some t ws r 1 x.fields f e in
        let l : Lowest (Fails t ws x.fields r) q.index = record {
          holds = record { inside = q.inside; failed = q.failed };
          none_below = λ j h k. both_ways _ k.failed (q.before j h);
        } in
        subst (λ (g : SheetFault). Ruled rows ws r (Err g)) (sym q.is) (Ruled.refused_byte x of_row long t before q.index l)

    test : (t : Test) (next : Result A SheetFault) (o : Option SheetFault) → first_fault t ws 1 x.fields r ≡ o
        → PassedBefore t ws x.fields r → (Never (Fails t ws x.fields r) → Ruled rows ws r next) → Ruled rows ws r (unless o next)
    test t next None e before rest = rest (never t e)
    test t next (Some f) e before rest = lowest t f before e

    passed : Never (Fails Test.InRange ws x.fields r) → Never (Fails Test.Declared ws x.fields r) → Never (Fails Test.OfWidth ws x.fields r)
        → (t : Test) → Never (Fails t ws x.fields r)
    passed a b c Test.InRange = a
    passed a b c Test.Declared = b
    passed a b c Test.OfWidth = c

    by_tests : Ruled rows ws r (tested ws x.fields r (x.says (λ i. get_or r i 0)))
    by_tests =
        test Test.InRange _ (first_fault Test.InRange ws 1 x.fields r) refl tt (λ a.
        test Test.Declared _ (first_fault Test.Declared ws 1 x.fields r) refl a (λ b.
        test Test.OfWidth _ (first_fault Test.OfWidth ws 1 x.fields r) refl (a, b) (λ c.
        Ruled.accepted x of_row long (passed a b c))))

  by_row : row_of 0 rows ≡ None → (o : Option (Row A)) → row_of (get_or r 0 0) rows ≡ o → Ruled rows ws r (judged ws r o)
  by_row no_zero None e = Ruled.unknown_kind (λ x q. row_missing (get_or r 0 0) rows e x q.listed q.kind)
  by_row no_zero (Some x) e =
      let f = row_found (get_or r 0 0) rows x e in
      let q : OfRow rows r x = record { listed = f.0; there = has_byte rows r no_zero x e; kind = f.1 } in
      cond_both (eqb (length r) (size x)) _ _ (Ruled rows ws r)
      (λ h. by_tests x q (eqb-true (length r) (size x) h))
      (λ h. Ruled.wrong_length x q (eqb-false (length r) (size x) h))

  -- where no row has kind 0, which is what an empty record would read as
  ruled : row_of 0 rows ≡ None → Ruled rows ws r (read_as rows ws r)
  ruled no_zero = by_row no_zero (row_of (get_or r 0 0) rows) refl

-- # No other answer

-- each kind has one row
abbrev pub Apart : {A : Type 0} → List (Row A) → Type 0
Apart [] = Unit {0}
Apart (x ∷ xs) = (row_of x.kind xs ≡ None) × Apart xs

pub declaration_apart : Apart declaration_rows
declaration_apart = (refl, tt)

pub line_apart : Apart line_rows
line_apart = (refl, (refl, (refl, (refl, (refl, (refl, (refl, (refl, (refl, tt)))))))))

row_there : {A : Type 0} (k : ℕ) (rows : List (Row A)) (x : Row A) → Apart rows → Listed x rows → x.kind ≡ k → row_of k rows ≡ Some x
row_there k [] x a l e = absurd l
row_there k (y ∷ ys) x a l e = ⊎_elim
    (λ q. let h : eqb y.kind k ≡ true = eq-eqb y.kind k (ap (λ (w : Row _). w.kind) (sym q) ∙ e) in rw h (ap Some (sym q)))
    (λ q. ⊎_elim
    (λ h. absurd (row_missing y.kind ys a.0 x q (e ∙ sym (eqb-true y.kind k h))))
    (λ h. rw h (row_there k ys x a.1 q e))
    (cases_Bool (eqb y.kind k)))
    l

module _ (t : Test) (ws : List (Option Width)) (r : List ℕ) (xs : List Field) where
  none_first : Never (Fails t ws xs r) → first_fault t ws 1 xs r ≡ None
  none_first n = by_fault (first_fault t ws 1 xs r) refl
    where
      by_fault : (o : Option SheetFault) → first_fault t ws 1 xs r ≡ o → o ≡ None
      by_fault None e = refl
      by_fault (Some f) e = let q = first_some t ws r 1 xs f e in absurd (n q.index (record { inside = q.inside; failed = q.failed }))

  lowest_first : (i : ℕ) → Lowest (Fails t ws xs r) i → first_fault t ws 1 xs r ≡ Some (fault (cause_of t (get_or xs i Port)) (1 + i))
  lowest_first i l = by_fault (first_fault t ws 1 xs r) refl
    where
      by_fault : (o : Option SheetFault) → first_fault t ws 1 xs r ≡ o → o ≡ Some (fault (cause_of t (get_or xs i Port)) (1 + i))
      by_fault None e = absurd (both_ways _ l.holds.failed (first_none t ws r 1 xs e i l.holds.inside))
      by_fault (Some f) e =
          let q = first_some t ws r 1 xs f e in
          let same : q.index ≡ i = ⊎_elim
          (λ h. h)
          (⊎_elim
          (λ h. absurd (l.none_below q.index h (record { inside = q.inside; failed = q.failed })))
          (λ h. absurd (both_ways _ l.holds.failed (q.before i h))))
          (cases_order q.index i) in
          ap Some (q.is ∙ ap (λ (n : ℕ). fault (cause_of t (get_or xs n Port)) (1 + n)) same)

module _ {A : Type 0} (rows : List (Row A)) (no_zero : row_of 0 rows ≡ None) (apart : Apart rows) (ws : List (Option Width)) (r : List ℕ) where
  at_row : (x : Row A) → OfRow rows r x → read_as rows ws r ≡ judged ws r (Some x)
  at_row x o = ap (judged ws r) (row_there (get_or r 0 0) rows x apart o.listed o.kind)

  at_length : (x : Row A) → OfRow rows r x → length r ≡ size x → read_as rows ws r ≡ tested ws x.fields r (x.says (λ i. get_or r i 0))
  at_length x o l = at_row x o ∙ rw (eq-eqb (length r) (size x) l)

  at_byte : (x : Row A) (a : A) (t : Test) → PassedBefore t ws x.fields r → (i : ℕ) → Lowest (Fails t ws x.fields r) i
      → tested ws x.fields r a ≡ Err (fault (cause_of t (get_or x.fields i Port)) (1 + i))
  at_byte x a Test.InRange before i l = rw (lowest_first Test.InRange ws r x.fields i l)
  at_byte x a Test.Declared before i l = rw (none_first Test.InRange ws r x.fields before, lowest_first Test.Declared ws r x.fields i l)
  at_byte x a Test.OfWidth before i l =
      rw (none_first Test.InRange ws r x.fields before.0, none_first Test.Declared ws r x.fields before.1, lowest_first Test.OfWidth ws r x.fields i l)

  no_row : ((x : Row A) → OfRow rows r x → ⊥) → (o : Option (Row A)) → row_of (get_or r 0 0) rows ≡ o → Err (fault UnknownKind 0) ≡ judged ws r o
  no_row n None e = refl
  no_row n (Some x) e =
      let f = row_found (get_or r 0 0) rows x e in
      absurd (n x (record { listed = f.0; there = has_byte rows r no_zero x e; kind = f.1 }))

  alone : (b : Result A SheetFault) → Ruled rows ws r b → b ≡ read_as rows ws r
  alone b (Ruled.unknown_kind n) = no_row n (row_of (get_or r 0 0) rows) refl
  alone b (Ruled.wrong_length x o n) = sym (at_row x o ∙ rw (ne_eqb (length r) (size x) n))
  alone b (Ruled.refused_byte x o len t before i l) = sym (at_length x o len ∙ at_byte x _ t before i l)
  alone b (Ruled.accepted x o len n) =
      sym (at_length x o len
      ∙ rw (none_first Test.InRange ws r x.fields (n Test.InRange), none_first Test.Declared ws r x.fields (n Test.Declared), none_first Test.OfWidth ws r x.fields (n Test.OfWidth)))

  pub by_the_rule : ByTheRule rows ws r (read_as rows ws r)
  by_the_rule = record { holds = ruled rows ws r no_zero; alone = alone }

pub declaration_by_rule : (ws : List (Option Width)) (r : List ℕ) → ByTheRule declaration_rows ws r (declaration_of ws r)
declaration_by_rule = by_the_rule declaration_rows refl declaration_apart

pub line_by_rule : (ws : List (Option Width)) (r : List ℕ) → ByTheRule line_rows ws r (line_of ws r)
line_by_rule = by_the_rule line_rows refl line_apart
