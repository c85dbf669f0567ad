-- The twelve variables, one after another.
use Rattle.std.specs.Prelude.{◌≡◌, ℕ, zero, suc, ◌+◌, ◌<◌, ◌≤◌, Bool, true, false, ◌&&◌, List, [], ◌∷◌, drop, filter, nat_le, nat_lt, slice_index_or, refl}
use Rattle.std.proofs.Common.{sym, ap, ap₂, ◌∙◌, ⊎_elim, arith, add-one}
use Rattle.std.proofs.lemmas.Bool.{cond-true, cond-false, and_parts, ltb-true, leb-true, or_left, or_right, or_from, or_cases, both_ways, cases_lt}
use Rattle.graphs.specs.Counts.{sized}
use Rattle.graphs.specs.Masks.{up_from, twelve, some_below}

drop_up : (v a n : ℕ) → v < n → drop v (up_from a n) ≡ (a + v) ∷ drop (suc v) (up_from a n)
drop_up v a zero h = absurd (omega arith)
drop_up zero a (suc n) h = ap (λ x. x ∷ up_from (suc a) n) (omega arith)
drop_up (suc v) a (suc n) h = drop_up v (suc a) n (omega arith) ∙ ap (λ x. x ∷ drop (suc v) (up_from (suc a) n)) (omega arith)

pub drop_twelve : (v : ℕ) → v < 12 → drop v twelve ≡ v ∷ drop (v + 1) twelve
unfolding twelve
drop_twelve v h = drop_up v 0 12 h ∙ ap₂ (λ x n. x ∷ drop n (up_from 0 12)) (omega arith) (sym (add-one v))

pub none_past : (t : ℕ → Bool) (v : ℕ) → v ≡ 12 → filter t (drop v twelve) ≡ []
unfolding twelve
none_past t v e = ap (λ n. filter t (drop n twelve)) e

pub next_in : (t : ℕ → Bool) (v : ℕ) → v < 12 → t v ≡ true → filter t (drop v twelve) ≡ v ∷ filter t (drop (v + 1) twelve)
next_in t v h e = ap (filter t) (drop_twelve v h) ∙ cond-true (t v) _ _ e

pub next_out : (t : ℕ → Bool) (v : ℕ) → v < 12 → t v ≡ false → filter t (drop v twelve) ≡ filter t (drop (v + 1) twelve)
next_out t v h e = ap (filter t) (drop_twelve v h) ∙ cond-false (t v) _ _ e

-- the default is a count too, so nothing is asked of v
pub count_fits : (xs : List ℕ) (v : ℕ) → sized xs ≡ true → (0 < slice_index_or xs v 1) × (slice_index_or xs v 1 ≤ 5)
count_fits [] v e = (omega arith, omega arith)
count_fits (x ∷ xs) zero e = let p = and_parts _ _ (and_parts (nat_lt 0 x && nat_le x 5) (sized xs) e).0 in (ltb-true 0 x p.0, leb-true x 5 p.1)
count_fits (x ∷ xs) (suc v) e = count_fits xs v (and_parts (nat_lt 0 x && nat_le x 5) (sized xs) e).1

pub some_at : (n : ℕ) (t : ℕ → Bool) (i : ℕ) → i < n → t i ≡ true → some_below n t ≡ true
some_at zero t i h e = absurd (omega arith)
some_at (suc n) t i h e = ⊎_elim
    (λ l. or_right (t n) (some_below n t) (some_at n t i l e))
    (λ l. let q : n ≡ i = omega arith in or_left (t n) (some_below n t) (ap t q ∙ e))
    (cases_lt i n)

pub some_none : (n : ℕ) (t : ℕ → Bool) → ((i : ℕ) → i < n → t i ≡ false) → some_below n t ≡ false
some_none zero t h = refl
some_none (suc n) t h = or_from (t n) (some_below n t) (h n (omega arith)) (some_none n t (λ i l. h i (omega arith)))

pub record Somewhere (Q : ℕ → Type 0) : Type 0 where
  pub place : ℕ
  pub there : Q place

pub some_found : (n : ℕ) (t : ℕ → Bool) → some_below n t ≡ true → Somewhere (λ z. (z < n) × (t z ≡ true))
some_found zero t e = absurd (both_ways false refl e)
some_found (suc n) t e = ⊎_elim
    (λ h. record { place = n; there = (omega arith, h) })
    (λ h. let r = some_found n t h in let l : r.place < n = r.there.0 in record { place = r.place; there = (omega arith, r.there.1) })
    (or_cases (t n) (some_below n t) e)
