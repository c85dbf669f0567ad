-- Every entry has a place of its own.
use Rattle.std.proofs.Common.{◌≡◌, ℕ, zero, suc, ◌+◌, ◌-◌, ◌*◌, ◌/◌, ◌%◌, ◌<◌, ◌≤◌, Bool, true, false, cond, not, ◌&&◌, eqb, ltb, leb, ◌⊎◌, Some, None, Option, sym, refl, ap, ◌∙◌, subst, ap₂, inl, inr, ⊎_elim, arith}
use Rattle.std.proofs.lemmas.Bool.{and_from, and_parts, cases_Bool, cases_lt, cases_order, cond-true, cond-false, ltb-true, lt-ltb, le-ltb, eqb-true, eq-eqb, ne_eqb, both_ways}
use Rattle.graphs.specs.Places.{vector_at, matrix_at, pair_no, entry_at, Pair, Entry, of_vector, of_matrix, is_pair, is_entry, place_in, place_of, ordered, Standing, Layout}
use Rattle.graphs.proofs.Apart.{start, pair_below, pair_first, pair_second}
use Rattle.graphs.specs.Below.{below}

-- a matrix entry with its lower variable first
record Low (u v i j : ℕ) : Type 0 where
  up : u < v
  variable : v < 12
  first : i < 5
  second : j < 5

abbrev read : Option ℕ → ℕ
read None = 1710
read (Some p) = p

abbrev given : Option ℕ → ℕ
given None = 0
given (Some p) = 1

-- a place answered is that of an entry
there : (e : Entry) (p : ℕ) → place_of e ≡ Some p → (is_entry e ≡ true) × (place_in e ≡ p)
there e p h = go (is_entry e) h
  where
    go : (b : Bool) → cond b (Some (place_in e)) None ≡ Some p → (b ≡ true) × (place_in e ≡ p)
    go true q = (refl, ap read q)
    go false q = let z : ◌≡◌ {A = ℕ} 0 1 = ap given q in absurd (omega arith)

-- which way round a matrix entry stands
abbrev Turned : ℕ → ℕ → ℕ → ℕ → Type 0
Turned u v i j =
    (Low u v i j × (entry_at u v i j ≡ matrix_at u v i j) × (ordered (of_matrix u v i j) ≡ of_matrix u v i j))
    ⊎ (Low v u j i × (entry_at u v i j ≡ matrix_at v u j i) × (ordered (of_matrix u v i j) ≡ of_matrix v u j i))

apart_vars : (u v : ℕ) → not (eqb u v) ≡ true → u ≡ v → ⊥
apart_vars u v h e = let z : ◌≡◌ {A = Bool} false true = ap not (sym (eq-eqb u v e)) ∙ h in both_ways true (sym z) refl

pub pair_parts : (u v : ℕ) → is_pair u v ≡ true → Pair u v
pair_parts u v h =
    let p = and_parts (ltb u 12 && ltb v 12) (not (eqb u v)) h in
    let vars = and_parts (ltb u 12) (ltb v 12) p.0 in
    record { left = ltb-true _ _ vars.0; right = ltb-true _ _ vars.1; apart = apart_vars u v p.1 }

pub entry_parts : (u v i j : ℕ) → is_entry (of_matrix u v i j) ≡ true → Pair u v × (i < 5) × (j < 5)
entry_parts u v i j h =
    let p = and_parts (is_pair u v) _ h in
    let picks = and_parts (ltb i 5) (ltb j 5) p.1 in
    (pair_parts u v p.0, ltb-true _ _ picks.0, ltb-true _ _ picks.1)

turned : (u v i j : ℕ) → is_entry (of_matrix u v i j) ≡ true → Turned u v i j
turned u v i j h =
    let n = entry_parts u v i j h in
    let hu = n.0.left in
    let hv = n.0.right in
    let hi : i < 5 = n.1 in
    let hj : j < 5 = n.2 in
    ⊎_elim (λ e. absurd (n.0.apart e)) (⊎_elim
    (λ l. inl (record { up = l; variable = hv; first = hi; second = hj }, cond-true (ltb u v) _ _ (lt-ltb u v l), cond-true (ltb u v) _ _ (lt-ltb u v l)))
    (λ l. inr (record { up = l; variable = hu; first = hj; second = hi }, cond-false (ltb u v) _ _ (le-ltb u v (omega arith)), cond-false (ltb u v) _ _ (le-ltb u v (omega arith)))))
    (cases_order u v)

low_within : (u v i j : ℕ) → Low u v i j → (60 ≤ matrix_at u v i j) × (matrix_at u v i j < 1710)
low_within u v i j n = let p = pair_below u v n.up n.variable in (omega (arith, n.first, n.second), omega (arith, n.first, n.second))

low_apart : (u v i j u' v' i' j' : ℕ) → Low u v i j → Low u' v' i' j' → matrix_at u v i j ≡ matrix_at u' v' i' j' → of_matrix u v i j ≡ of_matrix u' v' i' j'
low_apart u v i j u' v' i' j' n n' e =
    let p : pair_no u v ≡ pair_no u' v' = omega (arith, n.first, n.second, n'.first, n'.second) in
    let eu : u ≡ u' = pair_first u v u' v' n.up n.variable n'.up n'.variable p in
    let ev : v ≡ v' = pair_second u v v' n.up (omega (arith, n'.up)) (p ∙ ap (λ x. pair_no x v') (sym eu)) in
    let ei : i ≡ i' = omega (arith, n.first, n.second, n'.first, n'.second) in
    let ej : j ≡ j' = omega (arith, n.first, n.second, n'.first, n'.second) in
    ap₂ (λ x y. of_matrix x y i j) eu ev ∙ ap₂ (of_matrix u' v') ei ej

within : (e : Entry) (p : ℕ) → place_of e ≡ Some p → p < 1710
within (of_vector v i) p h =
    let t = there (of_vector v i) p h in
    let b = and_parts (ltb v 12) (ltb i 5) t.0 in
    omega (arith, ltb-true _ _ b.0, ltb-true _ _ b.1, t.1)
within (of_matrix u v i j) p h =
    let t = there (of_matrix u v i j) p h in
    ⊎_elim
    (λ w. subst (λ x. x < 1710) (sym w.1 ∙ t.1) (low_within u v i j w.0).1)
    (λ w. subst (λ x. x < 1710) (sym w.1 ∙ t.1) (low_within v u j i w.0).1)
    (turned u v i j t.0)

-- a vector and a matrix share no place
not_both : (v i u w x y p : ℕ) → place_of (of_vector v i) ≡ Some p → place_of (of_matrix u w x y) ≡ Some p → ⊥
not_both v i u w x y p h l =
    let t = there (of_vector v i) p h in
    let b = and_parts (ltb v 12) (ltb i 5) t.0 in
    let s = there (of_matrix u w x y) p l in
    ⊎_elim
    (λ d. let z = low_within u w x y d.0 in omega (arith, ltb-true _ _ b.0, ltb-true _ _ b.1, t.1, s.1, d.1, z.0))
    (λ d. let z = low_within w u y x d.0 in omega (arith, ltb-true _ _ b.0, ltb-true _ _ b.1, t.1, s.1, d.1, z.0))
    (turned u w x y s.0)

apart : (e f : Entry) (p : ℕ) → place_of e ≡ Some p → place_of f ≡ Some p → ordered e ≡ ordered f
apart (of_vector v i) (of_vector w j) p h l =
    let t = there (of_vector v i) p h in
    let s = there (of_vector w j) p l in
    let b = and_parts (ltb v 12) (ltb i 5) t.0 in
    let d = and_parts (ltb w 12) (ltb j 5) s.0 in
    let ev : v ≡ w = omega (arith, ltb-true _ _ b.1, ltb-true _ _ d.1, t.1, s.1) in
    let ei : i ≡ j = omega (arith, ltb-true _ _ b.1, ltb-true _ _ d.1, t.1, s.1) in
    ap₂ of_vector ev ei
apart (of_vector v i) (of_matrix u w x y) p h l = absurd (not_both v i u w x y p h l)
apart (of_matrix u w x y) (of_vector v i) p h l = absurd (not_both v i u w x y p l h)
apart (of_matrix u v i j) (of_matrix u' v' i' j') p h l =
    let t = there (of_matrix u v i j) p h in
    let s = there (of_matrix u' v' i' j') p l in
    let same : entry_at u v i j ≡ entry_at u' v' i' j' = t.1 ∙ sym s.1 in
    ⊎_elim
    (λ a. ⊎_elim
    (λ b. a.2 ∙ low_apart u v i j u' v' i' j' a.0 b.0 (sym a.1 ∙ same ∙ b.1) ∙ sym b.2)
    (λ b. a.2 ∙ low_apart u v i j v' u' j' i' a.0 b.0 (sym a.1 ∙ same ∙ b.1) ∙ sym b.2)
    (turned u' v' i' j' s.0))
    (λ a. ⊎_elim
    (λ b. a.2 ∙ low_apart v u j i u' v' i' j' a.0 b.0 (sym a.1 ∙ same ∙ b.1) ∙ sym b.2)
    (λ b. a.2 ∙ low_apart v u j i v' u' j' i' a.0 b.0 (sym a.1 ∙ same ∙ b.1) ∙ sym b.2)
    (turned u' v' i' j' s.0))
    (turned u v i j t.0)

-- the other way round
and_comm : (a b : Bool) → (a && b) ≡ (b && a)
and_comm true true = refl
and_comm true false = refl
and_comm false true = refl
and_comm false false = refl

eqb_comm : (u v : ℕ) → eqb u v ≡ eqb v u
eqb_comm u v = ⊎_elim (λ t. t ∙ sym (eq-eqb v u (sym (eqb-true u v t))))
    (λ f. f ∙ sym (ne_eqb v u (λ e. both_ways (eqb u v) f (eq-eqb u v (sym e))))) (cases_Bool (eqb u v))

same_test : (u v i j : ℕ) → is_entry (of_matrix u v i j) ≡ is_entry (of_matrix v u j i)
same_test u v i j = ap₂ ◌&&◌ (ap₂ (λ a b. a && not b) (and_comm (ltb u 12) (ltb v 12)) (eqb_comm u v)) (and_comm (ltb i 5) (ltb j 5))

same_place : (u v i j : ℕ) → (u ≡ v → ⊥) → entry_at u v i j ≡ entry_at v u j i
same_place u v i j ne = ⊎_elim (λ e. absurd (ne e)) (⊎_elim
    (λ l. cond-true (ltb u v) _ _ (lt-ltb u v l) ∙ sym (cond-false (ltb v u) _ _ (le-ltb v u (omega arith))))
    (λ l. cond-false (ltb u v) _ _ (le-ltb u v (omega arith)) ∙ sym (cond-true (ltb v u) _ _ (lt-ltb v u l)))) (cases_order u v)

either_order : (u v i j : ℕ) → place_of (of_matrix u v i j) ≡ place_of (of_matrix v u j i)
either_order u v i j = ⊎_elim
    (λ t. cond-true (is_entry (of_matrix u v i j)) _ _ t
    ∙ ap Some (same_place u v i j (entry_parts u v i j t).0.apart)
    ∙ sym (cond-true (is_entry (of_matrix v u j i)) _ _ (sym (same_test u v i j) ∙ t)))
    (λ f. cond-false (is_entry (of_matrix u v i j)) _ _ f ∙ sym (cond-false (is_entry (of_matrix v u j i)) _ _ (sym (same_test u v i j) ∙ f)))
    (cases_Bool (is_entry (of_matrix u v i j)))

-- # No place is left over
-- the first variable of the pair with number n: how many rows of pairs end before it
abbrev row_of : ℕ → ℕ → ℕ
row_of zero n = 0
row_of (suc u) n = row_of u n + cond (leb (start u + 11) (n + u)) 1 0

first : ℕ → ℕ
first n = row_of 11 n

second : ℕ → ℕ
second n = n + 1 + first n - start (first n)

pair_test : ℕ → Bool
pair_test n = (ltb (first n) (second n) && ltb (second n) 12) && eqb (pair_no (first n) (second n)) n

pair_test_lem : (n : ℕ) → n < 66 → pair_test n ≡ true
unfolding pair_test first second
pair_test_lem n h = below pair_test 66 refl n h

pair_of : (n : ℕ) → n < 66 → (first n < second n) × (second n < 12) × (pair_no (first n) (second n) ≡ n)
unfolding pair_test
pair_of n h =
    let t = and_parts (ltb (first n) (second n) && ltb (second n) 12) _ (pair_test_lem n h) in
    let p = and_parts (ltb (first n) (second n)) (ltb (second n) 12) t.0 in
    (ltb-true _ _ p.0, ltb-true _ _ p.1, eqb-true _ _ t.1)

in_vector : (p : ℕ) → p < 60 → Standing p
in_vector p h =
    let v = p / 5 in let i = p % 5 in
    let hv : v < 12 = omega arith in
    let hi : i < 5 = omega arith in
    let e : vector_at v i ≡ p = omega arith in
    record { entry = of_vector v i; there = cond-true (is_entry (of_vector v i)) _ _ (and_from _ _ (lt-ltb v 12 hv) (lt-ltb i 5 hi)) ∙ ap Some e }

in_matrix : (p : ℕ) → 60 ≤ p → p < 1710 → Standing p
in_matrix p l h =
    let n = (p - 60) / 25 in let i = (p - 60) % 25 / 5 in let j = (p - 60) % 25 % 5 in
    let u = first n in let v = second n in
    let q = pair_of n (omega arith) in
    let up : u < v = q.0 in
    let hv : v < 12 = q.1 in
    let hi : i < 5 = omega arith in
    let hj : j < 5 = omega arith in
    let ne : not (eqb u v) ≡ true = ap not (ne_eqb u v (λ e. omega arith)) in
    let ok : is_entry (of_matrix u v i j) ≡ true = and_from _ _ (and_from _ _ (and_from _ _ (lt-ltb u 12 (omega arith)) (lt-ltb v 12 hv)) ne) (and_from _ _ (lt-ltb i 5 hi) (lt-ltb j 5 hj)) in
    let at : 60 + 25 * n + 5 * i + j ≡ p = omega arith in
    record {
      entry = of_matrix u v i j;
      there = cond-true (is_entry (of_matrix u v i j)) _ _ ok ∙ ap Some (cond-true (ltb u v) _ _ (lt-ltb u v up) ∙ ap (λ x. 60 + 25 * x + 5 * i + j) q.2 ∙ at);
    }

filled : (p : ℕ) → p < 1710 → Standing p
filled p h = ⊎_elim (λ l. in_vector p l) (λ l. in_matrix p l h) (cases_lt p 60)

pub layout_stands : Layout
layout_stands = record { within = within; either_order = either_order; apart = apart; filled = filled }
