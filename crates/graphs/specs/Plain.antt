-- The lowest total, computed over all choices, is the total of an assignment, and none is lower.
use Rattle.std.specs.Prelude.{◌≡◌, ℕ, pred, ◌<◌, ◌≤◌, true, List, [], ◌∷◌, ◌==◌, ◌≢◌, refl}
use Rattle.std.proofs.Common.{sym, ap, ap₂, ◌∙◌, subst, arith}
use Rattle.std.specs.List.{AllByRecursion}
use Rattle.std.proofs.lemmas.Bool.{cond_both, cond-true, cond-false, eq-eqb, ne_eqb, eqb-true}
use Rattle.prices.specs.declared.price.Price.{Ghosts as Kind}
use Rattle.graphs.specs.Model.{Entries, Model, Proper, cost, beside, sum_over, total, Within, Lowest, arg, put, choice_in, lowest_beside, lowest, LowestJoined}
use Rattle.graphs.specs.Low.{le_refl, low_le, arg_le, arg_low, le_same}

pub put_same : (a : ℕ → ℕ) (x i : ℕ) → put a x i x ≡ i
put_same a x i = cond-true (x == x) i (a x) (eq-eqb x x refl)

pub put_other : (a : ℕ → ℕ) (x i y : ℕ) → (y ≢ x) → put a x i y ≡ a y
put_other a x i y h = cond-false (y == x) i (a y) (ne_eqb y x h)

-- b's choices at a list, over a
abbrev pub overlay : List ℕ → (ℕ → ℕ) → (ℕ → ℕ) → (ℕ → ℕ)
overlay [] b a = a
overlay (x ∷ xs) b a = overlay xs b (put a x (b x))

pub overlay_keeps : (xs : List ℕ) (b a : ℕ → ℕ) (y : ℕ) → a y ≡ b y → overlay xs b a y ≡ b y
overlay_keeps [] b a y e = e
overlay_keeps (x ∷ xs) b a y e = overlay_keeps xs b (put a x (b x)) y (cond_both (y == x) (b x) (a y) (λ v. v ≡ b y) (λ t. ap b (sym (eqb-true y x t))) (λ _. e))

pub overlay_at : (xs : List ℕ) (b a : ℕ → ℕ) → AllByRecursion (λ x. overlay xs b a x ≡ b x) xs
overlay_at [] b a = tt
overlay_at (x ∷ xs) b a = (overlay_keeps xs b (put a x (b x)) x (put_same a x (b x)), overlay_at xs b (put a x (b x)))

module _ {P : Type 0} (k : Kind P) where
  pub beside_agree : (t : Entries P) (u : ℕ) (ys : List ℕ) (i : ℕ) (a b : ℕ → ℕ) → AllByRecursion (λ x. a x ≡ b x) ys → beside k t u ys i a ≡ beside k t u ys i b
  beside_agree t u [] i a b h = refl
  beside_agree t u (y ∷ ys) i a b h = ap₂ k.sum (ap (cost t u y i) h.0) (beside_agree t u ys i a b h.1)

  pub sum_over_agree : (t : Entries P) (xs : List ℕ) (a b : ℕ → ℕ) → AllByRecursion (λ x. a x ≡ b x) xs → sum_over k t xs a ≡ sum_over k t xs b
  sum_over_agree t [] a b h = refl
  sum_over_agree t (x ∷ xs) a b h =
      ap₂ k.sum (ap (λ i. beside k t x xs i a) h.0 ∙ beside_agree t x xs (b x) a b h.1) (sum_over_agree t xs a b h.1)

-- a choice of the lowest, for each variable in turn
abbrev pick_beside : {P : Type 0} → Kind P → (ℕ → ℕ) → ((ℕ → ℕ) → P) → List ℕ → List (ℕ × ℕ) → List (ℕ × ℕ)
pick_beside k n f [] taken = taken
pick_beside k n f (x ∷ xs) taken = pick_beside k n f xs ((x, arg k (λ i. lowest_beside k n f xs ((x, i) ∷ taken)) (pred (n x))) ∷ taken)

module _ {P : Type 0} (k : Kind P) (n : ℕ → ℕ) (f : (ℕ → ℕ) → P) where
  pick_meets : (xs : List ℕ) (taken : List (ℕ × ℕ)) → f (choice_in (pick_beside k n f xs taken)) ≡ lowest_beside k n f xs taken
  pick_meets [] taken = refl
  pick_meets (x ∷ xs) taken = pick_meets xs _ ∙ arg_low k (λ i. lowest_beside k n f xs ((x, i) ∷ taken)) (pred (n x))

  best : (x : ℕ) (xs : List ℕ) (taken : List (ℕ × ℕ)) → 0 < n x → arg k (λ i. lowest_beside k n f xs ((x, i) ∷ taken)) (pred (n x)) < n x
  best x xs taken h = omega (arith, arg_le k (λ i. lowest_beside k n f xs ((x, i) ∷ taken)) (pred (n x)))

  pick_keeps : (xs : List ℕ) (taken : List (ℕ × ℕ)) (y : ℕ) → AllByRecursion (λ x. 0 < n x) xs → choice_in taken y < n y → choice_in (pick_beside k n f xs taken) y < n y
  pick_keeps [] taken y some h = h
  pick_keeps (x ∷ xs) taken y some h =
      pick_keeps xs _ y some.1 (cond_both (y == x) _ (choice_in taken y) (λ v. v < n y) (λ t. subst (λ v. arg k (λ i. lowest_beside k n f xs ((x, i) ∷ taken)) (pred (n x)) < n v) (sym (eqb-true y x t)) (best x xs taken some.0)) (λ _. h))

  pick_within : (xs : List ℕ) (taken : List (ℕ × ℕ)) → AllByRecursion (λ x. 0 < n x) xs → Within n xs (choice_in (pick_beside k n f xs taken))
  pick_within [] taken some = tt
  pick_within (x ∷ xs) taken some =
      (pick_keeps xs _ x some.1 (subst (λ v. v < n x) (sym (put_same (choice_in taken) x _)) (best x xs taken some.0)), pick_within xs _ some.1)

  lowest_le : (xs : List ℕ) (taken : List (ℕ × ℕ)) (b : ℕ → ℕ) → Within n xs b → k.at_most (lowest_beside k n f xs taken) (f (overlay xs b (choice_in taken))) ≡ true
  lowest_le [] taken b h = le_refl k (f (choice_in taken))
  lowest_le (x ∷ xs) taken b h =
      let within : b x ≤ pred (n x) = omega (arith, h.0) in
      k.laws.chain _ _ _ (low_le k (λ i. lowest_beside k n f xs ((x, i) ∷ taken)) (pred (n x)) (b x) within) (lowest_le xs ((x, b x) ∷ taken) b h.1)

abbrev pub pick : {P : Type 0} → Kind P → Model P → ℕ → ℕ
pick k g = choice_in (pick_beside k g.count (total k g) g.variables [])

pub lowest_met : {P : Type 0} (k : Kind P) (g : Model P) → Proper g → Lowest k g (lowest k g) (pick k g)
unfolding lowest
lowest_met k g proper = record {
  valid = pick_within k g.count (total k g) g.variables [] proper.some;
  meets = pick_meets k g.count (total k g) g.variables [];
  least = λ b h. k.laws.chain _ _ _ (lowest_le k g.count (total k g) g.variables [] b h)
      (le_same k (sum_over_agree k g.entries g.variables _ b (overlay_at g.variables b (λ _. 0))));
}

pub lowest_one : {P : Type 0} (k : Kind P) (g : Model P) (p q : P) (a b : ℕ → ℕ) → Lowest k g p a → Lowest k g q b → p ≡ q
lowest_one k g p q a b h l = k.laws.no_ties p q
    (subst (λ c. k.at_most p c ≡ true) l.meets (h.least b l.valid)) (subst (λ c. k.at_most q c ≡ true) h.meets (l.least a h.valid))

pub lowest_joined : {P : Type 0} (k : Kind P) (g : Model P) → Proper g → LowestJoined k g
lowest_joined k g proper = record {
  choices = pick k g;
  met = lowest_met k g proper;
  only = λ p a h. lowest_one k g p (lowest k g) a (pick k g) h (lowest_met k g proper);
}
