-- The lowest of a row of prices, and what the laws of prices give at once.
use Rattle.std.specs.Prelude.{◌≡◌, ℕ, zero, suc, ◌≤◌, Bool, true, false, cond, ◌⊎◌, refl}
use Rattle.std.proofs.Common.{sym, ap, ◌∙◌, subst, inl, inr, ⊎_elim, arith}
use Rattle.std.proofs.lemmas.Bool.{cond_both, cases_lt}
use Rattle.prices.specs.declared.price.Price.{Ghosts as Kind}
use Rattle.graphs.specs.Model.{low, arg}

last_or : (i n : ℕ) → i ≤ suc n → (i ≤ n) ⊎ (i ≡ suc n)
last_or i n h = ⊎_elim (λ l. inl (omega arith)) (λ l. inr (omega arith)) (cases_lt i (suc n))

module _ {P : Type 0} (k : Kind P) where
  pub le_refl : (a : P) → k.at_most a a ≡ true
  le_refl a = go (k.at_most a a) refl
    where
      go : (t : Bool) → k.at_most a a ≡ t → k.at_most a a ≡ true
      go true e = e
      go false e = k.laws.total a a e

  pub le_same : {a b : P} → a ≡ b → k.at_most a b ≡ true
  le_same {a} e = subst (λ x. k.at_most a x ≡ true) e (le_refl a)

  pub low_le : (f : ℕ → P) (n i : ℕ) → i ≤ n → k.at_most (low k f n) (f i) ≡ true
  low_le f zero i h = let e : i ≡ 0 = omega arith in le_same (ap f (sym e))
  low_le f (suc n) i h = last (low_le f n) (k.at_most (low k f n) (f (suc n))) refl (last_or i n h)
    where
      last : ((j : ℕ) → j ≤ n → k.at_most (low k f n) (f j) ≡ true) → (t : Bool) → k.at_most (low k f n) (f (suc n)) ≡ t → (i ≤ n) ⊎ (i ≡ suc n) →
          k.at_most (cond t (low k f n) (f (suc n))) (f i) ≡ true
      last ih true e (inl l) = ih i l
      last ih true e (inr q) = rw q e
      last ih false e (inl l) = k.laws.chain _ (low k f n) _ (k.laws.total _ _ e) (ih i l)
      last ih false e (inr q) = le_same (ap f (sym q))

  pub arg_le : (f : ℕ → P) (n : ℕ) → arg k f n ≤ n
  arg_le f zero = omega arith
  arg_le f (suc n) = cond_both (k.at_most (low k f n) (f (suc n))) (arg k f n) (suc n) (λ x. x ≤ suc n) (λ _. omega (arith, arg_le f n)) (λ _. omega arith)

  pub arg_low : (f : ℕ → P) (n : ℕ) → f (arg k f n) ≡ low k f n
  arg_low f zero = refl
  arg_low f (suc n) = go (arg_low f n) (k.at_most (low k f n) (f (suc n)))
    where
      go : f (arg k f n) ≡ low k f n → (t : Bool) → f (cond t (arg k f n) (suc n)) ≡ cond t (low k f n) (f (suc n))
      go ih true = ih
      go ih false = refl

  pub left_comm : (a b c : P) → k.sum a (k.sum b c) ≡ k.sum b (k.sum a c)
  left_comm a b c = sym (k.laws.assoc a b c) ∙ ap (λ x. k.sum x c) (k.laws.comm a b) ∙ k.laws.assoc b a c

  pub swap4 : (a b c d : P) → k.sum (k.sum a b) (k.sum c d) ≡ k.sum (k.sum a c) (k.sum b d)
  swap4 a b c d = k.laws.assoc a b (k.sum c d) ∙ ap (k.sum a) (left_comm b c d) ∙ sym (k.laws.assoc a c (k.sum b d))

  -- on the right too
  pub mono_right : (a b c : P) → k.at_most a b ≡ true → k.at_most (k.sum c a) (k.sum c b) ≡ true
  mono_right a b c h = rw (k.laws.comm c a, k.laws.comm c b) (k.laws.keeps a b c h)
