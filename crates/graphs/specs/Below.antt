-- A test of every number below n, computed, and used at each.
use Rattle.std.specs.Prelude.{◌≡◌, ℕ, zero, suc, ◌<◌, Bool, true, ◌&&◌}
use Rattle.std.proofs.Common.{inl, inr, arith}
use Rattle.std.proofs.lemmas.Bool.{and_parts, cases_eq}

abbrev pub all_below : ℕ → (ℕ → Bool) → Bool
all_below zero f = true
all_below (suc n) f = (f n) && (all_below n f)

pub below : (f : ℕ → Bool) (n : ℕ) → all_below n f ≡ true → (k : ℕ) → k < n → f k ≡ true
below f zero t k h = let z : ⊥ = omega arith in absurd z
below f (suc n) t k h =
    elim (cases_eq k n) [
      | inl e ↦ rw e (and_parts (f n) (all_below n f) t).0
      | inr ne ↦ let l : k < n = omega arith in below f n (and_parts (f n) (all_below n f) t).1 k l
    ]
