-- What every price kind keeps: an order that is total without ties, and a sum that respects it.
use Rattle.std.specs.Prelude.{◌≡◌, Bool, true, false}

pub record Laws {P : Type 0} (zero top : P) (sum : P → P → P) (le : P → P → Bool) : Type 0 where
  -- the order
  pub total : (a b : P) → le a b ≡ false → le b a ≡ true
  pub no_ties : (a b : P) → le a b ≡ true → le b a ≡ true → a ≡ b
  pub chain : (a b c : P) → le a b ≡ true → le b c ≡ true → le a c ≡ true
  pub least : (a : P) → le zero a ≡ true
  pub greatest : (a : P) → le a top ≡ true
  -- the sum
  pub assoc : (a b c : P) → sum (sum a b) c ≡ sum a (sum b c)
  pub comm : (a b : P) → sum a b ≡ sum b a
  pub zero_sum : (a : P) → sum zero a ≡ a
  pub top_sum : (a : P) → sum top a ≡ top
  -- the two together
  pub keeps : (a b c : P) → le a b ≡ true → le (sum a c) (sum b c) ≡ true
