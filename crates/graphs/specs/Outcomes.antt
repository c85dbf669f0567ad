-- The cases of an outcome, and what follows where nothing fits.
use Rattle.std.specs.Prelude.{◌≡◌, ℕ, ◌≤◌, Bool, true, false, cond, Some, None, Ok, Err, Option, Result, nat_lt, refl}
use Rattle.std.proofs.Common.{sym, ap, ◌∙◌, subst, arith}
use Rattle.std.proofs.lemmas.Bool.{le-ltb, cond-false}
use Rattle.prices.specs.declared.price.Price.{Ghosts as Kind}
use Rattle.graphs.specs.declared.fault.Fault.{Fault}
use Rattle.graphs.specs.declared.fault.Cause.TheVariants.{Short, NothingFits}
use Rattle.graphs.specs.Model.{Model, Proper, lowest, total}
use Rattle.graphs.specs.Faults.{told}
use Rattle.graphs.specs.Outcome.{outcome, refused, settled, fitted, Nothing}
use Rattle.graphs.specs.Plain.{lowest_met}

module _ {P : Type 0} (k : Kind P) (need : ℕ) (turned : Option (ℕ × ℕ)) (g : Model P) (len : ℕ) where
  pub outcome_long : need ≤ len → outcome k need turned g len ≡ settled k turned (lowest k g)
  outcome_long h = cond-false (nat_lt len need) _ _ (le-ltb len need h)

-- # Nothing fits only where the lowest total is top
abbrev number_of : {P : Type 0} → Result P Fault → ℕ
number_of (Ok p) = 0
number_of (Err f) = (told f.cause).number

module _ {P : Type 0} (k : Kind P) where
  at_top : (p : P) (b : Bool) → number_of {P = P} (cond b (Err (refused NothingFits)) (Ok p)) ≡ 12 → b ≡ true
  at_top p true e = refl
  at_top p false e = absurd (omega arith)

  when_settled : (turned : Option (ℕ × ℕ)) (p : P) → number_of (settled k turned p) ≡ 12 → k.at_most k.greatest p ≡ true
  when_settled None p e = at_top p (k.at_most k.greatest p) e
  when_settled (Some t) p e = absurd (omega arith)

  when_long : (turned : Option (ℕ × ℕ)) (p : P) (b : Bool) → number_of (cond b (Err (refused Short)) (settled k turned p)) ≡ 12 → k.at_most k.greatest p ≡ true
  when_long turned p true e = absurd (omega arith)
  when_long turned p false e = when_settled turned p e

  pub nothing_fits : (need : ℕ) (turned : Option (ℕ × ℕ)) (g : Model P) (len : ℕ) (r : Result P Fault) → Proper g → r ≡ outcome k need turned g len → Nothing k g r
  nothing_fits need turned g len r proper is e a ok =
      let top : k.greatest ≡ lowest k g = k.laws.no_ties _ _ (when_long turned (lowest k g) (nat_lt len need) (ap number_of (sym is ∙ e))) (k.laws.greatest _) in
      k.laws.no_ties _ _ (k.laws.greatest _) (subst (λ p. k.at_most p (total k g a) ≡ true) (sym top) ((lowest_met k g proper).least a ok))

-- # What follows from a price that fits
abbrev value_or : {P : Type 0} → P → Result P Fault → P
value_or d (Ok p) = p
value_or d (Err f) = d

pub record Fits {P : Type 0} (k : Kind P) (p q : P) : Type 0 where
  pub below : k.at_most k.greatest p ≡ false
  pub same : p ≡ q

pub fitted_ok : {P : Type 0} (k : Kind P) (p q : P) → fitted k p ≡ Ok q → Fits k p q
fitted_ok {P} k p q e = go (k.at_most k.greatest p) refl e
  where
    go : (b : Bool) → k.at_most k.greatest p ≡ b → cond b (Err (refused NothingFits)) (Ok p) ≡ Ok q → Fits k p q
    go true d h = let z : ◌≡◌ {A = ℕ} 12 0 = ap number_of h in absurd (omega arith)
    go false d h = record { below = d; same = ap (value_or p) h }
