-- What a solver answers, and what it leaves in the picks.
use Rattle.std.specs.Prelude.{◌≡◌, ℕ, cond, List, Some, None, Ok, Err, Option, Result, nat_lt}
use Rattle.prices.specs.declared.price.Price.{Ghosts as Kind}
use Rattle.graphs.specs.declared.fault.Fault.{Fault}
use Rattle.graphs.specs.declared.fault.Cause.{Cause}
use Rattle.graphs.specs.declared.fault.Cause.TheVariants.{Short, TurnedAway, NothingFits}
use Rattle.graphs.specs.Model.{Model, In, Lowest, Assignment, lowest, total}
use Rattle.graphs.specs.Stored.{pick_of}

abbrev pub refused : Cause → Fault
refused c = record { cause = c }

-- nothing fits where the lowest total is top
abbrev pub fitted : {P : Type 0} → Kind P → P → Result P Fault
fitted k p = cond (k.at_most k.greatest p) (Err (refused NothingFits)) (Ok p)

abbrev pub settled : {P : Type 0} → Kind P → Option (ℕ × ℕ) → P → Result P Fault
settled k None p = fitted k p
settled k (Some t) p = Err (refused (TurnedAway t.0 t.1))

-- too short a memory, else turned away, else nothing fits, else the lowest total
abbrev pub outcome : {P : Type 0} → Kind P → ℕ → Option (ℕ × ℕ) → Model P → ℕ → Result P Fault
outcome k need turned g length = cond (nat_lt length need) (Err (refused Short)) (settled k turned (lowest k g))

-- the picks of present variables are an assignment of total p, the lowest, and the others stay
pub record Chosen {P : Type 0} (k : Kind P) (g : Model P) (p : P) (before after : List ℕ) : Type 0 where
  pub best : Lowest k g p (pick_of after)
  pub others : (v : ℕ) → (In v g.variables → ⊥) → pick_of after v ≡ pick_of before v

-- a refusal leaves the picks
abbrev pub Picked : {P : Type 0} → Kind P → Model P → Result P Fault → List ℕ → List ℕ → Type 0
Picked k g (Ok p) before after = Chosen k g p before after
Picked k g (Err f) before after = after ≡ before

-- where nothing fits, every assignment totals top
abbrev pub Nothing : {P : Type 0} → Kind P → Model P → Result P Fault → Type 0
Nothing k g r = r ≡ Err (refused NothingFits) → (a : ℕ → ℕ) → Assignment g a → total k g a ≡ k.greatest
