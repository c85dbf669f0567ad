-- The members of a set, one at a time.
use Rattle.std.specs.Prelude.{◌≡◌, ℕ, ◌+◌, ◌<◌, true, false, List, ◌∷◌, length, slice_set}
use Rattle.std.proofs.Common.{sym, ap, ◌∙◌, ⊎_elim, add-one, get_or-set_same, get_or-set_other}
use Rattle.std.proofs.Math.Path.{fun_ext}
use Rattle.std.proofs.lemmas.Bool.{cond-true, cond-false, cases_eq}
use Rattle.prices.specs.declared.price.Price.{Ghosts as Kind}
use Rattle.graphs.specs.Masks.{has, members_from, members_below}
use Rattle.graphs.specs.Model.{Entries, cost, beside, put}
use Rattle.graphs.specs.Stored.{pick_of}
use Rattle.graphs.specs.Plain.{put_same, put_other}
use Rattle.graphs.specs.Twelve.{next_in, next_out}

pub below_in : (p v : ℕ) → has p v ≡ true → members_below p (v + 1) ≡ v ∷ members_below p v
below_in p v e = ap (members_below p) (add-one v) ∙ cond-true (has p v) (v ∷ members_below p v) (members_below p v) e

pub below_out : (p v : ℕ) → has p v ≡ false → members_below p (v + 1) ≡ members_below p v
below_out p v e = ap (members_below p) (add-one v) ∙ cond-false (has p v) (v ∷ members_below p v) (members_below p v) e

pub from_in : (p v : ℕ) → v < 12 → has p v ≡ true → members_from p v ≡ v ∷ members_from p (v + 1)
from_in p v h e = next_in (has p) v h e

pub from_out : (p v : ℕ) → v < 12 → has p v ≡ false → members_from p v ≡ members_from p (v + 1)
from_out p v h e = next_out (has p) v h e

-- # Choices in an array of picks
pub pick_set : (xs : List ℕ) (v i : ℕ) → v < length xs → pick_of (slice_set xs v i) ≡ put (pick_of xs) v i
pick_set xs v i h = fun_ext (λ y. ⊎_elim
    (λ e. ap (pick_of (slice_set xs v i)) e ∙ get_or-set_same xs v i 0 h ∙ sym (ap (put (pick_of xs) v i) e ∙ put_same (pick_of xs) v i))
    (λ ne. get_or-set_other xs v y i 0 ne ∙ sym (put_other (pick_of xs) v i y ne))
    (cases_eq y v))

module _ {P : Type 0} (k : Kind P) (t : Entries P) where
  pub beside_in : (p v u i : ℕ) (a : ℕ → ℕ) → has p u ≡ true → beside k t v (members_below p (u + 1)) i a ≡ k.sum (cost t v u i (a u)) (beside k t v (members_below p u) i a)
  beside_in p v u i a e = ap (λ l. beside k t v l i a) (below_in p u e)

  pub beside_out : (p v u i : ℕ) (a : ℕ → ℕ) → has p u ≡ false → beside k t v (members_below p (u + 1)) i a ≡ beside k t v (members_below p u) i a
  beside_out p v u i a e = ap (λ l. beside k t v l i a) (below_out p u e)
