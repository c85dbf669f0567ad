-- What elimination answers.
use Rattle.std.specs.Prelude.{◌≡◌, ℕ, zero, suc, ◌+◌, ◌<◌, ◌≤◌, Bool, true, false, cond, ◌&&◌, List, [], ◌∷◌, Some, None, Ok, Err, Option, Result, count_ones, nat_lt, refl}
use Rattle.std.proofs.Common.{sym, ◌∙◌, subst, ⊎_elim, arith}
use Rattle.std.proofs.Math.Path.{ap, ap₂}
use Rattle.std.specs.List.{AllByRecursion, find}
use Rattle.std.proofs.lemmas.Bool.{cases_eq}
use Rattle.prices.specs.declared.price.Price.{Ghosts as Kind}
use Rattle.graphs.specs.declared.graph.Graph.{Graph}
use Rattle.graphs.specs.declared.best.Best.{Best}
use Rattle.graphs.specs.declared.fault.Fault.{Fault}
use Rattle.graphs.specs.declared.fault.Cause.TheVariants.{TurnedAway}
use Rattle.graphs.specs.Masks.{mem, twelve, up_from}
use Rattle.graphs.specs.Model.{Model}
use Rattle.graphs.specs.Edges.{edges}
use Rattle.graphs.specs.Frontier.{frontier_by, too_wide, widest, at_depth_zero}
use Rattle.graphs.specs.Kept.{Narrow, Swept}
use Rattle.graphs.specs.Outcome.{outcome, settled, fitted, refused}
use Rattle.graphs.specs.Stored.{model_in, pick_of}
use Rattle.graphs.specs.Bitwise.{on_twelve, all_twelve}
use Rattle.graphs.specs.Ending.{swept_lowest}
use Rattle.graphs.specs.Outcomes.{outcome_long}

-- # The first that passes a test
first_same : (s t : ℕ → Bool) (xs : List ℕ) → AllByRecursion (λ x. s x ≡ t x) xs → find s xs ≡ find t xs
first_same s t [] h = refl
first_same s t (x ∷ xs) h = ap₂ (λ b o. cond b (Some x) o) h.0 (first_same s t xs h.1)

abbrev is_some : {X : Type 0} → Option X → ℕ
is_some None = 0
is_some (Some x) = 1

first_all : (t : ℕ → Bool) (xs : List ℕ) → find t xs ≡ None → AllByRecursion (λ x. t x ≡ false) xs
first_all t [] e = tt
first_all t (x ∷ xs) e = go (t x) refl e (first_all t xs)
  where
    go : (b : Bool) → t x ≡ b → cond b (Some x) (find t xs) ≡ None → (find t xs ≡ None → AllByRecursion (λ y. t y ≡ false) xs) → (t x ≡ false) × AllByRecursion (λ y. t y ≡ false) xs
    go true q h f = let z : ◌≡◌ {A = ℕ} 1 0 = ap is_some h in absurd (omega arith)
    go false q h f = (q, f h)

abbrev place_or : ℕ → Option ℕ → ℕ
place_or d None = d
place_or d (Some v) = v

first_below : (t : ℕ → Bool) (xs : List ℕ) → AllByRecursion (λ x. x < 12) xs → place_or 0 (find t xs) < 12
first_below t [] h = omega arith
first_below t (x ∷ xs) h = go (t x) (first_below t xs h.1)
  where
    go : (b : Bool) → place_or 0 (find t xs) < 12 → place_or 0 (cond b (Some x) (find t xs)) < 12
    go true f = h.0
    go false f = f

all_up : (Q : ℕ → Type 0) (a n : ℕ) → AllByRecursion Q (up_from a n) → (v : ℕ) → a ≤ v → v < a + n → Q v
all_up Q a zero h v l m = absurd (omega arith)
all_up Q a (suc n) h v l m = ⊎_elim
    (λ e. subst Q (sym e) h.0)
    (λ ne. all_up Q (suc a) n h.1 v (omega arith) (omega arith))
    (cases_eq v a)

at_twelve : (Q : ℕ → Type 0) → AllByRecursion Q twelve → (v : ℕ) → v < 12 → Q v
unfolding twelve
at_twelve Q h v l = all_up Q 0 12 h v (omega arith) l

-- # Which graphs are turned away
module _ {P : Type 0} (k : Kind P) where
  pub open_none : (g : Model P) → g.variables ≡ [] → at_depth_zero (widest k g) ≡ None
  unfolding widest twelve
  open_none g e = ap at_depth_zero (first_same (too_wide k g) (λ _. false) (up_from 0 12) (on_twelve _ (λ x _. ap (λ xs. mem x xs && nat_lt 3 (count_ones (frontier_by (edges k g) x))) e)))

  named_at : (o : Option ℕ) (v d : ℕ) → place_or 0 o < 12 → at_depth_zero o ≡ Some (v, d) → (v ≤ 11) × (d ≤ 255)
  named_at None v d h e = let z : ◌≡◌ {A = ℕ} 0 1 = ap is_some e in absurd (omega arith)
  named_at (Some x) v d h e =
      let ev : x ≡ v = ap (λ o. first o) e in let ed : 0 ≡ d = ap (λ o. second o) e in (omega arith, omega arith)
    where
      first : Option (ℕ × ℕ) → ℕ
      first None = 0
      first (Some t) = t.0

      second : Option (ℕ × ℕ) → ℕ
      second None = 0
      second (Some t) = t.1

  pub named_within : (g : Model P) (v d : ℕ) → at_depth_zero (widest k g) ≡ Some (v, d) → (v ≤ 11) × (d ≤ 255)
  unfolding widest
  named_within g v d e = named_at (find (too_wide k g) twelve) v d (first_below (too_wide k g) twelve all_twelve) e

  pub none_narrow : (g : Model P) → None ≡ widest k g → Narrow k g
  unfolding widest
  none_narrow g e v l = at_twelve (λ x. too_wide k g x ≡ false) (first_all (too_wide k g) twelve (sym e)) v l

-- # The answers
-- what is found of a graph, or that it is turned away
abbrev pub SweptUnlessTurned : {P : Type 0} → Kind P → Graph → List P → Result (Best P) Fault → Type 0
SweptUnlessTurned k g pr (Ok b) = (None ≡ widest k (model_in k g pr)) × Swept k g pr b.price (pick_of b.picks)
SweptUnlessTurned k g pr (Err f) = (v : ℕ) × (Some v ≡ widest k (model_in k g pr)) × (f ≡ refused (TurnedAway v 0))

module _ {P : Type 0} (k : Kind P) (g : Graph) (pr : List P) (len : ℕ) (long : 2010 ≤ len) where
  abbrev md : Model P
  md = model_in k g pr

  pub answer_swept : None ≡ widest k md → (p : P) (a : ℕ → ℕ) → Swept k g pr p a → outcome k 2010 (at_depth_zero (widest k md)) md len ≡ fitted k p
  answer_swept none p a s = outcome_long k 2010 (at_depth_zero (widest k md)) md len long ∙ ap₂ (λ o z. settled k (at_depth_zero o) z) (sym none) (sym (swept_lowest k g pr p a s))
