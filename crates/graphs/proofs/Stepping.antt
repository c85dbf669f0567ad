-- The search, one variable and one choice at a time.
use Rattle.std.proofs.Common.{◌≡◌, ℕ, ◌+◌, ◌<◌, Bool, true, false, List, ◌∷◌, length, set, sym, ap, ◌∙◌, ap₂, add-one}
use Rattle.std.proofs.lemmas.Bool.{cond-true, cond-false}
use Rattle.prices.specs.declared.price.Price.{Ghosts as Kind}
use Rattle.graphs.specs.Masks.{has, members_from, members_below}
use Rattle.graphs.specs.Model.{Model, beside, put}
use Rattle.graphs.specs.Search.{Found, each, search, tried}
use Rattle.graphs.specs.Stored.{pick_of}
use Rattle.graphs.specs.Twelve.{none_past}
use Rattle.graphs.specs.Walk.{below_in, below_out, from_in, from_out, pick_set}

pub each_more : {S : Type 0} (f : ℕ → S → S) (n : ℕ) (s : S) → each f (n + 1) s ≡ f n (each f n s)
each_more f n s = ap (λ m. each f m s) (add-one n)

module _ {P : Type 0} (k : Kind P) (g : Model P) (p v : ℕ) (a : ℕ → ℕ) (q : P) (s : Found P) where
  pub search_done : v ≡ 12 → search k g (members_from p v) (members_below p v) a q s ≡ record { price = q; choices = a }
  search_done e = ap (λ l. search k g l (members_below p v) a q s) (none_past (has p) v e)

  pub search_in : v < 12 → has p v ≡ true →
      search k g (members_from p v) (members_below p v) a q s ≡ each (tried k g v (members_from p (v + 1)) (members_below p v) a q) (g.count v) s
  search_in h e = ap (λ l. search k g l (members_below p v) a q s) (from_in p v h e)

  pub search_out : v < 12 → has p v ≡ false →
      search k g (members_from p v) (members_below p v) a q s ≡ search k g (members_from p (v + 1)) (members_below p (v + 1)) a q s
  search_out h e = ap₂ (λ l d. search k g l d a q s) (from_out p v h e) (sym (below_out p v e))

module _ {P : Type 0} (k : Kind P) (g : Model P) (p v i : ℕ) (xs : List ℕ) (q r : P) (is : r ≡ k.sum (beside k g.entries v (members_below p v) i (pick_of xs)) q) (s : Found P) where
  abbrev below_best : Bool
  below_best = k.at_most s.price (k.sum (beside k g.entries v (members_below p v) i (pick_of xs)) q)

  pub tried_deeper : v < length xs → has p v ≡ true → k.at_most s.price r ≡ false →
      search k g (members_from p (v + 1)) (members_below p (v + 1)) (pick_of (set xs v i)) r s ≡ tried k g v (members_from p (v + 1)) (members_below p v) (pick_of xs) q i s
  tried_deeper h e d = ap₂ (λ l a. search k g (members_from p (v + 1)) l a r s) (below_in p v e) (pick_set xs v i h)
      ∙ ap (λ c. search k g (members_from p (v + 1)) (v ∷ members_below p v) (put (pick_of xs) v i) c s) is
      ∙ sym (cond-false below_best _ _ (ap (k.at_most s.price) (sym is) ∙ d))

  pub tried_passed : k.at_most s.price r ≡ true → s ≡ tried k g v (members_from p (v + 1)) (members_below p v) (pick_of xs) q i s
  tried_passed d = sym (cond-true below_best _ _ (ap (k.at_most s.price) (sym is) ∙ d))
