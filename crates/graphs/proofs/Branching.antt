-- What branch and bound found, as a solver's answer.
use Rattle.std.proofs.Common.{◌≡◌, ℕ, ◌≤◌, false, List, take, None, sym, ap, ◌∙◌, subst}
use Rattle.prices.specs.declared.price.Price.{Ghosts as Kind}
use Rattle.graphs.specs.declared.graph.Graph.{Graph}
use Rattle.graphs.specs.declared.best.Best.{Best}
use Rattle.graphs.specs.Model.{lowest, Lowest}
use Rattle.graphs.specs.Search.{searched}
use Rattle.graphs.specs.Holding.{found_in}
use Rattle.graphs.specs.Stored.{model_of, pick_of}
use Rattle.graphs.specs.Outcome.{outcome, fitted, Chosen}
use Rattle.graphs.specs.Bounded.{searched_lowest, searched_found, searched_stays}
use Rattle.graphs.specs.Reading.{proper}
use Rattle.graphs.specs.Outcomes.{outcome_long}

module _ {P : Type 0} (k : Kind P) (g : Graph) (m : List P) (xs : List ℕ) (b : Best P) (is : found_in b ≡ searched k (model_of k g m) (pick_of xs)) where
  price_is : b.price ≡ lowest k (model_of k g m)
  price_is = ap (λ h. h.price) is ∙ searched_lowest k (model_of k g m) (proper k g (take 1710 m)) (pick_of xs)

  pub answers : (len : ℕ) → 2010 ≤ len → outcome k 2010 None (model_of k g m) len ≡ fitted k b.price
  answers len h = outcome_long k 2010 None (model_of k g m) len h ∙ ap (fitted k) (sym price_is)

  pub chosen : k.at_most k.greatest b.price ≡ false → Chosen k (model_of k g m) b.price xs b.picks
  chosen d = record {
    best = subst (λ h. Lowest k (model_of k g m) h.price h.choices) (sym is)
        (searched_found k (model_of k g m) (proper k g (take 1710 m)) (pick_of xs) (ap (λ h. k.at_most k.greatest h.price) (sym is) ∙ d));
    others = λ y out. ap (λ h. h.choices y) is ∙ searched_stays k (model_of k g m) (proper k g (take 1710 m)) (pick_of xs) y out;
  }
