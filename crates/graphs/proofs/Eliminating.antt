-- What elimination found, as a solver's answer.
use Rattle.std.proofs.Common.{◌≡◌, ℕ, ◌≤◌, List, Ok, take, subst}
use Rattle.prices.specs.declared.price.Price.{Ghosts as Kind}
use Rattle.graphs.specs.declared.priced.Priced.{Priced}
use Rattle.graphs.specs.declared.best.Best.{Best}
use Rattle.graphs.specs.Frontier.{widest, at_depth_zero}
use Rattle.graphs.specs.Stored.{model_of, pick_of}
use Rattle.graphs.specs.Outcome.{outcome, fitted}
use Rattle.graphs.specs.Eliminated.{SweptUnlessTurned, answer_swept}

-- s is p, the graph in a memory, and was swept
module _ {P : Type 0} (k : Kind P) (p s : Priced P) (m : List P) (b : Best P) (same : s ≡ p) (front : p.prices.now ≡ take 1710 m) (is : SweptUnlessTurned k s.graph s.prices.now (Ok b)) where
  pub found : SweptUnlessTurned k p.graph (take 1710 m) (Ok b)
  found = subst (λ pr. SweptUnlessTurned k p.graph pr (Ok b)) front (subst (λ t. SweptUnlessTurned k t.graph t.prices.now (Ok b)) same is)

  pub answers : (len : ℕ) → 2010 ≤ len → outcome k 2010 (at_depth_zero (widest k (model_of k p.graph m))) (model_of k p.graph m) len ≡ fitted k b.price
  answers len h = answer_swept k p.graph (take 1710 m) len h found.0 b.price (pick_of b.picks) found.1
