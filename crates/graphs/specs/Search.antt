-- Branch and bound as a definition: variables and choices ascending, and no deeper unless below the best so far.
use Rattle.std.specs.Prelude.{ℕ, zero, suc, cond, List, [], ◌∷◌}
use Rattle.prices.specs.declared.price.Price.{Ghosts as Kind}
use Rattle.graphs.specs.Model.{Model, beside, put}

-- the best full price so far, and the choices that have it
pub record Found (P : Type 0) : Type 0 where
  pub price : P
  pub choices : ℕ → ℕ

-- f 0, then f 1, up to f (n - 1)
abbrev pub each : {S : Type 0} → (ℕ → S → S) → ℕ → S → S
each f zero s = s
each f (suc n) s = f n (each f n s)

-- the best so far where it is at most q, else what is found at q
abbrev unless_at_most : {P : Type 0} → Kind P → Found P → P → (P → Found P) → Found P
unless_at_most k best q find = cond (k.at_most best.price q) best (find q)

-- a try: choice i of x beside those taken, whose choices a have the price p;
-- it goes deeper exactly when the price of all these is below the best so far
abbrev pub attempt : {P : Type 0} → Kind P → Model P → ℕ → List ℕ → (ℕ → ℕ) → P → ((ℕ → ℕ) → P → Found P → Found P) → ℕ → Found P → Found P
attempt k g x taken a p deeper i best = unless_at_most k best (k.sum (beside k g.entries x taken i a) p) (λ q. deeper (put a x i) q best)

-- the variables xs are still to be set, beside those taken
abbrev pub search : {P : Type 0} → Kind P → Model P → List ℕ → List ℕ → (ℕ → ℕ) → P → Found P → Found P
search k g [] taken a p best = record { price = p; choices = a }
search k g (x ∷ xs) taken a p best = each (attempt k g x taken a p (search k g xs (x ∷ taken))) (g.count x) best

-- a try of x with the search of xs below it
abbrev pub tried : {P : Type 0} → Kind P → Model P → ℕ → List ℕ → List ℕ → (ℕ → ℕ) → P → ℕ → Found P → Found P
tried k g x xs taken a p = attempt k g x taken a p (search k g xs (x ∷ taken))

-- the whole search, from choices a that stay for the absent variables; the best is top at first
abbrev pub searched : {P : Type 0} → Kind P → Model P → (ℕ → ℕ) → Found P
searched k g a = search k g g.variables [] a k.least (record { price = k.greatest; choices = a })
