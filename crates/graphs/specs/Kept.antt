-- What elimination keeps: for each assignment of the frontier the lowest price, and choices that have it.
use Rattle.std.specs.Prelude.{◌≡◌, ℕ, ◌+◌, ◌*◌, ◌<◌, ◌≤◌, Bool, true, false, ◌||◌, ◌⊎◌, List, [], ◌∷◌, length, filter, slice_index_or}
use Rattle.prices.specs.declared.price.Price.{Ghosts as Kind}
use Rattle.graphs.specs.declared.graph.Graph.{Graph}
use Rattle.graphs.specs.declared.priced.Priced.{Priced}
use Rattle.graphs.specs.declared.table.Table.{Table}
use Rattle.graphs.specs.Masks.{has, members_from, members_below}
use Rattle.graphs.specs.Model.{Model, Within, sum_over}
use Rattle.graphs.specs.Edges.{linked}
use Rattle.graphs.specs.Frontier.{too_wide}
use Rattle.graphs.specs.Stored.{model_in, pick_of}

-- # Frontiers as lists
abbrev pub reaches : {P : Type 0} → Kind P → Model P → ℕ → List ℕ → Bool
reaches k g y [] = false
reaches k g y (z ∷ zs) = linked k g y z || reaches k g y zs

-- those done with an edge to a later one
abbrev pub front : {P : Type 0} → Kind P → Model P → List ℕ → List ℕ → List ℕ
front k g done later = filter (λ y. reaches k g y later) done

-- the number of the choices a of the variables listed
abbrev pub number_of : List ℕ → (ℕ → ℕ) → ℕ
number_of [] a = 0
number_of (y ∷ ys) a = a y + 5 * number_of ys a

-- # Tables: prices t and choices l by such numbers
-- a is an assignment of those done, of price p, kept at place c
pub record Met {P : Type 0} (k : Kind P) (g : Model P) (done later : List ℕ) (p : P) (c : ℕ) (a : ℕ → ℕ) : Type 0 where
  pub valid : Within g.count done a
  pub sum : p ≡ sum_over k g.entries done a
  pub place : number_of (front k g done later) a ≡ c

-- each place is unused or has an assignment, and no assignment in Q is below its place
pub record Kept {P : Type 0} (k : Kind P) (g : Model P) (done later : List ℕ) (t : ℕ → P) (l : ℕ → ℕ → ℕ) (Q : (ℕ → ℕ) → Type 0) : Type 0 where
  pub met : (c : ℕ) → c < 125 → (t c ≡ k.greatest) ⊎ Met k g done later (t c) c (l c)
  pub covers : (b : ℕ → ℕ) → Within g.count done b → Q b → k.at_most (t (number_of (front k g done later) b)) (sum_over k g.entries done b) ≡ true

-- # Tables as they are held
abbrev pub prices_in : {P : Type 0} → Kind P → List P → ℕ → P
prices_in k t c = slice_index_or t c k.greatest

abbrev pub picks_in : List (List ℕ) → ℕ → ℕ → ℕ
picks_in l c = pick_of (slice_index_or l c [])

-- the frontier before v
abbrev pub front_at : {P : Type 0} → Kind P → Graph → List P → ℕ → List ℕ
front_at k g m v = front k (model_in k g m) (members_below g.present v) (members_from g.present v)

-- a table before v
abbrev pub KeptAt : {P : Type 0} → Kind P → Graph → List P → ℕ → (ℕ → P) → (ℕ → ℕ → ℕ) → ((ℕ → ℕ) → Type 0) → Type 0
KeptAt k g m v t l Q = Kept k (model_in k g m) (members_below g.present v) (members_from g.present v) t l Q

-- the same of a table as it is held
abbrev pub TableAt : {P : Type 0} → Kind P → Priced P → ℕ → Table P → ((ℕ → ℕ) → Type 0) → Type 0
TableAt k s v t Q = KeptAt k s.graph s.prices.now v (prices_in k t.prices.now) (picks_in t.picks) Q

-- v is next, and mask is the frontier after it
pub record Next {P : Type 0} (k : Kind P) (g : Graph) (m : List P) (v mask : ℕ) : Type 0 where
  pub variable : v < 12
  pub present : has g.present v ≡ true
  pub members : members_below mask (v + 1) ≡ front_at k g m (v + 1)
  pub narrow : length (members_below mask (v + 1)) ≤ 3

-- assignments that the old table has below place j, or at j with a choice of v below i
abbrev pub Before : {P : Type 0} → Kind P → Graph → List P → ℕ → ℕ → ℕ → (ℕ → ℕ) → Type 0
Before k g m v j i b = (number_of (front_at k g m v) b < j) ⊎ ((number_of (front_at k g m v) b ≡ j) × (b v < i))

abbrev pub Below : {P : Type 0} → Kind P → Graph → List P → ℕ → ℕ → (ℕ → ℕ) → Type 0
Below k g m v j b = number_of (front_at k g m v) b < j

abbrev pub Every : (ℕ → ℕ) → Type 0
Every b = Unit {0}

-- the members of a mask below v have choices below 5
abbrev pub Five : ℕ → ℕ → List ℕ → Type 0
Five mask v xs = (y : ℕ) → y < v → has mask y ≡ true → pick_of xs y < 5

-- no frontier has more than 3 variables
abbrev pub Narrow : {P : Type 0} → Kind P → Model P → Type 0
Narrow k g = (v : ℕ) → v < 12 → too_wide k g v ≡ false

-- what the sweep found: a price with its choices, below which there is none
pub record Swept {P : Type 0} (k : Kind P) (g : Graph) (m : List P) (p : P) (a : ℕ → ℕ) : Type 0 where
  pub met : (p ≡ k.greatest) ⊎ (Within (model_in k g m).count (members_below g.present 12) a × (p ≡ sum_over k (model_in k g m).entries (members_below g.present 12) a))
  pub covers : (b : ℕ → ℕ) → Within (model_in k g m).count (members_below g.present 12) b → k.at_most p (sum_over k (model_in k g m).entries (members_below g.present 12) b) ≡ true
