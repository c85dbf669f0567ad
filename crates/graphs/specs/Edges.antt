-- Edges as masks over the twelve variables; a degree is a count of ones.
use Rattle.std.specs.Prelude.{◌≡◌, ℕ, ◌+◌, ◌-◌, ◌<◌, Bool, true, not, ◌&&◌, ◌≢◌, List, ◌==◌, count_ones, cond, slice_index}
use Rattle.std.specs.List.{fold}
use Rattle.prices.specs.declared.price.Price.{Ghosts as Kind}
use Rattle.graphs.specs.Masks.{has, mask_by, mem, some_below, up_from, with_member}
use Rattle.graphs.specs.Model.{Entries, Model, In, cost}

-- whether choice i of u with choice j of v has a price other than zero
abbrev pub priced_in : {P : Type 0} → Kind P → Entries P → ℕ → ℕ → ℕ → ℕ → Bool
priced_in k e u v i j = not (k.at_most (cost e u v i j) k.least)

-- whether some entry of their matrix, within the counts n, is not zero
abbrev pub linked_in : {P : Type 0} → Kind P → (ℕ → ℕ) → Entries P → ℕ → ℕ → Bool
linked_in k n e u v = some_below (n u) (λ i. some_below (n v) (priced_in k e u v i))

abbrev pub priced : {P : Type 0} → Kind P → Model P → ℕ → ℕ → ℕ → ℕ → Bool
priced k g = priced_in k g.entries

abbrev pub linked : {P : Type 0} → Kind P → Model P → ℕ → ℕ → Bool
linked k g = linked_in k g.count g.entries

-- whether u and v are two present variables with such an entry
abbrev pub edge : {P : Type 0} → Kind P → Model P → ℕ → ℕ → Bool
edge k g u v = ((mem u g.variables && mem v g.variables) && not (u == v)) && linked k g u v

-- the variables that u has an edge to; shut, since a mask of twelve tests has many ways
unfoldable pub edges : {P : Type 0} → Kind P → Model P → ℕ → ℕ
edges k g u = mask_by (edge k g u) 12

-- the variables below u that it has an edge to
unfoldable pub lower_edges : {P : Type 0} → Kind P → Model P → ℕ → ℕ
lower_edges k g u = mask_by (edge k g u) u

-- an array of these of all twelve variables
abbrev pub LowerOf : {P : Type 0} → Kind P → Model P → List ℕ → Type 0
LowerOf k g masks = (v : ℕ) → v < 12 → slice_index masks v ≡ lower_edges k g v

-- the edges of v by such an array: its own, and those of the variables above it that lead down to it
abbrev pub joined : List ℕ → ℕ → ℕ
joined masks v = fold (λ m u. cond (has (slice_index masks u) v) (with_member m u) m) (slice_index masks v) (up_from (v + 1) (12 - (v + 1)))

-- an array of the edges of all twelve variables
abbrev pub EdgesOf : {P : Type 0} → Kind P → Model P → List ℕ → Type 0
EdgesOf k g masks = (v : ℕ) → v < 12 → slice_index masks v ≡ edges k g v

abbrev pub degree : {P : Type 0} → Kind P → Model P → ℕ → ℕ
degree k g u = count_ones (edges k g u)

-- u and v are two present variables, and choice i of u with choice j of v costs something
pub record Joined {P : Type 0} (k : Kind P) (g : Model P) (u v : ℕ) : Type 0 where
  pub left : In u g.variables
  pub right : In v g.variables
  pub apart : u ≢ v
  pub i : ℕ
  pub j : ℕ
  pub i_within : i < g.count u
  pub j_within : j < g.count v
  pub priced : cost g.entries u v i j ≡ k.least → ⊥

-- THEOREM: the edges of a variable are exactly those that it is joined to, and they are the same from either side
pub record EdgesByRule {P : Type 0} (k : Kind P) (g : Model P) : Type 0 where
  pub found : (u v : ℕ) → v < 12 → has (edges k g u) v ≡ true → Joined k g u v
  pub every : (u v : ℕ) → v < 12 → Joined k g u v → has (edges k g u) v ≡ true
  pub either_side : (u v : ℕ) → u < 12 → v < 12 → has (edges k g u) v ≡ has (edges k g v) u
