-- Frontiers, and which graphs elimination turns away.
use Rattle.std.specs.Prelude.{ℕ, Bool, ◌&&◌, Some, None, Option, count_ones, nat_le, nat_lt}
use Rattle.std.specs.List.{find}
use Rattle.prices.specs.declared.price.Price.{Ghosts as Kind}
use Rattle.graphs.specs.Masks.{has, mask_by, mem, some_below, twelve}
use Rattle.graphs.specs.Model.{Model}
use Rattle.graphs.specs.Edges.{edges}

-- whether a set has a member above x
abbrev pub reaches_above : ℕ → ℕ → Bool
reaches_above m x = some_below 12 (λ z. nat_lt x z && has m z)

-- the variables up to x with an edge to one above x, where e gives the edges of each; shut, like the edges
unfoldable pub frontier_by : (ℕ → ℕ) → ℕ → ℕ
frontier_by e x = mask_by (λ y. nat_le y x && reaches_above (e y) x) 12

abbrev pub frontier : {P : Type 0} → Kind P → Model P → ℕ → ℕ
frontier k g x = frontier_by (edges k g) x

-- whether x is present and the frontier after it has more than 3 variables
abbrev pub too_wide : {P : Type 0} → Kind P → Model P → ℕ → Bool
too_wide k g x = mem x g.variables && nat_lt 3 (count_ones (frontier k g x))

abbrev pub at_depth_zero : Option ℕ → Option (ℕ × ℕ)
at_depth_zero None = None
at_depth_zero (Some v) = Some (v, 0)

-- the lowest variable after which the frontier is too wide; shut, since it is large
unfoldable pub widest : {P : Type 0} → Kind P → Model P → Option ℕ
widest k g = find (too_wide k g) twelve
