-- Choices of present variables: facts of a graph and of picks at one moment, so that no type of a number can carry them.
use Rattle.std.specs.Prelude.{◌≡◌, ℕ, ◌<◌, true, List}
use Rattle.graphs.specs.declared.graph.Graph.{Graph}
use Rattle.graphs.specs.Masks.{has}
use Rattle.graphs.specs.Stored.{count_at, pick_of}

pub record Present (g : Graph) (v : ℕ) : Type 0 where
  pub variable : v < 12
  pub present : has g.present v ≡ true

-- v is present and has a choice i
pub record HasChoice (g : Graph) (v i : ℕ) : Type 0 where
  pub variable : v < 12
  pub present : has g.present v ≡ true
  pub within : i < count_at g v

-- the present variables below v have choices in an array of picks
abbrev pub Taken : Graph → ℕ → List ℕ → Type 0
Taken g v xs = (y : ℕ) → y < v → has g.present y ≡ true → pick_of xs y < count_at g y
