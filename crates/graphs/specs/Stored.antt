-- The graph that stands in a cost memory.
use Rattle.std.specs.Prelude.{ℕ, List, take, slice_index, slice_index_or}
use Rattle.prices.specs.declared.price.Price.{Ghosts as Kind}
use Rattle.graphs.specs.declared.graph.Graph.{Graph}
use Rattle.graphs.specs.declared.priced.Priced.{Priced}
use Rattle.graphs.specs.Masks.{members}
use Rattle.graphs.specs.Model.{Entries, Model, normal}
use Rattle.graphs.specs.Places.{vector_at, matrix_at}

abbrev pub stored : {P : Type 0} → Kind P → List P → Entries P
stored k m = record {
  vector = λ v i. slice_index_or m (vector_at v i) k.least;
  matrix = λ u v i j. slice_index_or m (matrix_at u v i j) k.least;
}

abbrev pub count_at : Graph → ℕ → ℕ
count_at g v = slice_index_or g.counts v 1

-- the graph in a list of prices
abbrev pub model_in : {P : Type 0} → Kind P → Graph → List P → Model P
model_in k g m = normal k (members g.present) (count_at g) (stored k m)

-- the graph of a pair of both
abbrev pub model_at : {P : Type 0} → Kind P → Priced P → Model P
model_at k s = model_in k s.graph s.prices.now

-- the graph in the first 1,710 prices of a memory
abbrev pub model_of : {P : Type 0} → Kind P → Graph → List P → Model P
model_of k g m = model_in k g (take 1710 m)

-- the choices that an array of picks holds
abbrev pub pick_of : List ℕ → ℕ → ℕ
pick_of xs v = slice_index xs v
