-- What is never read makes no two graphs different.
use Rattle.std.specs.Prelude.{◌≡◌, ℕ, ◌<◌, List, slice_index_or}
use Rattle.prices.specs.declared.price.Price.{Ghosts as Kind}
use Rattle.graphs.specs.declared.graph.Graph.{Graph}
use Rattle.graphs.specs.Places.{vector_at, matrix_at}
use Rattle.graphs.specs.Stored.{count_at, model_of}
use Rattle.graphs.specs.Taken.{Present, HasChoice}

-- the same present variables, counts of these, and prices of their choices
pub record SameWhereRead {P : Type 0} (k : Kind P) (g h : Graph) (a b : List P) : Type 0 where
  pub present : g.present ≡ h.present
  pub counts : (v : ℕ) → Present g v → count_at g v ≡ count_at h v
  pub vectors : (v i : ℕ) → HasChoice g v i → slice_index_or a (vector_at v i) k.least ≡ slice_index_or b (vector_at v i) k.least
  pub matrices : (u v i j : ℕ) → HasChoice g u i → HasChoice g v j → u < v → slice_index_or a (matrix_at u v i j) k.least ≡ slice_index_or b (matrix_at u v i j) k.least

-- THEOREM: graphs that are the same where they are read have one model
abbrev pub Unread : {P : Type 0} → Kind P → Type 0
Unread {P} k = (g h : Graph) (a b : List P) → SameWhereRead k g h a b → model_of k g a ≡ model_of k h b
