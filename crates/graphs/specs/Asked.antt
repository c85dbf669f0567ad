-- What can be asked of a graph in a memory, and what is answered.
use Rattle.std.specs.Prelude.{ℕ, Bool, cond, ltb, List, map, length, Some, None, Option, nat_lt}
use Rattle.std.specs.List.{list_all}
use Rattle.prices.specs.declared.price.Price.{Ghosts as Kind}
use Rattle.graphs.specs.declared.graph.Graph.{Graph}
use Rattle.graphs.specs.Masks.{twelve}
use Rattle.graphs.specs.Model.{Model, total}
use Rattle.graphs.specs.Edges.{edges}
use Rattle.graphs.specs.Stored.{count_at, model_of, pick_of}

-- the edges of the twelve variables, where the memory has room for a graph
abbrev pub edges_asked : {P : Type 0} → Kind P → Graph → List P → Option (List ℕ)
edges_asked k g m = cond (nat_lt (length m) 1710) None (Some (map (edges k (model_of k g m)) twelve))

-- whether v has a choice in an array of picks
abbrev pub has_pick : Graph → List ℕ → ℕ → Bool
has_pick g xs v = ltb (pick_of xs v) (count_at g v)

-- whether a gives each variable a choice that it has
abbrev pub assigns : {P : Type 0} → Model P → (ℕ → ℕ) → Bool
assigns g a = list_all (λ v. ltb (a v) (g.count v)) g.variables

-- the total of the picks, where they are an assignment and the memory has room for a graph
abbrev pub total_asked : {P : Type 0} → Kind P → Graph → List P → List ℕ → Option P
total_asked k g m xs = cond (nat_lt (length m) 1710) None
    (cond (assigns (model_of k g m) (pick_of xs)) (Some (total k (model_of k g m) (pick_of xs))) None)
