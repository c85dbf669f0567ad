-- Worked examples of graphs and solvers, as equations that compute.
use Rattle.std.specs.Prelude.{◌≡◌, ℕ, cond, not, ◌&&◌, List, [], ◌∷◌, map, Some, None, ◌==◌, slice_index, slice_index_or}
use Rattle.prices.specs.declared.plain.Plain.{Plain}
use Rattle.prices.specs.PlainKind.{plain}
use Rattle.prices.specs.PlainLaws.{plain_kind}
use Rattle.graphs.specs.Counts.{clamped_to}
use Rattle.graphs.specs.Places.{of_vector, of_matrix, place_of}
use Rattle.graphs.specs.Model.{Model, normal, cost, total, lowest, choice_in}
use Rattle.graphs.specs.Edges.{edges, degree}
use Rattle.graphs.specs.Frontier.{frontier, widest}
use Rattle.graphs.specs.Search.{searched}

-- # The graphs

-- v0 costs 0 or 4, v1 costs 1 in either choice; their matrix has the rows 7 1 and 2 0
abbrev pub two : Model Plain
two = normal plain_kind (0 ∷ 1 ∷ []) (λ _. 2) (record {
  vector = λ v i. plain (slice_index (slice_index_or ((0 ∷ 4 ∷ []) ∷ (1 ∷ 1 ∷ []) ∷ []) v []) i);
  matrix = λ u v i j. plain (slice_index (slice_index_or ((7 ∷ 1 ∷ []) ∷ (2 ∷ 0 ∷ []) ∷ []) i []) j);
})

-- variables of five choices, of which no two may take the same but the first, and that one costs 6
abbrev pub crowd : List ℕ → Model Plain
crowd xs = normal plain_kind xs (λ _. 5) (record {
  vector = λ v i. cond (i == 0) (plain 6) (plain 0);
  matrix = λ u v i j. cond (i == j && not (i == 0)) (plain 4294967295) (plain 0);
})

-- v3 and v7 have one choice each, which may not be taken together
abbrev pub apart : Model Plain
apart = normal plain_kind (3 ∷ 7 ∷ []) (λ _. 1) (record { vector = λ v i. plain 0; matrix = λ u v i j. plain 4294967295 })

-- # The equations

pub record GraphsWork : Type 0 where
  pub vector_places : (place_of (of_vector 0 0) ≡ Some 0) × (place_of (of_vector 11 4) ≡ Some 59) × (place_of (of_vector 12 0) ≡ None) × (place_of (of_vector 0 5) ≡ None)
  pub matrix_places : (place_of (of_matrix 0 1 0 0) ≡ Some 60) × (place_of (of_matrix 10 11 4 4) ≡ Some 1709) × (place_of (of_matrix 3 3 0 0) ≡ None)
  pub either_order : (place_of (of_matrix 2 5 1 3) ≡ Some 643) × (place_of (of_matrix 5 2 3 1) ≡ Some 643)
  pub counts : map clamped_to (0 ∷ 1 ∷ 5 ∷ 6 ∷ 255 ∷ []) ≡ 1 ∷ 1 ∷ 5 ∷ 5 ∷ 5 ∷ []
  -- what belongs to no choice or no present variable is zero, whatever stands there
  pub unread : ((two.entries.vector 0 2).value ≡ 0) × ((two.entries.matrix 0 1 2 0).value ≡ 0) × ((apart.entries.matrix 3 8 0 0).value ≡ 0) × (two.count 5 ≡ 1)
  pub from_either_side : ((cost two.entries 0 1 1 0).value ≡ 2) × ((cost two.entries 1 0 0 1).value ≡ 2)
  pub totals : ((total plain_kind two (choice_in ((0, 1) ∷ []))).value ≡ 7) × ((total plain_kind two (choice_in ((1, 1) ∷ []))).value ≡ 2)
  pub lowest_of_two : (lowest plain_kind two).value ≡ 2
  pub lowest_of_crowd : (lowest plain_kind (crowd (0 ∷ 2 ∷ 4 ∷ 6 ∷ 11 ∷ []))).value ≡ 6
  pub nothing_fits : (lowest plain_kind apart).value ≡ 4294967295
  pub lowest_of_none : (lowest plain_kind (crowd [])).value ≡ 0
  pub search_of_two : ((searched plain_kind two (λ _. 9)).price.value ≡ 2) × ((searched plain_kind two (λ _. 9)).choices 0 ≡ 0) × ((searched plain_kind two (λ _. 9)).choices 1 ≡ 1) × ((searched plain_kind two (λ _. 9)).choices 2 ≡ 9)
  pub edge_masks : (edges plain_kind two 0 ≡ 2) × (edges plain_kind two 1 ≡ 1) × (edges plain_kind two 2 ≡ 0)
  pub degrees : (degree plain_kind (crowd (0 ∷ 2 ∷ 4 ∷ 6 ∷ 11 ∷ [])) 4 ≡ 4) × (degree plain_kind (crowd (0 ∷ 2 ∷ 4 ∷ 6 ∷ 11 ∷ [])) 3 ≡ 0)
  pub frontiers : (frontier plain_kind (crowd (0 ∷ 2 ∷ 4 ∷ 6 ∷ 11 ∷ [])) 4 ≡ 21) × (frontier plain_kind (crowd (0 ∷ 2 ∷ 4 ∷ 6 ∷ 11 ∷ [])) 11 ≡ 0)
  pub turned_away : (widest plain_kind (crowd (0 ∷ 2 ∷ 4 ∷ 6 ∷ 11 ∷ [])) ≡ Some 6) × (widest plain_kind (crowd (0 ∷ 2 ∷ 4 ∷ 6 ∷ [])) ≡ None)
