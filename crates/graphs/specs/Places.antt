-- Where the entries of a graph stand in a cost memory: twelve vectors of five, then the matrices of the 66 pairs.
use Rattle.std.specs.Prelude.{◌≡◌, ℕ, ◌+◌, ◌-◌, ◌*◌, ◌/◌, ◌<◌, Bool, cond, not, ◌&&◌, ◌≢◌, Some, None, Option, ◌==◌, nat_lt}

-- choice i of v
abbrev pub vector_at : ℕ → ℕ → ℕ
vector_at v i = 5 * v + i

-- the number of the pair u < v: by u, then by v
abbrev pub pair_no : ℕ → ℕ → ℕ
pair_no u v = u * (23 - u) / 2 + v - u - 1

-- choice i of u with choice j of v, where u < v
abbrev pub matrix_at : ℕ → ℕ → ℕ → ℕ → ℕ
matrix_at u v i j = 60 + 25 * pair_no u v + 5 * i + j

-- the same for two different variables in either order
abbrev pub entry_at : ℕ → ℕ → ℕ → ℕ → ℕ
entry_at u v i j = cond (nat_lt u v) (matrix_at u v i j) (matrix_at v u j i)

pub record Pair (u v : ℕ) : Type 0 where
  pub left : u < 12
  pub right : v < 12
  pub apart : u ≢ v

-- # The places as they are asked for
pub data Entry : Type 0 where
  of_vector : ℕ → ℕ → Entry
  of_matrix : ℕ → ℕ → ℕ → ℕ → Entry

abbrev pub is_pair : ℕ → ℕ → Bool
is_pair u v = (nat_lt u 12 && nat_lt v 12) && not (u == v)

-- whether there are such variables and choices
abbrev pub is_entry : Entry → Bool
is_entry (of_vector v i) = nat_lt v 12 && nat_lt i 5
is_entry (of_matrix u v i j) = is_pair u v && (nat_lt i 5 && nat_lt j 5)

abbrev pub place_in : Entry → ℕ
place_in (of_vector v i) = vector_at v i
place_in (of_matrix u v i j) = entry_at u v i j

-- where an entry stands, or none where there is no such entry
abbrev pub place_of : Entry → Option ℕ
place_of e = cond (is_entry e) (Some (place_in e)) None

-- a matrix entry with its lower variable first
abbrev pub ordered : Entry → Entry
ordered (of_vector v i) = of_vector v i
ordered (of_matrix u v i j) = cond (nat_lt u v) (of_matrix u v i j) (of_matrix v u j i)

-- an entry that stands at a place
pub record Standing (p : ℕ) : Type 0 where
  pub entry : Entry
  pub there : place_of entry ≡ Some p

-- THEOREM: the entries fill the first 1,710 places: each stands within them, in either order at one place,
-- no two at the same, and no place is left over
pub record Layout : Type 0 where
  pub within : (e : Entry) (p : ℕ) → place_of e ≡ Some p → p < 1710
  pub either_order : (u v i j : ℕ) → place_of (of_matrix u v i j) ≡ place_of (of_matrix v u j i)
  pub apart : (e f : Entry) (p : ℕ) → place_of e ≡ Some p → place_of f ≡ Some p → ordered e ≡ ordered f
  pub filled : (p : ℕ) → p < 1710 → Standing p
