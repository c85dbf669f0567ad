-- Choice counts, from 1 to 5.
use Rattle.std.specs.Prelude.{ℕ, min, max, Bool, true, ◌&&◌, List, [], ◌∷◌, nat_le, nat_lt}

-- whether every count is from 1 to 5
abbrev pub sized : List ℕ → Bool
sized [] = true
sized (n ∷ ns) = (nat_lt 0 n && nat_le n 5) && sized ns

-- a count given as 0 becomes 1, and one above 5 becomes 5
abbrev pub clamped_to : ℕ → ℕ
clamped_to n = max 1 (min n 5)
