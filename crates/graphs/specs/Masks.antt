-- Sets of variables as masks over the twelve.
use Rattle.std.specs.Prelude.{ℕ, zero, suc, ◌+◌, ◌*◌, ◌/◌, ◌%◌, ◌^◌, Bool, false, cond, ◌||◌, List, [], ◌∷◌, drop, filter, bit_or, ◌==◌}

abbrev pub has : ℕ → ℕ → Bool
has m v = m / 2 ^ v % 2 == 1

abbrev pub up_from : ℕ → ℕ → List ℕ
up_from v zero = []
up_from v (suc n) = v ∷ up_from (suc v) n

-- shut, since a test of twelve variables has many ways
unfoldable pub twelve : List ℕ
twelve = up_from 0 12

-- the members, ascending
abbrev pub members : ℕ → List ℕ
members m = filter (has m) twelve

-- the members from v on, ascending
abbrev pub members_from : ℕ → ℕ → List ℕ
members_from m v = filter (has m) (drop v twelve)

-- the numbers below n that pass a test, descending
abbrev pub kept_below : (ℕ → Bool) → ℕ → List ℕ
kept_below t zero = []
kept_below t (suc n) = cond (t n) (n ∷ kept_below t n) (kept_below t n)

-- the members below v, descending
abbrev pub members_below : ℕ → ℕ → List ℕ
members_below m v = kept_below (has m) v

-- the mask of the variables below n that pass a test
abbrev pub mask_by : (ℕ → Bool) → ℕ → ℕ
mask_by t zero = 0
mask_by t (suc n) = mask_by t n + cond (t n) (2 ^ n) 0

-- whether some number below n passes a test
abbrev pub some_below : ℕ → (ℕ → Bool) → Bool
some_below zero t = false
some_below (suc n) t = t n || some_below n t

abbrev pub mem : ℕ → List ℕ → Bool
mem x [] = false
mem x (y ∷ ys) = x == y || mem x ys

-- a mask with u in it too
abbrev pub with_member : ℕ → ℕ → ℕ
with_member m u = bit_or m ((1 * 2 ^ u) % 2 ^ 16)
