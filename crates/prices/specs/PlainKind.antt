-- The plain kind: a number, where 4,294,967,295 is top and a sum stops there.
use Rattle.std.specs.Prelude.{ℕ, ◌+◌, ◌*◌, ◌≤◌, min, Bool, cond, List, codes, decimal, ◌==◌, nat_le}
use Rattle.std.proofs.Common.{arith}
use Rattle.prices.specs.declared.plain.Plain.{Plain}

abbrev pub stopped : ℕ → ℕ
stopped n = min n 4294967295

pub stopped_fits : (n : ℕ) → stopped n ≤ 4294967295
stopped_fits n = omega arith

-- the plain price of a number
abbrev pub plain : ℕ → Plain
plain n = record { value = stopped n; fits = stopped_fits n }

abbrev pub plain_zero : Plain
plain_zero = plain 0

abbrev pub plain_top : Plain
plain_top = plain 4294967295

abbrev pub plain_sum : Plain → Plain → Plain
plain_sum a b = plain (a.value + b.value)

abbrev pub plain_at_most : Plain → Plain → Bool
plain_at_most a b = nat_le a.value b.value

abbrev pub plain_access : ℕ → Plain
plain_access w = plain (3 * w)

abbrev pub plain_move : ℕ → Plain
plain_move w = plain w

-- how a plain price is written
abbrev pub plain_words : Plain → List ℕ
plain_words p = cond (p.value == 4294967295) (codes "top") (decimal p.value)
