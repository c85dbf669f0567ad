-- The ranked kind: two numbers, ordered by the first, then the second; a first part of 65,535 is top, with a second part of 0.
use Rattle.std.specs.Prelude.{◌≡◌, ℕ, ◌+◌, ◌*◌, ◌<◌, ◌≤◌, min, Bool, cond, ◌&&◌, ◌||◌, List, ◌++◌, codes, decimal, ◌==◌, nat_le, nat_lt}
use Rattle.std.proofs.Common.{⊎_elim, arith}
use Rattle.std.proofs.lemmas.Bool.{lt-ltb, le-ltb, cases_lt}
use Rattle.prices.specs.declared.ranked.Ranked.{Ranked}

-- the second part of a sum: 0 where the first reaches 65,535, else it stops at 65,535
abbrev pub second_of : ℕ → ℕ → ℕ
second_of n m = cond (nat_lt n 65535) (min m 65535) 0

pub second_below : (n m : ℕ) → n < 65535 → second_of n m ≡ min m 65535
second_below n m h = rw (lt-ltb n 65535 h)

pub second_at : (n m : ℕ) → 65535 ≤ n → second_of n m ≡ 0
second_at n m h = rw (le-ltb n 65535 h)

-- the two parts keep the form of a ranked price
pub pair_fits : (n m : ℕ) → (second_of n m ≤ 65535) × (65535 * min n 65535 + second_of n m ≤ 65535 * 65535)
pair_fits n m = ⊎_elim
    (λ h. let e : second_of n m ≡ min m 65535 = second_below n m h in rw e (omega arith, omega arith))
    (λ h. let e : second_of n m ≡ 0 = second_at n m h in rw e (omega arith, omega arith))
    (cases_lt n 65535)

-- the ranked price of two numbers
abbrev pub ranked : ℕ → ℕ → Ranked
ranked n m = record { first = min n 65535; second = second_of n m; fits = pair_fits n m }

abbrev pub ranked_zero : Ranked
ranked_zero = ranked 0 0

abbrev pub ranked_top : Ranked
ranked_top = ranked 65535 0

abbrev pub ranked_sum : Ranked → Ranked → Ranked
ranked_sum a b = ranked (a.first + b.first) (a.second + b.second)

abbrev pub ranked_at_most : Ranked → Ranked → Bool
ranked_at_most a b = nat_lt a.first b.first || (a.first == b.first && nat_le a.second b.second)

abbrev pub ranked_access : ℕ → Ranked
ranked_access w = ranked w 0

abbrev pub ranked_move : ℕ → Ranked
ranked_move w = ranked 0 w

-- how a ranked price is written
abbrev pub ranked_words : Ranked → List ℕ
ranked_words p = cond (p.first == 65535) (codes "top") (codes "(" ++ (decimal p.first ++ (codes ", " ++ (decimal p.second ++ codes ")"))))
