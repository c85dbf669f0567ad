-- Masks made by a test: which bits they have, and how many.
use Rattle.std.specs.Prelude.{◌≡◌, ℕ, zero, suc, ◌+◌, ◌-◌, ◌*◌, ◌/◌, ◌%◌, ◌^◌, ◌<◌, ◌≤◌, Bool, true, false, cond, ◌∷◌, length, ◌==◌, bit_or, nat_eq, refl}
use Rattle.std.proofs.Common.{sym, ap, ◌∙◌, ⊎_elim, arith, add-one}
use Rattle.std.proofs.Math.Pow.{field, mod-mod-pow, high, low}
use Rattle.std.specs.Int.Count.{ones}
use Rattle.std.specs.List.{AllByRecursion}
use Rattle.std.proofs.lemmas.Nat.{one_shl, or_comm, or_shifted, pow-add, ones_cat}
use Rattle.std.proofs.lemmas.Bool.{cases_lt}
use Rattle.std.proofs.ByRecursion.{All-weaker}
use Rattle.graphs.specs.Masks.{has, up_from, twelve, kept_below, mask_by}

-- digits above do not matter
shr_low : (x d v : ℕ) → x % 2 ^ ((d + 1) + v) / 2 ^ v % 2 ≡ x / 2 ^ v % 2
shr_low x d v = ap (λ y. y % 2) (field x (d + 1) v) ∙ mod-mod-pow (x / 2 ^ v) d 1

abbrev bit : Bool → ℕ
bit b = cond b 1 0

by_bit : (t : ℕ → Bool) (n : ℕ) → mask_by t (suc n) ≡ bit (t n) * 2 ^ n + mask_by t n
by_bit t n = go (t n)
  where
    go : (b : Bool) → mask_by t n + cond b (2 ^ n) 0 ≡ bit b * 2 ^ n + mask_by t n
    go true = omega arith
    go false = omega arith

pub by_below : (t : ℕ → Bool) (n : ℕ) → mask_by t n < 2 ^ n
by_below t zero = omega arith
by_below t (suc n) = let e : 2 ^ suc n ≡ 2 ^ n + 2 ^ n = ap (λ x. 2 ^ x) (sym (add-one n)) ∙ pow-add 2 n 1 ∙ omega arith in rw e (go (by_below t n) (t n))
  where
    go : mask_by t n < 2 ^ n → (b : Bool) → mask_by t n + cond b (2 ^ n) 0 < 2 ^ n + 2 ^ n
    go h true = omega arith
    go h false = omega arith

bit_of : (b : Bool) → (bit b % 2 == 1) ≡ b
bit_of true = refl
bit_of false = refl

pub has_by : (t : ℕ → Bool) (n v : ℕ) → v < n → has (mask_by t n) v ≡ t v
has_by t zero v h = absurd (omega arith)
has_by t (suc n) v h = ⊎_elim
    (λ l. let d = n - v - 1 in
    let e : (d + 1) + v ≡ n = omega arith in
    ap (λ x. has x v) (by_bit t n) ∙ ap (λ x. nat_eq x 1) (sym (shr_low (bit (t n) * 2 ^ n + mask_by t n) d v))
    ∙ ap (λ w. nat_eq ((bit (t n) * 2 ^ n + mask_by t n) % 2 ^ w / 2 ^ v % 2) 1) e
    ∙ ap (λ x. nat_eq (x / 2 ^ v % 2) 1) (low (bit (t n)) n (by_below t n)) ∙ has_by t n v l)
    (λ l. let e : v ≡ n = omega arith in
    ap (has (mask_by t (suc n))) e ∙ ap (λ x. has x n) (by_bit t n)
    ∙ ap (λ x. nat_eq (x % 2) 1) (high (bit (t n)) n (by_below t n)) ∙ bit_of (t n) ∙ ap t (sym e))
    (cases_lt v n)

up_below : (v n m : ℕ) → v + n ≤ m → AllByRecursion (λ x. x < m) (up_from v n)
up_below v zero m h = tt
up_below v (suc n) m h = (omega arith, up_below (suc v) n m (omega arith))

pub all_twelve : AllByRecursion (λ x. x < 12) twelve
unfolding twelve
all_twelve = up_below 0 12 12 (omega arith)

-- what holds below twelve holds of each of the twelve
pub on_twelve : (Q : ℕ → Type 0) → ((x : ℕ) → x < 12 → Q x) → AllByRecursion Q twelve
on_twelve Q f = All-weaker (λ x. x < 12) Q f twelve all_twelve

-- one variable more
pub by_set : (t : ℕ → Bool) (v : ℕ) → v < 16 → t v ≡ true → bit_or (mask_by t v) ((1 * 2 ^ v) % 2 ^ 16) ≡ mask_by t (v + 1)
by_set t v h e =
    ap (bit_or (mask_by t v)) (one_shl v 16 h ∙ omega arith) ∙ or_comm (mask_by t v) (1 * 2 ^ v) ∙ or_shifted 1 v (mask_by t v) (by_below t v)
    ∙ sym (ap (mask_by t) (add-one v) ∙ by_bit t v ∙ ap (λ b. bit b * 2 ^ v + mask_by t v) e)

pub by_skip : (t : ℕ → Bool) (v : ℕ) → t v ≡ false → mask_by t v ≡ mask_by t (v + 1)
by_skip t v e = omega arith ∙ sym (ap (mask_by t) (add-one v) ∙ by_bit t v ∙ ap (λ b. bit b * 2 ^ v + mask_by t v) e)

-- how many ones
ones_bit : (b : Bool) → ones (bit b) ≡ bit b
unfolding ones
ones_bit true = refl
ones_bit false = refl

ones_zero : ones 0 ≡ 0
unfolding ones
ones_zero = refl

pub ones_below : (t : ℕ → Bool) (n : ℕ) → ones (mask_by t n) ≡ length (kept_below t n)
ones_below t zero = ones_zero
ones_below t (suc n) = ap ones (by_bit t n) ∙ ones_cat n (bit (t n)) (mask_by t n) (by_below t n) ∙ ap (λ x. ones (bit (t n)) + x) (ones_below t n) ∙ go (t n)
  where
    go : (b : Bool) → ones (bit b) + length (kept_below t n) ≡ length (cond b (n ∷ kept_below t n) (kept_below t n))
    go true = ap (λ x. x + length (kept_below t n)) (ones_bit true) ∙ omega arith
    go false = ap (λ x. x + length (kept_below t n)) (ones_bit false) ∙ omega arith
