-- The ranked kind keeps the laws of prices.
use Rattle.std.specs.Prelude.{◌≡◌, ℕ, ◌+◌, ◌*◌, ◌≤◌, min, true, nat_le}
use Rattle.std.proofs.Common.{sym, ap₂, ◌∙◌, ⊎_elim, arith}
use mathlib.Core.HLevel.{is_prop→PathP}
use Rattle.std.proofs.Math.Bridge.{le_prop}
use Rattle.std.proofs.lemmas.Bool.{leb-true, leb-false, le-leb, lt-leb, lt-ltb, le-ltb, ne_eqb, eq-eqb, cases_lt, cases_order}
use Rattle.prices.specs.Laws.{Laws}
use Rattle.prices.specs.declared.price.Price.{Ghosts as Kind}
use Rattle.prices.specs.declared.ranked.Ranked.{Ranked}
use Rattle.prices.specs.RankedKind.{second_of, second_below, second_at, ranked, ranked_zero, ranked_top, ranked_sum, ranked_at_most, ranked_access, ranked_move}

-- # Equal parts, equal prices

pub ranked_path : (a b : Ranked) → a.first ≡ b.first → a.second ≡ b.second → a ≡ b
ranked_path a b p q = λ i. record {
  first = p i;
  second = q i;
  fits = (
    is_prop→PathP (λ j. q j ≤ 65535) (λ j. le_prop) a.fits.0 b.fits.0 i,
    is_prop→PathP (λ j. 65535 * p j + q j ≤ 65535 * 65535) (λ j. le_prop) a.fits.1 b.fits.1 i,
  );
}

-- parts that stopped already make the same price
pub ranked_stopped : (n m : ℕ) → ranked (min n 65535) (min m 65535) ≡ ranked n m
ranked_stopped n m = ⊎_elim
    (λ h. ranked_path _ _ (omega arith) (second_below (min n 65535) (min m 65535) (omega arith) ∙ omega arith ∙ sym (second_below n m h)))
    (λ h. ranked_path _ _ (omega arith) (second_at (min n 65535) (min m 65535) (omega arith) ∙ sym (second_at n m h)))
    (cases_lt n 65535)

-- # The order goes by one number

abbrev key : Ranked → ℕ
key a = 65536 * a.first + a.second

by_key : (a b : Ranked) → ranked_at_most a b ≡ nat_le (key a) (key b)
by_key a b = ⊎_elim
    (λ e. rw (le-ltb a.first b.first (omega arith), eq-eqb a.first b.first e) (⊎_elim
    (λ h. rw (lt-leb a.second b.second h, lt-leb (key a) (key b) (omega arith)))
    (λ h. rw (le-leb a.second b.second h, le-leb (key a) (key b) (omega arith)))
    (cases_lt b.second a.second)))
    (⊎_elim
    (λ h. rw (lt-ltb a.first b.first h, le-leb (key a) (key b) (omega arith)))
    (λ h. rw (le-ltb a.first b.first (omega arith), ne_eqb a.first b.first (λ e. omega arith), lt-leb (key a) (key b) (omega arith))))
    (cases_order a.first b.first)

from_order : (a b : Ranked) → ranked_at_most a b ≡ true → key a ≤ key b
from_order a b h = leb-true (key a) (key b) (sym (by_key a b) ∙ h)

to_order : (a b : Ranked) → key a ≤ key b → ranked_at_most a b ≡ true
to_order a b h = by_key a b ∙ le-leb (key a) (key b) h

-- # The sum

second_assoc : (n k m x y z : ℕ) → second_of (min (n + k) 65535 + m) (second_of (n + k) (x + y) + z) ≡ second_of (n + min (k + m) 65535) (x + second_of (k + m) (y + z))
second_assoc n k m x y z = ⊎_elim
    (λ h.
    let p = second_below (n + k) (x + y) (omega arith) in
    let q = second_below (k + m) (y + z) (omega arith) in
    let r = second_below (min (n + k) 65535 + m) (second_of (n + k) (x + y) + z) (omega arith) in
    let s = second_below (n + min (k + m) 65535) (x + second_of (k + m) (y + z)) (omega arith) in
    r ∙ rw (p, q) (omega arith) ∙ sym s)
    (λ h.
    let r = second_at (min (n + k) 65535 + m) (second_of (n + k) (x + y) + z) (omega arith) in
    let s = second_at (n + min (k + m) 65535) (x + second_of (k + m) (y + z)) (omega arith) in
    r ∙ sym s)
    (cases_lt (n + k + m) 65535)

keeps_order : (a b c : Ranked) → key a ≤ key b → key (ranked_sum a c) ≤ key (ranked_sum b c)
keeps_order a b c h = ⊎_elim
    (λ k.
    let p = second_below (a.first + c.first) (a.second + c.second) (omega arith) in
    let q = second_below (b.first + c.first) (b.second + c.second) k in
    rw (p, q) (omega arith))
    (λ k. let q = second_at (b.first + c.first) (b.second + c.second) k in rw q (⊎_elim
    (λ j. let p = second_below (a.first + c.first) (a.second + c.second) j in rw p (omega arith))
    (λ j. let p = second_at (a.first + c.first) (a.second + c.second) j in rw p (omega arith))
    (cases_lt (a.first + c.first) 65535)))
    (cases_lt (b.first + c.first) 65535)

second_zero : (a : Ranked) → second_of (0 + a.first) (0 + a.second) ≡ a.second
second_zero a = ⊎_elim
    (λ h. let p = second_below (0 + a.first) (0 + a.second) h in p ∙ omega arith)
    (λ h. let p = second_at (0 + a.first) (0 + a.second) h in p ∙ omega arith)
    (cases_lt (0 + a.first) 65535)

-- # The laws

pub ranked_laws : Laws ranked_zero ranked_top ranked_sum ranked_at_most
ranked_laws = record {
  total = λ a b h. to_order b a (omega (arith, leb-false (key a) (key b) (sym (by_key a b) ∙ h)));
  no_ties = λ a b h k. ranked_path a b (omega (arith, from_order a b h, from_order b a k)) (omega (arith, from_order a b h, from_order b a k));
  chain = λ a b c h k. to_order a c (omega (arith, from_order a b h, from_order b c k));
  least = λ a. to_order ranked_zero a (omega arith);
  greatest = λ a. to_order a ranked_top (omega arith);
  assoc = λ a b c. ranked_path _ _ (omega arith) (second_assoc a.first b.first c.first a.second b.second c.second);
  comm = λ a b. ranked_path _ _ (omega arith) (ap₂ second_of (omega arith) (omega arith));
  zero_sum = λ a. ranked_path _ _ (omega arith) (second_zero a);
  top_sum = λ a. ranked_path _ _ (omega arith) (second_at (65535 + a.first) (0 + a.second) (omega arith));
  keeps = λ a b c h. to_order (ranked_sum a c) (ranked_sum b c) (keeps_order a b c (from_order a b h));
}

-- the kind as a whole, as a contract of code at ranked prices cites it
abbrev pub ranked_kind : Kind Ranked
ranked_kind = record { least = ranked_zero; greatest = ranked_top; sum = ranked_sum; at_most = ranked_at_most; access_of = ranked_access; move_of = ranked_move; laws = ranked_laws }
