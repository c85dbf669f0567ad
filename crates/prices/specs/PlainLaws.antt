-- The plain kind keeps the laws of prices.
use Rattle.std.specs.Prelude.{◌≡◌, ◌≤◌}
use mathlib.Core.HLevel.{is_prop→PathP}
use Rattle.std.proofs.Common.{arith, leb-true, leb-false, le-leb}
use Rattle.std.proofs.Math.Bridge.{le_prop}
use Rattle.prices.specs.Laws.{Laws}
use Rattle.prices.specs.declared.price.Price.{Ghosts as Kind}
use Rattle.prices.specs.declared.plain.Plain.{Plain}
use Rattle.prices.specs.PlainKind.{plain_zero, plain_top, plain_sum, plain_at_most, plain_access, plain_move}

-- plain prices of one number are one price
pub plain_path : (a b : Plain) → a.value ≡ b.value → a ≡ b
plain_path a b p = λ i. record { value = p i; fits = is_prop→PathP (λ j. p j ≤ 4294967295) (λ j. le_prop) a.fits b.fits i }

pub plain_laws : Laws plain_zero plain_top plain_sum plain_at_most
plain_laws = record {
  total = λ a b h. le-leb _ _ (omega (arith, leb-false a.value b.value h));
  no_ties = λ a b h k. plain_path a b (omega (arith, leb-true a.value b.value h, leb-true b.value a.value k));
  chain = λ a b c h k. le-leb _ _ (omega (arith, leb-true a.value b.value h, leb-true b.value c.value k));
  least = λ a. le-leb _ _ (omega arith);
  greatest = λ a. le-leb _ _ (omega arith);
  assoc = λ a b c. plain_path _ _ (omega arith);
  comm = λ a b. plain_path _ _ (omega arith);
  zero_sum = λ a. plain_path _ _ (omega arith);
  top_sum = λ a. plain_path _ _ (omega arith);
  keeps = λ a b c h. le-leb _ _ (omega (arith, leb-true a.value b.value h));
}

-- the kind as a whole, as a contract of code at plain prices cites it
abbrev pub plain_kind : Kind Plain
plain_kind = record { least = plain_zero; greatest = plain_top; sum = plain_sum; at_most = plain_at_most; access_of = plain_access; move_of = plain_move; laws = plain_laws }
