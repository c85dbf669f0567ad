-- How often a variable is named, and the price of one line more.
use Rattle.std.proofs.Common.{◌≡◌, ℕ, ◌+◌, ◌<◌, ◌≤◌, Bool, true, false, cond, eqb, List, ◌∷◌, length, get_or, drop, Some, None, Option, nat_eq, count_by, refl, sym, ◌∙◌, zero-add}
use Rattle.std.specs.Option.{option_eq}
use Rattle.std.proofs.lemmas.List.{drop_more, drop_all}
use Rattle.std.proofs.lemmas.List.Recursion.{is_count_by}
use Rattle.prices.specs.declared.price.Price.{Ghosts as Kind}
use Rattle.sheets.specs.declared.line.Line.{Line}
use Rattle.sheets.specs.Usage.{present, times}
use Rattle.sheets.specs.Placement.{line_price, price}

-- # How often a variable is named

one_more : (b : Bool) (n : ℕ) → cond b 1 0 + n ≡ cond b (1 + n) n
one_more true n = refl
one_more false n = zero-add n

named_more : (v : ℕ) (o : Option ℕ) (ps : List (Option ℕ)) → times v (present (o ∷ ps)) ≡ cond (option_eq nat_eq (Some v) o) (1 + times v (present ps)) (times v (present ps))
named_more v None ps = refl
named_more v (Some x) ps = one_more (eqb v x) _

pub times_present : (v : ℕ) (os : List (Option ℕ)) → count_by (λ o. option_eq nat_eq (Some v) o) os ≡ times v (present os)
times_present v os = sym (is_count_by (λ ps. times v (present ps)) (λ o. option_eq nat_eq (Some v) o) refl (λ o ps. named_more v o ps) os)

-- # Sums of prices

module _ {P : Type 0} (k : Kind P) where
  pub sum_zero : (x : P) → k.sum x k.least ≡ x
  sum_zero x = k.laws.comm x k.least ∙ k.laws.zero_sum x

  pub price_more : (c : ℕ → ℕ) (t : P) (ls : List Line) (i : ℕ) (d : Line) → i < length ls
      → (x next : P) → x ≡ line_price k c (get_or ls i d) → next ≡ k.sum t x
      → k.sum t (price k (drop i ls) c) ≡ k.sum next (price k (drop (i + 1) ls) c)
  price_more c t ls i d h x next e f = rw (drop_more ls i d, f, e) (sym (k.laws.assoc t (line_price k c (get_or ls i d)) (price k (drop (i + 1) ls) c)))

  pub price_all : (c : ℕ → ℕ) (t : P) (ls : List Line) (i : ℕ) → length ls ≤ i → k.sum t (price k (drop i ls) c) ≡ t
  price_all c t ls i h = rw (drop_all i ls h) (sum_zero t)
