-- Different entries stand at different places.
use Rattle.std.proofs.Common.{◌≡◌, ℕ, ◌+◌, ◌-◌, ◌*◌, ◌/◌, ◌<◌, ◌≤◌, Bool, true, ◌&&◌, ◌||◌, leb, refl, inl, inr, arith}
use Rattle.std.proofs.lemmas.Bool.{leb-true, and_parts, or_cases, cases_order}
use Rattle.graphs.specs.Places.{pair_no}
use Rattle.graphs.specs.Below.{all_below, below}

-- where the pairs of u begin
abbrev pub start : ℕ → ℕ
start u = u * (23 - u) / 2

-- the pairs of u end where those of u + 1 begin, and the last ones at 66
row_test : ℕ → ℕ → Bool
row_test u w = (leb (start u + 11) (66 + u)) && ((leb w u) || (leb (start u + 11) (start w + u)))

row : (u w : ℕ) → u < 12 → w < 12 → row_test u w ≡ true
unfolding row_test
row u w h k = below (row_test u) 12 (below (λ x. all_below 12 (row_test x)) 12 refl u h) w k

pub row_end : (u : ℕ) → u < 12 → start u + 11 ≤ 66 + u
unfolding row_test
row_end u h = leb-true _ _ (and_parts _ _ (row u u h h)).0

pub row_order : (u w : ℕ) → u < w → w < 12 → start u + 11 ≤ start w + u
unfolding row_test
row_order u w h k =
    let l : u < 12 = omega arith in
    elim (or_cases _ _ (and_parts (leb (start u + 11) (66 + u)) _ (row u w l k)).1) [
      | inl e ↦ let b : w ≤ u = leb-true _ _ e in omega arith
      | inr e ↦ leb-true _ _ e
    ]

pub pair_below : (u v : ℕ) → u < v → v < 12 → pair_no u v < 66
pair_below u v h k = omega (arith, row_end u (omega arith))

pub pair_first : (u v u' v' : ℕ) → u < v → v < 12 → u' < v' → v' < 12 → pair_no u v ≡ pair_no u' v' → u ≡ u'
pair_first u v u' v' h k h' k' e =
    elim (cases_order u u') [
      | inl same ↦ same
      | inr (inl lt) ↦ let z : ⊥ = omega (arith, row_order u u' lt (omega arith)) in absurd z
      | inr (inr gt) ↦ let z : ⊥ = omega (arith, row_order u' u gt (omega arith)) in absurd z
    ]

pub pair_second : (u v v' : ℕ) → u < v → u < v' → pair_no u v ≡ pair_no u v' → v ≡ v'
pair_second u v v' h h' e = omega arith
