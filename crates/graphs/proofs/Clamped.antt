-- Counts made to fit.
use Rattle.std.proofs.Common.{◌≡◌, ℕ, true, List, [], ◌∷◌, map, length, get_or, sym, refl, ◌∙◌, arith}
use lib.ListN.{length-map}
use Rattle.std.proofs.lemmas.List.{ext_get_or, get_or-map}
use Rattle.std.proofs.lemmas.Bool.{and_from, lt-ltb, le-leb}
use Rattle.std.specs.Fn.{Called}
use Rattle.std.specs.Array.{IsMapOf}
use denote.Param.Members.{Mut}
use Rattle.graphs.specs.Counts.{sized, clamped_to}

pub sized_clamped : (xs : List ℕ) → sized (map clamped_to xs) ≡ true
sized_clamped [] = refl
sized_clamped (x ∷ xs) = and_from _ _ (and_from _ _ (lt-ltb 0 (clamped_to x) (omega arith)) (le-leb (clamped_to x) 5 (omega arith))) (sized_clamped xs)

-- an array mapped by calls that compute t
pub mapped_by : {F : Type 0} {g : Mut F (ℕ × Unit {0}) ℕ} (t : ℕ → ℕ) (f : F) (xs ys : List ℕ) (n : ℕ) → length xs ≡ n → IsMapOf g f xs ys n → ((x y : ℕ) (p q : F) → Called g p (x, tt) y q → y ≡ t x) → ys ≡ map t xs
mapped_by t f xs ys n e m h =
    ext_get_or 0 ys (map t xs) (m.long ∙ sym e ∙ sym (length-map xs t))
    (λ i l. let c = m.at i 0 0 (omega (arith, m.long)) in h (get_or xs i 0) (get_or ys i 0) c.0 c.1 c.2 ∙ sym (get_or-map t xs i 0 0 (omega (arith, m.long))))
