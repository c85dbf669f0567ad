-- A list filled by calls that all give one value.
use Rattle.std.proofs.Common.{◌≡◌, ℕ, zero, suc, List, [], ◌∷◌, get_or, refl, subst}
use Rattle.std.specs.List.{FoldsTo}

pub filled : {F P : Type 0} (R : F → P → F → Type 0) (x : P) (f l : F) (ys : List P) → FoldsTo R f ys l → ((y : P) (q : F) → R f y q → (q ≡ f) × (y ≡ x)) → (c : ℕ) → get_or ys c x ≡ x
filled R x f l [] r h c = refl
filled R x f l (y ∷ ys) r h zero = (h y r.0 r.1).1
filled R x f l (y ∷ ys) r h (suc c) = filled R x f l ys (subst (λ j. FoldsTo R j ys l) (h y r.0 r.1).0 r.2) h c
