-- Ascending lists and members.
use Rattle.std.proofs.Common.{sym, subst, inl, inr}
use Rattle.std.specs.Prelude.{ℕ, ◌<◌, Bool, List, [], ◌∷◌, filter, refl}
use Rattle.std.specs.List.{AllByRecursion}
use Rattle.std.proofs.ByRecursion.{All-weaker, all_kept_by}
use Rattle.std.proofs.lemmas.Bool.{cond_both}
use Rattle.graphs.specs.Model.{Ascending, In}

pub all_in : (Q : ℕ → Type 0) (xs : List ℕ) (x : ℕ) → AllByRecursion Q xs → In x xs → Q x
all_in Q [] x h m = absurd m
all_in Q (y ∷ ys) x h (inl e) = subst Q (sym e) h.0
all_in Q (y ∷ ys) x h (inr m) = all_in Q ys x h.1 m

pub in_itself : (xs : List ℕ) → AllByRecursion (λ x. In x xs) xs
in_itself [] = tt
in_itself (x ∷ xs) = (inl refl, All-weaker (λ y. In y xs) (λ y. In y (x ∷ xs)) (λ y m. inr m) xs (in_itself xs))

pub asc_kept : (t : ℕ → Bool) (xs : List ℕ) → Ascending xs → Ascending (filter t xs)
asc_kept t [] h = tt
asc_kept t (x ∷ xs) h = cond_both (t x) (x ∷ filter t xs) (filter t xs) Ascending
    (λ _. (all_kept_by t (λ y. x < y) xs h.0, asc_kept t xs h.1)) (λ _. asc_kept t xs h.1)

pub all_zip : (A B C : ℕ → Type 0) → ((x : ℕ) → A x → B x → C x) → (xs : List ℕ) → AllByRecursion A xs → AllByRecursion B xs → AllByRecursion C xs
all_zip A B C f [] a b = tt
all_zip A B C f (x ∷ xs) a b = (f x a.0 b.0, all_zip A B C f xs a.1 b.1)

pub all_any : (Q : ℕ → Type 0) → ((x : ℕ) → Q x) → (xs : List ℕ) → AllByRecursion Q xs
all_any Q f [] = tt
all_any Q f (x ∷ xs) = (f x, all_any Q f xs)
