-- The edges of all variables, by those of each to the variables below it.
use Rattle.std.specs.Prelude.{◌≡◌, ℕ, zero, suc, ◌+◌, ◌-◌, ◌<◌, ◌≤◌, Bool, cond, List, [], ◌∷◌, filter, slice_index, refl}
use Rattle.std.specs.List.{fold}
use Rattle.std.proofs.Common.{ap, ap₂, ◌∙◌, ⊎_elim, arith}
use Rattle.std.proofs.lemmas.Bool.{cases_Bool}
use Rattle.prices.specs.declared.price.Price.{Ghosts as Kind}
use Rattle.graphs.specs.Masks.{has, up_from, with_member}
use Rattle.graphs.specs.Model.{Model}
use Rattle.graphs.specs.Edges.{edge, edges, lower_edges, joined, LowerOf}
use Rattle.graphs.specs.Bitwise.{by_skip, has_by}
use Rattle.graphs.specs.Linking.{edge_self, edge_sym}
use Rattle.graphs.proofs.Chains.{mask_from_run}

-- what a fold adds under a test is what the test keeps
fold_kept : (t : ℕ → Bool) (m : ℕ) (xs : List ℕ) → fold (λ n x. cond (t x) (with_member n x) n) m xs ≡ fold with_member m (filter t xs)
fold_kept t m [] = refl
fold_kept t m (x ∷ xs) = ⊎_elim (λ e. rw e (fold_kept t (with_member m x) xs)) (λ e. rw e (fold_kept t m xs)) (cases_Bool (t x))

-- tests that agree on a run keep the same of it
kept_same : (s t : ℕ → Bool) (a n : ℕ) → ((z : ℕ) → a ≤ z → z < a + n → s z ≡ t z) → filter s (up_from a n) ≡ filter t (up_from a n)
kept_same s t a zero h = refl
kept_same s t a (suc n) h =
    ap₂ (λ b xs. cond b (a ∷ xs) xs) (h a (omega arith) (omega arith)) (kept_same s t (suc a) n (λ z p q. h z (omega arith) (omega arith)))

pub joined_is : {P : Type 0} (k : Kind P) (g : Model P) (lower : List ℕ) → LowerOf k g lower → (v : ℕ) → v < 12 → joined lower v ≡ edges k g v
unfolding edges lower_edges
joined_is k g lower h v l =
    let t = edge k g v in
    fold_kept (λ u. has (slice_index lower u) v) (slice_index lower v) (up_from (v + 1) (12 - (v + 1)))
    ∙ ap₂ (fold with_member) (h v l ∙ by_skip t v (edge_self k g v))
    (kept_same (λ u. has (slice_index lower u) v) t (v + 1) (12 - (v + 1))
    (λ u p q. ap (λ m. has m v) (h u (omega arith)) ∙ has_by (edge k g u) u v (omega arith) ∙ edge_sym k g u v))
    ∙ mask_from_run t (v + 1) 12 (omega arith) (omega arith)
