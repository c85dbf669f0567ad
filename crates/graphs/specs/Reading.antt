-- What is read of a graph's prices is what its model has.
use Rattle.std.specs.Prelude.{◌≡◌, ℕ, zero, suc, ◌<◌, ◌≤◌, Bool, true, false, cond, ◌&&◌, ◌||◌, List, [], ◌∷◌, filter, ◌==◌, ◌≢◌, nat_lt, refl}
use Rattle.std.proofs.Common.{sym, ap, ◌∙◌, inl, inr, ⊎_elim, arith}
use Rattle.std.specs.List.{AllByRecursion}
use Rattle.std.proofs.ByRecursion.{All-weaker}
use Rattle.std.proofs.lemmas.Bool.{and_from, and_right, cases_Bool, cases_order, cond_both, cond-true, cond-false, eqb-true, eq-eqb, both_ways, lt-ltb, le-ltb, or_cases, or_left, or_right}
use Rattle.prices.specs.declared.price.Price.{Ghosts as Kind}
use Rattle.graphs.specs.declared.graph.Graph.{Graph}
use Rattle.graphs.specs.Masks.{has, up_from, twelve, members, mem}
use Rattle.graphs.specs.Model.{Proper, Ascending, In, cost}
use Rattle.graphs.specs.Stored.{stored, count_at, model_in}
use Rattle.graphs.specs.Taken.{HasChoice}
use Rattle.graphs.specs.Below.{below}
use Rattle.graphs.specs.Lists.{asc_kept, all_any}
use Rattle.graphs.specs.Twelve.{count_fits}

-- # Members of a mask
mem_kept : (t : ℕ → Bool) (v : ℕ) (xs : List ℕ) → mem v (filter t xs) ≡ (t v && mem v xs)
mem_kept t v [] = sym (and_right (t v) false refl)
mem_kept t v (x ∷ xs) = ⊎_elim
    (λ e. here (t x) (ap t (eqb-true v x e)) e (mem_kept t v xs))
    (λ e. off (t x) e (mem_kept t v xs))
    (cases_Bool (v == x))
  where
    here : (b : Bool) → t v ≡ b → (v == x) ≡ true → mem v (filter t xs) ≡ (t v && mem v xs) → mem v (cond b (x ∷ filter t xs) (filter t xs)) ≡ (t v && (v == x || mem v xs))
    here true q e ih = rw (e, q) refl
    here false q e ih = ih ∙ rw q refl

    off : (b : Bool) → (v == x) ≡ false → mem v (filter t xs) ≡ (t v && mem v xs) → mem v (cond b (x ∷ filter t xs) (filter t xs)) ≡ (t v && (v == x || mem v xs))
    off true e ih = rw e ih
    off false e ih = rw e ih

mem_twelve : (v : ℕ) → v < 12 → mem v twelve ≡ true
unfolding twelve
mem_twelve v h = below (λ x. mem x (up_from 0 12)) 12 refl v h

and_one : (b : Bool) → (b && true) ≡ b
and_one true = refl
and_one false = refl

pub mem_members : (m v : ℕ) → v < 12 → mem v (members m) ≡ has m v
mem_members m v h = mem_kept (has m) v twelve ∙ ap (λ b. has m v && b) (mem_twelve v h) ∙ and_one (has m v)

pub mem_in : (x : ℕ) (xs : List ℕ) → In x xs → mem x xs ≡ true
mem_in x [] m = absurd m
mem_in x (y ∷ ys) (inl e) = or_left (x == y) (mem x ys) (eq-eqb x y e)
mem_in x (y ∷ ys) (inr m) = or_right (x == y) (mem x ys) (mem_in x ys m)

pub in_mem : (x : ℕ) (xs : List ℕ) → mem x xs ≡ true → In x xs
in_mem x [] e = absurd (both_ways false refl e)
in_mem x (y ∷ ys) e = ⊎_elim (λ q. inl (eqb-true x y q)) (λ q. inr (in_mem x ys q)) (or_cases (x == y) (mem x ys) e)

up_above : (v n : ℕ) → AllByRecursion (λ y. v ≤ y) (up_from v n)
up_above v zero = tt
up_above v (suc n) = (omega arith, All-weaker (λ y. suc v ≤ y) _ (λ y h. omega arith) (up_from (suc v) n) (up_above (suc v) n))

up_ascending : (v n : ℕ) → Ascending (up_from v n)
up_ascending v zero = tt
up_ascending v (suc n) = (All-weaker (λ y. suc v ≤ y) _ (λ y h. omega arith) (up_from (suc v) n) (up_above (suc v) n), up_ascending (suc v) n)

pub members_ascend : (m : ℕ) → Ascending (members m)
unfolding twelve
members_ascend m = asc_kept (has m) twelve (up_ascending 0 12)

-- # Counts and entries
module _ {P : Type 0} (k : Kind P) (g : Graph) (m : List P) where
  pub count_read : (v : ℕ) → v < 12 → has g.present v ≡ true → (model_in k g m).count v ≡ count_at g v
  count_read v h e = cond-true (mem v (members g.present)) _ _ (mem_members g.present v h ∙ e)

  pub count_few : (v : ℕ) → (model_in k g m).count v ≤ 5
  count_few v = cond_both (mem v (members g.present)) (count_at g v) 1 (λ n. n ≤ 5) (λ _. (count_fits g.counts v g.counted).1) (λ _. omega arith)

  pub count_some : (v : ℕ) → 0 < (model_in k g m).count v
  count_some v = cond_both (mem v (members g.present)) (count_at g v) 1 (λ n. 0 < n) (λ _. (count_fits g.counts v g.counted).0) (λ _. omega arith)

  pub proper : Proper (model_in k g m)
  proper = record { ascending = members_ascend g.present; some = all_any _ count_some (members g.present) }

  is_choice : (v i : ℕ) → HasChoice g v i → (mem v (members g.present) && nat_lt i (count_at g v)) ≡ true
  is_choice v i c = and_from _ _ (mem_members g.present v c.variable ∙ c.present) (lt-ltb i (count_at g v) c.within)

  pub vector_read : (v i : ℕ) → HasChoice g v i → (stored k m).vector v i ≡ (model_in k g m).entries.vector v i
  vector_read v i c = sym (cond-true (mem v (members g.present) && nat_lt i (count_at g v)) _ _ (is_choice v i c))

  matrix_read : (u v i j : ℕ) → HasChoice g u i → HasChoice g v j → u < v → (stored k m).matrix u v i j ≡ (model_in k g m).entries.matrix u v i j
  matrix_read u v i j c d l = sym (cond-true
      ((mem u (members g.present) && nat_lt i (count_at g u)) && ((mem v (members g.present) && nat_lt j (count_at g v)) && nat_lt u v)) _ _
      (and_from _ _ (is_choice u i c) (and_from _ _ (is_choice v j d) (lt-ltb u v l))))

  pub entry_read : (u v i j : ℕ) → HasChoice g u i → HasChoice g v j → (u ≢ v) → cost (stored k m) u v i j ≡ cost (model_in k g m).entries u v i j
  entry_read u v i j c d ne = ⊎_elim (λ e. absurd (ne e)) (⊎_elim
      (λ l. let t = lt-ltb u v l in cond-true (nat_lt u v) _ _ t ∙ matrix_read u v i j c d l ∙ sym (cond-true (nat_lt u v) _ _ t))
      (λ l. let t = le-ltb u v (omega arith) in cond-false (nat_lt u v) _ _ t ∙ matrix_read v u j i d c l ∙ sym (cond-false (nat_lt u v) _ _ t))) (cases_order u v)

  -- a choice is one of five
  pub choice_five : (v i : ℕ) → i < count_at g v → i < 5
  choice_five v i h = omega (arith, (count_fits g.counts v g.counted).1)
