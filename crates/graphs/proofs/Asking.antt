-- What is answered of a graph in a memory.
use Rattle.std.proofs.Common.{◌≡◌, ℕ, zero, suc, ◌+◌, ◌<◌, ◌≤◌, Bool, true, false, cond, not, filter, ◌&&◌, ◌||◌, ltb, List, [], ◌∷◌, map, length, take, get_or, sym, refl, ap, ◌∙◌, ap₂, arith}
use mathlib.Core.Path.{fun_ext}
use lib.ListN.{length-map}
use Rattle.std.specs.List.{AllByRecursion, list_all}
use Rattle.std.proofs.ByRecursion.{All-weaker}
use Rattle.std.proofs.lemmas.List.{ext_get_or, get_or-map, get_or-take}
use Rattle.std.proofs.lemmas.Bool.{and_parts, ltb-true}
use Rattle.prices.specs.declared.price.Price.{Ghosts as Kind}
use Rattle.graphs.specs.declared.graph.Graph.{Graph}
use Rattle.graphs.specs.Masks.{has, mem, members, members_from, twelve, up_from}
use Rattle.graphs.specs.Model.{Model, LowestJoined}
use Rattle.graphs.specs.Plain.{lowest_joined}
use Rattle.graphs.specs.Edges.{edges, EdgesOf}
use Rattle.graphs.specs.Asked.{has_pick, assigns}
use Rattle.graphs.specs.Stored.{count_at, model_in, model_of, pick_of}
use Rattle.graphs.specs.Taken.{Present, HasChoice, Taken}
use Rattle.graphs.specs.Unread.{SameWhereRead, Unread}
use Rattle.graphs.specs.Places.{vector_at, matrix_at}
use Rattle.graphs.proofs.Apart.{pair_below}
use Rattle.graphs.specs.Fronts.{from_members, in_from}
use Rattle.graphs.specs.Lists.{all_in}
use Rattle.graphs.specs.Reading.{count_read, in_mem, proper}
use Rattle.graphs.specs.Twelve.{count_fits}

-- # Picks that are an assignment
pub all_kept : (t p : ℕ → Bool) (xs : List ℕ) → list_all (λ x. not (p x) || t x) xs ≡ list_all t (filter p xs)
all_kept t p [] = refl
all_kept t p (x ∷ xs) = go (p x) (all_kept t p xs)
  where
    go : (b : Bool) → list_all (λ x. not (p x) || t x) xs ≡ list_all t (filter p xs) → ((not b || t x) && list_all (λ x. not (p x) || t x) xs) ≡ list_all t (cond b (x ∷ filter p xs) (filter p xs))
    go true e = ap (λ c. t x && c) e
    go false e = e

all_same : (s t : ℕ → Bool) (xs : List ℕ) → AllByRecursion (λ x. s x ≡ t x) xs → list_all s xs ≡ list_all t xs
all_same s t [] h = refl
all_same s t (x ∷ xs) h = ap₂ ◌&&◌ h.0 (all_same s t xs h.1)

all_pass : (t : ℕ → Bool) (xs : List ℕ) → list_all t xs ≡ true → AllByRecursion (λ x. t x ≡ true) xs
all_pass t [] e = tt
all_pass t (x ∷ xs) e = let p = and_parts (t x) (list_all t xs) e in (p.0, all_pass t xs p.1)

module _ {P : Type 0} (k : Kind P) (g : Graph) (m : List P) (xs : List ℕ) where
  pub assigns_is : assigns (model_in k g m) (pick_of xs) ≡ list_all (has_pick g xs) (members_from g.present 0)
  assigns_is = all_same _ _ (members g.present) (All-weaker (λ y. (0 ≤ y) × (y < 12) × (has g.present y ≡ true)) _
      (λ y q. ap (λ n. ltb (pick_of xs y) n) (count_read k g m y q.1 q.2)) (members g.present) (from_members g.present 12 0 refl))

pub all_taken : (g : Graph) (xs : List ℕ) → list_all (has_pick g xs) (members_from g.present 0) ≡ true → Taken g 12 xs
all_taken g xs e y l b = ltb-true _ _ (all_in (λ v. ltb (pick_of xs v) (count_at g v) ≡ true) (members g.present) y
    (all_pass (has_pick g xs) (members g.present) e) (in_from g.present 12 0 y refl (omega arith) l b))

-- # Edges of all twelve
get_d_up : (a n v : ℕ) → v < n → get_or (up_from a n) v 0 ≡ a + v
get_d_up a zero v h = absurd (omega arith)
get_d_up a (suc n) zero h = omega arith
get_d_up a (suc n) (suc v) h = get_d_up (suc a) n v (omega arith) ∙ omega arith

pub all_edges : {P : Type 0} (k : Kind P) (g : Model P) (es : List ℕ) → length es ≡ 12 → EdgesOf k g es → es ≡ map (edges k g) twelve
unfolding twelve
all_edges k g es len h = ext_get_or 0 es (map (edges k g) (up_from 0 12)) (len ∙ sym (length-map (up_from 0 12) (edges k g)))
    (λ v l. h v (omega arith) ∙ sym (get_or-map (edges k g) (up_from 0 12) v 0 0 (omega arith) ∙ ap (edges k g) (get_d_up 0 12 v (omega arith) ∙ omega arith)))

-- # What is never read
choose : {X : Type 0} (b c : Bool) (x y z : X) → b ≡ c → (b ≡ true → x ≡ y) → cond b x z ≡ cond c y z
choose b c x y z e h = go b h ∙ ap (λ d. cond d y z) e
  where
    go : (d : Bool) → (d ≡ true → x ≡ y) → cond d x z ≡ cond d y z
    go true f = f refl
    go false f = refl

both : (a b c d : Bool) → a ≡ b → (a ≡ true → c ≡ d) → (a && c) ≡ (b && d)
both a b c d e h = go a h ∙ ap (λ x. x && d) e
  where
    go : (x : Bool) → (x ≡ true → c ≡ d) → (x && c) ≡ (x && d)
    go true f = f refl
    go false f = refl

present_of : (g : Graph) (v : ℕ) → mem v (members g.present) ≡ true → Present g v
present_of g v e =
    let q = all_in (λ y. (0 ≤ y) × (y < 12) × (has g.present y ≡ true)) (members g.present) v (from_members g.present 12 0 refl) (in_mem v (members g.present) e) in
    record { variable = q.1; present = q.2 }

choice_of : (g : Graph) (v i : ℕ) → (mem v (members g.present) && ltb i (count_at g v)) ≡ true → HasChoice g v i
choice_of g v i e =
    let q = and_parts (mem v (members g.present)) (ltb i (count_at g v)) e in
    let p = present_of g v q.0 in
    record { variable = p.variable; present = p.present; within = ltb-true _ _ q.1 }

vector_below : (g : Graph) (v i : ℕ) → HasChoice g v i → vector_at v i < 1710
vector_below g v i c = omega (arith, c.variable, c.within, (count_fits g.counts v g.counted).1)

matrix_below : (g : Graph) (u v i j : ℕ) → HasChoice g u i → HasChoice g v j → u < v → matrix_at u v i j < 1710
matrix_below g u v i j c d l = omega (arith, c.within, d.within, (count_fits g.counts u g.counted).1, (count_fits g.counts v g.counted).1, pair_below u v l d.variable)

module _ {P : Type 0} (k : Kind P) (g h : Graph) (a b : List P) (s : SameWhereRead k g h a b) where
  same_mem : (x : ℕ) → mem x (members g.present) ≡ mem x (members h.present)
  same_mem x = ap (λ p. mem x (members p)) s.present

  same_choice : (x i : ℕ) → (mem x (members g.present) && ltb i (count_at g x)) ≡ (mem x (members h.present) && ltb i (count_at h x))
  same_choice x i = both _ _ _ _ (same_mem x) (λ e. ap (ltb i) (s.counts x (present_of g x e)))

  same_count : (x : ℕ) → (model_of k g a).count x ≡ (model_of k h b).count x
  same_count x = choose _ _ _ _ 1 (same_mem x) (λ e. s.counts x (present_of g x e))

  same_vector : (x i : ℕ) → (model_of k g a).entries.vector x i ≡ (model_of k h b).entries.vector x i
  same_vector x i = choose _ _ _ _ k.least (same_choice x i) (λ e.
      let c = choice_of g x i e in
      let l = vector_below g x i c in
      get_or-take 1710 a (vector_at x i) k.least l ∙ s.vectors x i c ∙ sym (get_or-take 1710 b (vector_at x i) k.least l))

  same_matrix : (x y i j : ℕ) → (model_of k g a).entries.matrix x y i j ≡ (model_of k h b).entries.matrix x y i j
  same_matrix x y i j = choose _ _ _ _ k.least
      (ap₂ ◌&&◌ (same_choice x i) (ap (λ t. t && ltb x y) (same_choice y j)))
      (λ e. let p = and_parts (mem x (members g.present) && ltb i (count_at g x)) _ e in
      let q = and_parts (mem y (members g.present) && ltb j (count_at g y)) (ltb x y) p.1 in
      let c = choice_of g x i p.0 in
      let d = choice_of g y j q.0 in
      let up = ltb-true x y q.1 in
      let l = matrix_below g x y i j c d up in
      get_or-take 1710 a (matrix_at x y i j) k.least l ∙ s.matrices x y i j c d up ∙ sym (get_or-take 1710 b (matrix_at x y i j) k.least l))

  one_model : model_of k g a ≡ model_of k h b
  one_model = λ t. record {
    variables = members (s.present t);
    count = fun_ext same_count t;
    entries = record { vector = fun_ext (λ x. fun_ext (same_vector x)) t; matrix = fun_ext (λ x. fun_ext (λ y. fun_ext (λ i. fun_ext (same_matrix x y i)))) t };
  }

pub unread : {P : Type 0} (k : Kind P) → Unread k
unread k g h a b s = one_model k g h a b s

-- # The lowest total
pub lowest_stands : {P : Type 0} (k : Kind P) (g : Graph) (m : List P) → LowestJoined k (model_of k g m)
lowest_stands k g m = lowest_joined k (model_of k g m) (proper k g (take 1710 m))
