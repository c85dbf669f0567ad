-- Edges: what a test over rows and columns finds, and that it finds the same from either side.
use Rattle.std.specs.Prelude.{◌≡◌, ℕ, zero, suc, ◌<◌, Bool, true, false, not, ◌&&◌, ◌||◌, List, ◌==◌, ◌≢◌, nat_lt, refl}
use Rattle.std.proofs.Common.{sym, ap, ap₂, ◌∙◌, ⊎_elim, arith}
use Rattle.std.proofs.lemmas.Bool.{and_right, cases_Bool, cases_lt, cases_order, cond-true, cond-false, eqb-true, eq-eqb, ne_eqb, both_ways, lt-ltb, le-ltb, not-false, or_parts}
use Rattle.prices.specs.declared.price.Price.{Ghosts as Kind}
use Rattle.graphs.specs.declared.graph.Graph.{Graph}
use Rattle.graphs.specs.Masks.{has, mem, members, some_below}
use Rattle.graphs.specs.Model.{Entries, Model, cost}
use Rattle.graphs.specs.Edges.{priced, linked_in, linked, edge}
use Rattle.graphs.specs.Stored.{stored, count_at, model_in}
use Rattle.graphs.specs.Reading.{mem_members, count_read, entry_read}
use Rattle.graphs.specs.Taken.{Present}

-- # Some below
some_or : (n : ℕ) (s t : ℕ → Bool) → some_below n (λ i. s i || t i) ≡ (some_below n s || some_below n t)
some_or zero s t = refl
some_or (suc n) s t = ap (λ b. (s n || t n) || b) (some_or n s t) ∙ swap (s n) (t n) (some_below n s) (some_below n t)
  where
    swap : (a b c d : Bool) → ((a || b) || (c || d)) ≡ ((a || c) || (b || d))
    swap true b c d = refl
    swap false true true d = refl
    swap false true false d = refl
    swap false false c d = refl

some_same : (n : ℕ) (s t : ℕ → Bool) → ((i : ℕ) → i < n → s i ≡ t i) → some_below n s ≡ some_below n t
some_same zero s t h = refl
some_same (suc n) s t h = ap₂ ◌||◌ (h n (omega arith)) (some_same n s t (λ i l. h i (omega arith)))

some_none : (n : ℕ) → some_below n (λ _. false) ≡ false
some_none zero = refl
some_none (suc n) = some_none n

some_not : (n : ℕ) (t : ℕ → Bool) → some_below n t ≡ false → (i : ℕ) → i < n → t i ≡ false
some_not zero t e i h = absurd (omega arith)
some_not (suc n) t e i h = ⊎_elim
    (λ l. some_not n t (or_parts (t n) (some_below n t) e).1 i l)
    (λ l. let q : i ≡ n = omega arith in ap t q ∙ (or_parts (t n) (some_below n t) e).0)
    (cases_lt i n)

some_swap : (n m : ℕ) (f : ℕ → ℕ → Bool) → some_below n (λ i. some_below m (f i)) ≡ some_below m (λ j. some_below n (λ i. f i j))
some_swap zero m f = sym (some_none m)
some_swap (suc n) m f = ap (λ b. some_below m (f n) || b) (some_swap n m f) ∙ sym (some_or m (f n) (λ j. some_below n (λ i. f i j)))

-- # From either side
pub cost_sym : {P : Type 0} (e : Entries P) (x y i j : ℕ) → (x ≢ y) → cost e x y i j ≡ cost e y x j i
cost_sym e x y i j h = ⊎_elim (λ q. absurd (h q)) (⊎_elim
    (λ l. cond-true (nat_lt x y) _ _ (lt-ltb x y l) ∙ sym (cond-false (nat_lt y x) _ _ (le-ltb y x (omega arith))))
    (λ l. cond-false (nat_lt x y) _ _ (le-ltb x y (omega arith)) ∙ sym (cond-true (nat_lt y x) _ _ (lt-ltb y x l)))) (cases_order x y)

module _ {P : Type 0} (k : Kind P) (g : Model P) where
  pub linked_sym : (u v : ℕ) → (u ≢ v) → linked k g u v ≡ linked k g v u
  linked_sym u v ne = some_swap (g.count u) (g.count v) (priced k g u v)
      ∙ some_same (g.count v) _ _ (λ j _. some_same (g.count u) _ _ (λ i _. ap (λ p. not (k.at_most p k.least)) (cost_sym g.entries u v i j ne)))

  -- without a link every entry within the counts is zero
  pub no_link : (u v i j : ℕ) → linked k g u v ≡ false → i < g.count u → j < g.count v → cost g.entries u v i j ≡ k.least
  no_link u v i j e hi hj = k.laws.no_ties _ _
      (not-false (k.at_most (cost g.entries u v i j) k.least) (some_not (g.count v) _ (some_not (g.count u) _ e i hi) j hj)) (k.laws.least _)

  -- no edge from a variable to itself
  pub edge_self : (u : ℕ) → edge k g u u ≡ false
  edge_self u = ap (λ b. ((mem u g.variables && mem u g.variables) && not b) && linked k g u u) (eq-eqb u u refl)
      ∙ ap (λ b. b && linked k g u u) (and_right (mem u g.variables && mem u g.variables) false refl)

  pub edge_sym : (u v : ℕ) → edge k g u v ≡ edge k g v u
  edge_sym u v = ⊎_elim
      (λ e. let q = eqb-true u v e in ap (λ x. edge k g x v) q ∙ ap (edge k g v) (sym q))
      (λ e. let ne = λ (q : u ≡ v). both_ways (u == v) e (eq-eqb u v q) in
      ap₂ ◌&&◌ (ap₂ (λ a b. a && not b) (both (mem u g.variables) (mem v g.variables)) (e ∙ sym (ne_eqb v u (λ q. ne (sym q))))) (linked_sym u v ne))
      (cases_Bool (u == v))
    where
      both : (a b : Bool) → (a && b) ≡ (b && a)
      both true true = refl
      both true false = refl
      both false true = refl
      both false false = refl

-- # Edges of a graph in memory
-- what is read of the prices is what the model has
pub linked_read : {P : Type 0} (k : Kind P) (g : Graph) (m : List P) (u v : ℕ) → Present g u → Present g v → (u ≢ v) → linked_in k (count_at g) (stored k m) u v ≡ linked k (model_in k g m) u v
linked_read k g m u v pu pv ne =
    some_same (count_at g u) _ _ (λ i hi. some_same (count_at g v) _ _ (λ j hj.
    ap (λ p. not (k.at_most p k.least)) (entry_read k g m u v i j
    (record { variable = pu.variable; present = pu.present; within = hi }) (record { variable = pv.variable; present = pv.present; within = hj }) ne)))
    ∙ ap₂ (λ a b. some_below a (λ i. some_below b (priced k (model_in k g m) u v i)))
    (sym (count_read k g m u pu.variable pu.present)) (sym (count_read k g m v pv.variable pv.present))

module _ {P : Type 0} (k : Kind P) (g : Graph) (m : List P) (u v : ℕ) where
  pub edge_same : u ≡ v → edge k (model_in k g m) u v ≡ false
  edge_same e = ap (λ x. edge k (model_in k g m) u x) (sym e) ∙ edge_self k (model_in k g m) u

  pub edge_off : u < 12 → has g.present u ≡ false → edge k (model_in k g m) u v ≡ false
  edge_off hu e = ap (λ b. ((b && mem v (members g.present)) && not (u == v)) && linked k (model_in k g m) u v) (mem_members g.present u hu ∙ e)

  pub edge_on : Present g u → Present g v → (u ≢ v) → edge k (model_in k g m) u v ≡ linked k (model_in k g m) u v
  edge_on a b ne = ap₂ (λ x y. ((x && y) && not (u == v)) && linked k (model_in k g m) u v)
      (mem_members g.present u a.variable ∙ a.present) (mem_members g.present v b.variable ∙ b.present)
      ∙ ap (λ x. not x && linked k (model_in k g m) u v) (ne_eqb u v ne)

  pub edge_read : Present g u → Present g v → (u ≢ v) → linked_in k (count_at g) (stored k m) u v ≡ edge k (model_in k g m) u v
  edge_read a b ne = linked_read k g m u v a b ne ∙ sym (edge_on a b ne)

pub edge_off_right : {P : Type 0} (k : Kind P) (g : Graph) (m : List P) (u v : ℕ) → v < 12 → has g.present v ≡ false → edge k (model_in k g m) u v ≡ false
edge_off_right k g m u v hv e = edge_sym k (model_in k g m) u v ∙ edge_off k g m v u hv e
