-- The end of the sweep, and what it answers.
use Rattle.std.specs.Prelude.{◌≡◌, ℕ, zero, suc, ◌+◌, ◌<◌, ◌≤◌, true, false, cond, ◌&&◌, ltb, ◌⊎◌, List, [], ◌∷◌, ◌++◌, take, length, filter, count_ones, nat_lt, slice_index, refl}
use Rattle.std.proofs.Common.{sym, ap, ap₂, ◌∙◌, subst, inl, inr, ⊎_elim, append-nil, arith, length-take}
use Rattle.std.proofs.Math.Seq.{take-append_seam}
use Rattle.std.specs.List.{AllByRecursion}
use Rattle.std.proofs.ByRecursion.{All-weaker}
use Rattle.std.proofs.lemmas.Bool.{both_ways, cond-true, cond-false, cases_lt, cases_Bool, lt-ltb, le-ltb, ltb-false}
use Rattle.prices.specs.declared.price.Price.{Ghosts as Kind}
use Rattle.graphs.specs.declared.graph.Graph.{Graph}
use Rattle.graphs.specs.Masks.{has, members, members_from, members_below}
use Rattle.graphs.specs.Model.{In, sum_over, total, Within, Lowest, lowest}
use Rattle.graphs.specs.Frontier.{frontier}
use Rattle.graphs.specs.Kept.{front, number_of, Kept, front_at, KeptAt, Every, Narrow, Swept}
use Rattle.graphs.specs.Outcome.{Chosen}
use Rattle.graphs.specs.Stored.{model_in, pick_of}
use Rattle.graphs.specs.Lists.{all_in, in_itself}
use Rattle.graphs.specs.Plain.{lowest_met, lowest_one, pick, sum_over_agree}
use Rattle.graphs.specs.Walk.{below_in, below_out, from_in, from_out}
use Rattle.graphs.specs.Bounded.{onto, all_onto, sums_onto}
use Rattle.graphs.specs.Reading.{mem_members, proper}
use Rattle.graphs.specs.Fronts.{front_width, from_members, in_from}
use Rattle.graphs.specs.Twelve.{none_past}

none_front : (xs : List ℕ) → filter (λ _. false) xs ≡ []
none_front [] = refl
none_front (x ∷ xs) = none_front xs

module _ {P : Type 0} (k : Kind P) (g : Graph) (pr : List P) where
  pub ended : (v : ℕ) (t : ℕ → P) (l : ℕ → ℕ → ℕ) → v ≡ 12 → KeptAt k g pr v t l Every → Swept k g pr (t 0) (l 0)
  ended v t l e h =
      let empty : front_at k g pr v ≡ [] = ap (front k (model_in k g pr) (members_below g.present v)) (none_past (has g.present) v e) ∙ none_front (members_below g.present v) in
      record {
        met = subst (λ n. (t 0 ≡ k.greatest) ⊎ (Within (model_in k g pr).count (members_below g.present n) (l 0) × (t 0 ≡ sum_over k (model_in k g pr).entries (members_below g.present n) (l 0)))) e
            (⊎_elim (λ q. inl q) (λ m. inr (m.valid, m.sum)) (h.met 0 (omega arith)));
        covers = subst (λ n. (b : ℕ → ℕ) → Within (model_in k g pr).count (members_below g.present n) b → k.at_most (t 0) (sum_over k (model_in k g pr).entries (members_below g.present n) b) ≡ true) e
            (λ b ok. subst (λ f. k.at_most (t (number_of f b)) (sum_over k (model_in k g pr).entries (members_below g.present v) b) ≡ true) empty (h.covers b ok tt));
      }

  -- an absent variable changes nothing
  pub skip_kept : (v : ℕ) (t : ℕ → P) (l : ℕ → ℕ → ℕ) → v < 12 → has g.present v ≡ false → KeptAt k g pr v t l Every → KeptAt k g pr (v + 1) t l Every
  skip_kept v t l h e q = subst (λ d. Kept k (model_in k g pr) d (members_from g.present (v + 1)) t l Every) (sym (below_out g.present v e))
      (subst (λ z. Kept k (model_in k g pr) (members_below g.present v) z t l Every) (from_out g.present v h e) q)

  pub skip_front : (v : ℕ) → v < 12 → has g.present v ≡ false → front_at k g pr (v + 1) ≡ front_at k g pr v
  skip_front v h e = sym (ap₂ (front k (model_in k g pr)) (sym (below_out g.present v e)) (from_out g.present v h e))

  pub narrow_front : Narrow k (model_in k g pr) → (v : ℕ) → v < 12 → has g.present v ≡ true → length (front_at k g pr (v + 1)) ≤ 3
  narrow_front h v l e =
      let width = count_ones (frontier k (model_in k g pr) v) in
      let slim : ltb 3 width ≡ false = sym (ap (λ b. b && nat_lt 3 width) (mem_members g.present v l ∙ e)) ∙ h v l in
      omega (arith, ltb-false 3 width slim, front_width k g pr v l)

-- the list of the variables, and the same descending
onto_below : (p d v : ℕ) → v + d ≡ 12 → onto (members_from p v) (members_below p v) ≡ members_below p 12
onto_below p zero v e = let q : v ≡ 12 = omega arith in ap (λ l. onto l (members_below p v)) (none_past (has p) v q) ∙ ap (members_below p) q
onto_below p (suc d) v e = ⊎_elim
    (λ b. ap (λ l. onto l (members_below p v)) (from_in p v (omega arith) b) ∙ ap (onto (members_from p (v + 1))) (sym (below_in p v b)) ∙ onto_below p d (v + 1) (omega arith))
    (λ b. ap₂ onto (from_out p v (omega arith) b) (sym (below_out p v b)) ∙ onto_below p d (v + 1) (omega arith))
    (cases_Bool (has p v))

onto_all : (Q : ℕ → Type 0) (xs ys : List ℕ) → AllByRecursion Q xs → AllByRecursion Q ys → AllByRecursion Q (onto xs ys)
onto_all Q [] ys h l = l
onto_all Q (x ∷ xs) ys h l = onto_all Q xs (x ∷ ys) h.1 (h.0, l)

module _ {P : Type 0} (k : Kind P) (g : Graph) (pr : List P) where
  whole : onto (members g.present) [] ≡ members_below g.present 12
  whole = onto_below g.present 12 0 refl

  pub sum_below : (b : ℕ → ℕ) → sum_over k (model_in k g pr).entries (members_below g.present 12) b ≡ total k (model_in k g pr) b
  sum_below b = ap (λ l. sum_over k (model_in k g pr).entries l b) (sym whole)
      ∙ sums_onto k (model_in k g pr).entries (members g.present) [] b (proper k g pr).ascending ∙ ap (λ l. sum_over k (model_in k g pr).entries l b) (append-nil (members g.present))

module _ {P : Type 0} (k : Kind P) (g : Graph) (pr : List P) (p : P) (a : ℕ → ℕ) (s : Swept k g pr p a) where
  down : (b : ℕ → ℕ) → Within (model_in k g pr).count (members g.present) b → Within (model_in k g pr).count (members_below g.present 12) b
  down b h = subst (λ l. Within (model_in k g pr).count l b) (whole k g pr) (onto_all (λ y. b y < (model_in k g pr).count y) (members g.present) [] h tt)

  up : (b : ℕ → ℕ) → Within (model_in k g pr).count (members_below g.present 12) b → Within (model_in k g pr).count (members g.present) b
  up b h = (all_onto (λ y. b y < (model_in k g pr).count y) (members g.present) [] (subst (λ l. Within (model_in k g pr).count l b) (sym (whole k g pr)) h)).0

  least : (b : ℕ → ℕ) → Within (model_in k g pr).count (members g.present) b → k.at_most p (total k (model_in k g pr) b) ≡ true
  least b h = subst (λ z. k.at_most p z ≡ true) (sum_below k g pr b) (s.covers b (down b h))

  found : (p ≡ k.greatest) ⊎ Lowest k (model_in k g pr) p a
  found = ⊎_elim (λ e. inl e) (λ m. inr (record { valid = up a m.0; meets = sym (sum_below k g pr a) ∙ sym m.1; least = least })) s.met

  pub swept_lowest : p ≡ lowest k (model_in k g pr)
  swept_lowest = let f = lowest_met k (model_in k g pr) (proper k g pr) in ⊎_elim
      (λ e. k.laws.no_ties _ _ (subst (λ z. k.at_most p z ≡ true) f.meets (least (pick k (model_in k g pr)) f.valid)) (subst (λ z. k.at_most (lowest k (model_in k g pr)) z ≡ true) (sym e) (k.laws.greatest _)))
      (λ h. lowest_one k (model_in k g pr) _ _ _ _ h f)
      found

  pub swept_found : k.at_most k.greatest p ≡ false → Lowest k (model_in k g pr) p a
  swept_found d = ⊎_elim (λ e. absurd (both_ways (k.at_most k.greatest p) d (subst (λ z. k.at_most k.greatest z ≡ true) (sym e) (k.laws.greatest _)))) (λ h. h) found

-- the picks taken over
module _ {P : Type 0} (k : Kind P) (g : Graph) (pr : List P) (p : P) (xs chosen after : List ℕ) (h : Lowest k (model_in k g pr) p (pick_of chosen))
    (w : (y : ℕ) → slice_index after y ≡ cond (nat_lt y 12) (cond (has g.present y) (slice_index chosen y) (slice_index xs y)) (slice_index xs y)) where
  on : AllByRecursion (λ y. pick_of after y ≡ pick_of chosen y) (members g.present)
  on = All-weaker (λ y. (0 ≤ y) × (y < 12) × (has g.present y ≡ true)) _
      (λ y q. w y ∙ cond-true (nat_lt y 12) _ _ (lt-ltb y 12 q.1) ∙ cond-true (has g.present y) _ _ q.2) (members g.present) (from_members g.present 12 0 refl)

  pub assigned : Chosen k (model_in k g pr) p xs after
  assigned = record {
    best = record {
      valid = All-weaker (λ y. In y (members g.present)) _ (λ y m. subst (λ z. z < (model_in k g pr).count y) (sym (all_in (λ z. pick_of after z ≡ pick_of chosen z) (members g.present) y on m)) (all_in (λ z. pick_of chosen z < (model_in k g pr).count z) (members g.present) y h.valid m)) (members g.present) (in_itself (members g.present));
      meets = sum_over_agree k (model_in k g pr).entries (members g.present) (pick_of after) (pick_of chosen) on ∙ h.meets;
      least = h.least;
    };
    others = λ y out. w y ∙ ⊎_elim
        (λ l. cond-true (nat_lt y 12) _ _ (lt-ltb y 12 l) ∙ ⊎_elim (λ e. absurd (out (in_from g.present 12 0 y refl (omega arith) l e))) (λ e. cond-false (has g.present y) _ _ e) (cases_Bool (has g.present y)))
        (λ l. cond-false (nat_lt y 12) _ _ (le-ltb y 12 l))
        (cases_lt y 12);
  }

-- the graph's prices stand whatever lies past them
pub front_stands : {P : Type 0} (m front rest : List P) → front ≡ take 1710 m → 1710 ≤ length m → take 1710 (front ++ rest) ≡ take 1710 m
front_stands m front rest e h =
    let long : length front ≡ 1710 = ap length e ∙ simp length-take (omega (arith, h)) in
    ap (λ n. take n (front ++ rest)) (sym long) ∙ take-append_seam front rest ∙ e
