-- The frontier's mask has the variables that the mathematics keeps, and as many ones.
use Rattle.std.specs.Prelude.{◌≡◌, ℕ, zero, suc, ◌+◌, ◌-◌, ◌*◌, ◌^◌, ◌<◌, ◌≤◌, Bool, true, false, cond, ◌&&◌, List, [], ◌∷◌, length, filter, count_ones, nat_le, nat_lt, refl}
use Rattle.std.proofs.Common.{sym, ap₂, ◌∙◌, subst, inl, inr, ⊎_elim, arith}
use Rattle.std.proofs.Math.Path.{ap}
use Rattle.std.specs.List.{AllByRecursion}
use Rattle.std.proofs.ByRecursion.{All-weaker}
use Rattle.std.proofs.lemmas.Bool.{and_from, and_left, and_parts, both_ways, cases_Bool, cases_eq, cases_lt, cond-true, cond-false, le-leb, lt-leb, lt-ltb, ltb-true, or_cases, or_left, or_right}
use Rattle.prices.specs.declared.price.Price.{Ghosts as Kind}
use Rattle.graphs.specs.declared.graph.Graph.{Graph}
use Rattle.graphs.specs.Masks.{has, kept_below, mask_by, members_from, members_below}
use Rattle.graphs.specs.Model.{Model, In}
use Rattle.graphs.specs.Edges.{linked, edge, edges}
use Rattle.graphs.specs.Frontier.{reaches_above, frontier_by, frontier}
use Rattle.graphs.specs.Kept.{reaches, front_at, number_of, Five}
use Rattle.graphs.specs.Stored.{model_in, pick_of}
use Rattle.graphs.specs.Bitwise.{has_by, by_skip, ones_below}
use Rattle.graphs.specs.Linking.{edge_off, edge_on, edge_sym}
use Rattle.graphs.specs.Joining.{has_edges}
use Rattle.graphs.specs.Twelve.{Somewhere, none_past, some_at, some_found}
use Rattle.graphs.specs.Walk.{below_in, below_out, from_in, from_out}

-- # Tests that agree
same_test : (a b : Bool) → (a ≡ true → b ≡ true) → (b ≡ true → a ≡ true) → a ≡ b
same_test true b f g = sym (f refl)
same_test false true f g = g refl
same_test false false f g = refl

-- # Members from v on
pub from_members : (p d v : ℕ) → v + d ≡ 12 → AllByRecursion (λ y. (v ≤ y) × (y < 12) × (has p y ≡ true)) (members_from p v)
from_members p zero v e = let q : v ≡ 12 = omega arith in subst (AllByRecursion _) (sym (none_past (has p) v q)) tt
from_members p (suc d) v e =
    let rest : AllByRecursion (λ y. (v ≤ y) × (y < 12) × (has p y ≡ true)) (members_from p (v + 1)) = All-weaker (λ y. (v + 1 ≤ y) × (y < 12) × (has p y ≡ true)) _ (λ y h. let l : v + 1 ≤ y = h.0 in (omega arith, h.1, h.2)) (members_from p (v + 1)) (from_members p d (v + 1) (omega arith)) in
    ⊎_elim
    (λ b. subst (AllByRecursion _) (sym (from_in p v (omega arith) b)) ((omega arith, omega arith, b), rest))
    (λ b. subst (AllByRecursion _) (sym (from_out p v (omega arith) b)) rest)
    (cases_Bool (has p v))

pub in_from : (p d v y : ℕ) → v + d ≡ 12 → v ≤ y → y < 12 → has p y ≡ true → In y (members_from p v)
in_from p zero v y e h l b = absurd (omega arith)
in_from p (suc d) v y e h l b = ⊎_elim
    (λ q. subst (In y) (sym (from_in p v (omega arith) (ap (has p) (sym q) ∙ b))) (inl q))
    (λ ne. ⊎_elim
    (λ c. subst (In y) (sym (from_in p v (omega arith) c)) (inr (in_from p d (v + 1) y (omega arith) (omega arith) l b)))
    (λ c. subst (In y) (sym (from_out p v (omega arith) c)) (in_from p d (v + 1) y (omega arith) (omega arith) l b))
    (cases_Bool (has p v)))
    (cases_eq y v)

-- # Reaching a later variable
module _ {P : Type 0} (k : Kind P) (g : Model P) (y : ℕ) where
  reaches_found : (zs : List ℕ) (Q : ℕ → Type 0) → AllByRecursion Q zs → reaches k g y zs ≡ true → Somewhere (λ z. Q z × (linked k g y z ≡ true))
  reaches_found [] Q h e = absurd (both_ways false refl e)
  reaches_found (z ∷ zs) Q h e = ⊎_elim (λ l. record { place = z; there = (h.0, l) }) (λ l. reaches_found zs Q h.1 l) (or_cases (linked k g y z) (reaches k g y zs) e)

  reaches_in : (zs : List ℕ) (z : ℕ) → In z zs → linked k g y z ≡ true → reaches k g y zs ≡ true
  reaches_in [] z m e = absurd m
  reaches_in (x ∷ xs) z (inl q) e = or_left (linked k g y x) (reaches k g y xs) (ap (linked k g y) (sym q) ∙ e)
  reaches_in (x ∷ xs) z (inr m) e = or_right (linked k g y x) (reaches k g y xs) (reaches_in xs z m e)

module _ {P : Type 0} (k : Kind P) (g : Graph) (m : List P) (v : ℕ) (hv : v < 12) where
  abbrev md : Model P
  md = model_in k g m

  abbrev later : List ℕ
  later = members_from g.present (v + 1)

  -- a present variable up to v reaches above v exactly where it reaches a later one
  above : (y : ℕ) → y ≤ v → has g.present y ≡ true → reaches_above (edges k md y) v ≡ reaches k md y later
  above y l here = same_test _ _
      (λ e. let r = some_found 12 (λ z. nat_lt v z && has (edges k md y) z) e in
      let z = r.place in
      let up = and_parts (nat_lt v z) (has (edges k md y) z) r.there.1 in
      let high : v < z = ltb-true v z up.0 in
      let hz : z < 12 = r.there.0 in
      let joined : edge k md y z ≡ true = sym (has_edges k md y z hz) ∙ up.1 in
      let there : has g.present z ≡ true = ⊎_elim (λ t. t) (λ f. absurd (both_ways (edge k md y z) (edge_sym k md y z ∙ edge_off k g m z y hz f) joined)) (cases_Bool (has g.present z)) in
      reaches_in k md y later z (in_from g.present (12 - (v + 1)) (v + 1) z (omega arith) (omega arith) hz there)
      (sym (edge_on k g m y z (record { variable = omega arith; present = here }) (record { variable = hz; present = there }) (λ q. omega arith)) ∙ joined))
      (λ e. let r = reaches_found k md y later _ (from_members g.present (12 - (v + 1)) (v + 1) (omega arith)) e in
      let z = r.place in
      let high : v + 1 ≤ z = r.there.0.0 in
      let hz : z < 12 = r.there.0.1 in
      some_at 12 (λ z. nat_lt v z && has (edges k md y) z) z hz
      (and_from (nat_lt v z) _ (lt-ltb v z (omega arith)) (has_edges k md y z hz ∙ edge_on k g m y z (record { variable = omega arith; present = here }) (record { variable = hz; present = r.there.0.2 }) (λ q. omega arith) ∙ r.there.1)))

  -- an absent variable reaches nothing
  nowhere : (y : ℕ) → y < 12 → has g.present y ≡ false → reaches_above (edges k md y) v ≡ false
  nowhere y h off = same_test _ false
      (λ e. let r = some_found 12 (λ z. nat_lt v z && has (edges k md y) z) e in
      let z = r.place in
      let hz : z < 12 = r.there.0 in
      absurd (both_ways (edge k md y z) (edge_off k g m y z h off) (sym (has_edges k md y z hz) ∙ (and_parts (nat_lt v z) (has (edges k md y) z) r.there.1).1)))
      (λ e. absurd (both_ways false refl e))

  abbrev test : ℕ → Bool
  test y = nat_le y v && reaches_above (edges k md y) v

  pub frontier_is : (n : ℕ) → n ≡ 12 → mask_by test n ≡ frontier k md v
  unfolding frontier_by
  frontier_is n e = ap (mask_by test) e

  -- # Bit by bit
  bits : (y : ℕ) → y < v + 1 → test y ≡ (has g.present y && reaches k md y later)
  bits y l = ap (λ b. b && reaches_above (edges k md y) v) (le-leb y v (omega arith)) ∙ ⊎_elim
      (λ t. above y (omega arith) t ∙ sym (ap (λ b. b && reaches k md y later) t))
      (λ f. nowhere y (omega arith) f ∙ sym (ap (λ b. b && reaches k md y later) f))
      (cases_Bool (has g.present y))

  high_bits : (y : ℕ) → v + 1 ≤ y → test y ≡ false
  high_bits y l = and_left (nat_le y v) _ (lt-leb y v (omega arith))

below_same : (s t : ℕ → Bool) (n : ℕ) → ((y : ℕ) → y < n → s y ≡ t y) → kept_below s n ≡ kept_below t n
below_same s t zero h = refl
below_same s t (suc n) h = ap₂ (λ b l. cond b (n ∷ l) l) (h n (omega arith)) (below_same s t n (λ y l. h y (omega arith)))

below_none : (t : ℕ → Bool) (n d : ℕ) → ((y : ℕ) → n ≤ y → t y ≡ false) → kept_below t (d + n) ≡ kept_below t n
below_none t n zero h = ap (kept_below t) (let e : 0 + n ≡ n = omega arith in e)
below_none t n (suc d) h =
    let e : suc d + n ≡ suc (d + n) = omega arith in
    ap (kept_below t) e ∙ cond-false (t (d + n)) _ _ (h (d + n) (omega arith)) ∙ below_none t n d h

below_kept : (s t : ℕ → Bool) (n : ℕ) → kept_below (λ y. s y && t y) n ≡ filter t (kept_below s n)
below_kept s t zero = refl
below_kept s t (suc n) = go (s n) (below_kept s t n)
  where
    go : (b : Bool) → kept_below (λ y. s y && t y) n ≡ filter t (kept_below s n) →
        cond (b && t n) (n ∷ kept_below (λ y. s y && t y) n) (kept_below (λ y. s y && t y) n) ≡ filter t (cond b (n ∷ kept_below s n) (kept_below s n))
    go true e = ap (λ l. cond (t n) (n ∷ l) l) e
    go false e = e

-- the frontier after v, as a mask
module _ {P : Type 0} (k : Kind P) (g : Graph) (m : List P) (v : ℕ) (hv : v < 12) where
  pub front_members : members_below (frontier k (model_in k g m) v) (v + 1) ≡ front_at k g m (v + 1)
  front_members =
      ap (λ x. members_below x (v + 1)) (sym (frontier_is k g m v hv 12 refl))
      ∙ below_same (has (mask_by (test k g m v hv) 12)) (λ y. has g.present y && reaches k (model_in k g m) y (members_from g.present (v + 1))) (v + 1)
      (λ y l. has_by (test k g m v hv) 12 y (omega arith) ∙ bits k g m v hv y l)
      ∙ below_kept (has g.present) (λ y. reaches k (model_in k g m) y (members_from g.present (v + 1))) (v + 1)

  pub front_width : count_ones (frontier k (model_in k g m) v) ≡ length (front_at k g m (v + 1))
  front_width =
      let e : (12 - (v + 1)) + (v + 1) ≡ 12 = omega arith in
      ap count_ones (sym (frontier_is k g m v hv 12 refl)) ∙ ones_below (test k g m v hv) 12
      ∙ ap (λ n. length (kept_below (test k g m v hv) n)) (sym e)
      ∙ ap length (below_none (test k g m v hv) (v + 1) (12 - (v + 1)) (high_bits k g m v hv)
      ∙ below_same (test k g m v hv) (λ y. has g.present y && reaches k (model_in k g m) y (members_from g.present (v + 1))) (v + 1) (bits k g m v hv)
      ∙ below_kept (has g.present) (λ y. reaches k (model_in k g m) y (members_from g.present (v + 1))) (v + 1))

-- # The frontier by an array of edges
by_high : (t : ℕ → Bool) (n d : ℕ) → ((y : ℕ) → n ≤ y → t y ≡ false) → mask_by t n ≡ mask_by t (d + n)
by_high t n zero h = ap (mask_by t) (let e : n ≡ 0 + n = omega arith in e)
by_high t n (suc d) h =
    let e : (d + n) + 1 ≡ suc d + n = omega arith in
    by_high t n d h ∙ by_skip t (d + n) (h (d + n) (omega arith)) ∙ ap (mask_by t) e

pub frontier_by_lem : (e : ℕ → ℕ) (v : ℕ) → v < 12 → mask_by (λ y. nat_le y v && reaches_above (e y) v) (v + 1) ≡ frontier_by e v
unfolding frontier_by
frontier_by_lem e v h =
    let q : (12 - (v + 1)) + (v + 1) ≡ 12 = omega arith in
    by_high (λ y. nat_le y v && reaches_above (e y) v) (v + 1) (12 - (v + 1)) (λ y l. and_left (nat_le y v) _ (lt-leb y v (omega arith)))
    ∙ ap (mask_by (λ y. nat_le y v && reaches_above (e y) v)) q

by_same : (s t : ℕ → Bool) (n : ℕ) → ((y : ℕ) → y < n → s y ≡ t y) → mask_by s n ≡ mask_by t n
by_same s t zero h = refl
by_same s t (suc n) h = ap₂ (λ m b. m + cond b (2 ^ n) 0) (by_same s t n (λ y l. h y (omega arith))) (h n (omega arith))

pub frontier_same : (e f : ℕ → ℕ) (v : ℕ) → ((y : ℕ) → y < 12 → e y ≡ f y) → frontier_by e v ≡ frontier_by f v
unfolding frontier_by
frontier_same e f v h = by_same _ _ 12 (λ y l. ap (λ m. nat_le y v && reaches_above m v) (h y l))

-- # Numbers over a mask
pub five_all : (p v : ℕ) (xs : List ℕ) → Five p v xs → AllByRecursion (λ y. pick_of xs y < 5) (members_below p v)
five_all p zero xs s = tt
five_all p (suc v) xs s = ⊎_elim
    (λ e. subst (AllByRecursion (λ y. pick_of xs y < 5)) (sym (cond-true (has p v) _ _ e)) (s v (omega arith) e, five_all p v xs (λ y l b. s y (omega arith) b)))
    (λ e. subst (AllByRecursion (λ y. pick_of xs y < 5)) (sym (cond-false (has p v) _ _ e)) (five_all p v xs (λ y l b. s y (omega arith) b)))
    (cases_Bool (has p v))

below_more : (p v : ℕ) → length (members_below p v) ≤ length (members_below p (suc v))
below_more p v = ⊎_elim
    (λ e. let q : length (members_below p (suc v)) ≡ suc (length (members_below p v)) = ap length (cond-true (has p v) _ _ e) in omega arith)
    (λ e. let q : length (members_below p (suc v)) ≡ length (members_below p v) = ap length (cond-false (has p v) _ _ e) in omega arith)
    (cases_Bool (has p v))

pub below_shorter : (p u v : ℕ) → u ≤ v → length (members_below p u) ≤ length (members_below p v)
below_shorter p u zero h = let e : u ≡ 0 = omega arith in subst (λ z. length (members_below p z) ≤ 0) (sym e) (omega arith)
below_shorter p u (suc v) h = ⊎_elim
    (λ l. let q = below_shorter p u v (omega arith) in omega (arith, below_more p v))
    (λ l. let e : u ≡ suc v = omega arith in subst (λ z. length (members_below p u) ≤ length (members_below p z)) e (omega arith))
    (cases_lt u (suc v))

pub number_in : (p u : ℕ) (a : ℕ → ℕ) → has p u ≡ true → number_of (members_below p (u + 1)) a ≡ a u + 5 * number_of (members_below p u) a
number_in p u a e = ap (λ l. number_of l a) (below_in p u e)

pub number_out : (p u : ℕ) (a : ℕ → ℕ) → has p u ≡ false → number_of (members_below p (u + 1)) a ≡ number_of (members_below p u) a
number_out p u a e = ap (λ l. number_of l a) (below_out p u e)
