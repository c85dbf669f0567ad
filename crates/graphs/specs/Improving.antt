-- A table over the frontier, one variable further.
use Rattle.std.specs.Prelude.{◌≡◌, ℕ, ◌+◌, ◌*◌, ◌<◌, ◌≤◌, Bool, true, false, cond, ◌⊎◌, List, [], ◌∷◌, length, filter, ◌==◌, ◌≢◌, refl}
use Rattle.std.proofs.Common.{sym, ap, ap₂, ◌∙◌, subst, inl, inr, ⊎_elim, arith}
use Rattle.std.specs.List.{AllByRecursion}
use Rattle.std.proofs.ByRecursion.{All-weaker, all_kept_by, kept_by_passes}
use Rattle.std.proofs.lemmas.Bool.{or_parts, or_right, cases_eq, cond_both, cond-true, cond-false, eq-eqb, ne_eqb}
use Rattle.prices.specs.declared.price.Price.{Ghosts as Kind}
use Rattle.graphs.specs.Model.{Model, In, cost, beside, sum_over, Within, put}
use Rattle.graphs.specs.Edges.{linked}
use Rattle.graphs.specs.Kept.{reaches, front, number_of, Met, Kept}
use Rattle.graphs.specs.Low.{mono_right}
use Rattle.graphs.specs.Lists.{all_in, in_itself, all_zip}
use Rattle.graphs.specs.Linking.{linked_sym, no_link}
use Rattle.graphs.specs.Plain.{put_same, put_other, beside_agree, sum_over_agree}

-- numbers of assignments
pub number_agree : (ys : List ℕ) (a b : ℕ → ℕ) → AllByRecursion (λ y. a y ≡ b y) ys → number_of ys a ≡ number_of ys b
number_agree [] a b h = refl
number_agree (y ∷ ys) a b h = ap₂ (λ m n. m + 5 * n) h.0 (number_agree ys a b h.1)

pub number_same : (ys : List ℕ) (a b : ℕ → ℕ) → AllByRecursion (λ y. a y < 5) ys → AllByRecursion (λ y. b y < 5) ys → number_of ys a ≡ number_of ys b → AllByRecursion (λ y. a y ≡ b y) ys
number_same [] a b h l e = tt
number_same (y ∷ ys) a b h l e =
    let p : a y < 5 = h.0 in let q : b y < 5 = l.0 in
    (omega arith, number_same ys a b h.1 l.1 (omega arith))

pub number_below : (ys : List ℕ) (a : ℕ → ℕ) → length ys ≤ 3 → AllByRecursion (λ y. a y < 5) ys → number_of ys a < 125
number_below [] a n h = omega arith
number_below (x ∷ []) a n h = let p : a x < 5 = h.0 in omega arith
number_below (x ∷ y ∷ []) a n h = let p : a x < 5 = h.0 in let q : a y < 5 = h.1.0 in omega arith
number_below (x ∷ y ∷ z ∷ []) a n h = let p : a x < 5 = h.0 in let q : a y < 5 = h.1.0 in let r : a z < 5 = h.1.1.0 in omega arith
number_below (x ∷ y ∷ z ∷ w ∷ ws) a n h = absurd (omega arith)

pub in_kept : (t : ℕ → Bool) (xs : List ℕ) (x : ℕ) → In x xs → t x ≡ true → In x (filter t xs)
in_kept t [] x m e = absurd m
in_kept t (y ∷ ys) x (inl q) e = subst (In x) (sym (cond-true (t y) (y ∷ filter t ys) (filter t ys) (ap t (sym q) ∙ e))) (inl q)
in_kept t (y ∷ ys) x (inr m) e = cond_both (t y) (y ∷ filter t ys) (filter t ys) (In x) (λ _. inr (in_kept t ys x m e)) (λ _. in_kept t ys x m e)

kept_in : (t : ℕ → Bool) (xs : List ℕ) (y : ℕ) → In y (filter t xs) → In y xs × (t y ≡ true)
kept_in t xs y m = (all_in (λ x. In x xs) (filter t xs) y (all_kept_by t _ xs (in_itself xs)) m, all_in (λ x. t x ≡ true) (filter t xs) y (kept_by_passes t xs) m)

all_from_in : (Q : ℕ → Type 0) (xs : List ℕ) → ((y : ℕ) → In y xs → Q y) → AllByRecursion Q xs
all_from_in Q xs h = All-weaker (λ y. In y xs) Q h xs (in_itself xs)

-- the entry improved
abbrev pub at_place : {X : Type 0} → (ℕ → X) → ℕ → X → ℕ → X
at_place f c x y = cond (y == c) x (f y)

pub at_same : {X : Type 0} (f : ℕ → X) (c : ℕ) (x : X) → at_place f c x c ≡ x
at_same f c x = cond-true (c == c) x (f c) (eq-eqb c c refl)

pub at_other : {X : Type 0} (f : ℕ → X) (c : ℕ) (x : X) (y : ℕ) → (y ≢ c) → at_place f c x y ≡ f y
at_other f c x y h = cond-false (y == c) x (f y) (ne_eqb y c h)

module _ {P : Type 0} (k : Kind P) (g : Model P) where
  beside_drop : (x : ℕ) (ys : List ℕ) (i : ℕ) (a : ℕ → ℕ) (q : ℕ → Bool) → AllByRecursion (λ y. (q y ≡ false → cost g.entries x y i (a y) ≡ k.least)) ys →
      beside k g.entries x ys i a ≡ beside k g.entries x (filter q ys) i a
  beside_drop x [] i a q h = refl
  beside_drop x (y ∷ ys) i a q h = cond_both (q y) (y ∷ filter q ys) (filter q ys) (λ l. beside k g.entries x (y ∷ ys) i a ≡ beside k g.entries x l i a)
      (λ e. ap (k.sum (cost g.entries x y i (a y))) (beside_drop x ys i a q h.1))
      (λ e. ap₂ k.sum (h.0 e) (beside_drop x ys i a q h.1) ∙ k.laws.zero_sum _)

  -- only the frontier has entries with x
  beside_front : (x : ℕ) (xs done : List ℕ) (i : ℕ) (a : ℕ → ℕ) → AllByRecursion (λ y. (y ≢ x)) done → i < g.count x → Within g.count done a →
      beside k g.entries x done i a ≡ beside k g.entries x (front k g done (x ∷ xs)) i a
  beside_front x xs done i a new hx h = beside_drop x done i a (λ y. reaches k g y (x ∷ xs))
      (all_zip (λ y. (y ≢ x)) (λ y. a y < g.count y) _ (λ y ne l e. no_link k g x y i (a y) (linked_sym k g x y (λ q. ne (sym q)) ∙ (or_parts (linked k g y x) (reaches k g y xs) e).0) hx l) done new h)

  -- an improved table
  module _ (done later : List ℕ) (t : ℕ → P) (l : ℕ → ℕ → ℕ) (Q : (ℕ → ℕ) → Type 0) (c : ℕ) (q : P) (a : ℕ → ℕ) where
    pub improved : Kept k g done later t l Q → k.at_most (t c) q ≡ false → Met k g done later q c a →
        Kept k g done later (at_place t c q) (at_place l c a) (λ b. Q b ⊎ ((number_of (front k g done later) b ≡ c) × (k.at_most q (sum_over k g.entries done b) ≡ true)))
    improved h d m = record {
      met = λ e be. ⊎_elim
          (λ same. inr (subst (λ z. Met k g done later (at_place t c q z) z (at_place l c a z)) (sym same)
          (subst (λ v. Met k g done later v c (at_place l c a c)) (sym (at_same t c q)) (subst (λ v. Met k g done later q c v) (sym (at_same l c a)) m))))
          (λ ne. subst (λ v. (v ≡ k.greatest) ⊎ Met k g done later v e (at_place l c a e)) (sym (at_other t c q e ne))
          (subst (λ v. (t e ≡ k.greatest) ⊎ Met k g done later (t e) e v) (sym (at_other l c a e ne)) (h.met e be)))
          (cases_eq e c);
      covers = λ b v r. ⊎_elim
          (λ same. subst (λ z. k.at_most z (sum_over k g.entries done b) ≡ true) (sym (ap (at_place t c q) same ∙ at_same t c q))
          (⊎_elim (λ in-q. k.laws.chain _ _ _ (k.laws.total _ _ d) (subst (λ z. k.at_most (t z) (sum_over k g.entries done b) ≡ true) same (h.covers b v in-q))) (λ w. w.1) r))
          (λ ne. subst (λ z. k.at_most z (sum_over k g.entries done b) ≡ true) (sym (at_other t c q _ ne))
          (⊎_elim (λ in-q. h.covers b v in-q) (λ w. absurd (ne w.0)) r))
          (cases_eq (number_of (front k g done later) b) c);
    }

    pub stood : Kept k g done later t l Q → k.at_most (t c) q ≡ true →
        Kept k g done later t l (λ b. Q b ⊎ ((number_of (front k g done later) b ≡ c) × (k.at_most q (sum_over k g.entries done b) ≡ true)))
    stood h d = record {
      met = h.met;
      covers = λ b v r. ⊎_elim (λ in-q. h.covers b v in-q)
          (λ w. k.laws.chain _ _ _ (subst (λ z. k.at_most (t z) q ≡ true) (sym w.0) d) w.1) r;
    }

  pub fewer : (done later : List ℕ) (t : ℕ → P) (l : ℕ → ℕ → ℕ) (Q R : (ℕ → ℕ) → Type 0) → ((b : ℕ → ℕ) → Within g.count done b → R b → Q b) →
      Kept k g done later t l Q → Kept k g done later t l R
  fewer done later t l Q R f h = record { met = h.met; covers = λ b v r. h.covers b v (f b v r) }

  -- the variable x at choice i beside the assignment a that is kept at j
  module _ (x : ℕ) (xs done : List ℕ) (t : ℕ → P) (l : ℕ → ℕ → ℕ) (small : (y : ℕ) → g.count y ≤ 5) (new : AllByRecursion (λ y. (y ≢ x)) done)
      (old : Kept k g done (x ∷ xs) t l (λ _. Unit {0})) (j i : ℕ) (m : Met k g done (x ∷ xs) (t j) j (l j)) (hi : i < g.count x) where
    fives : (a : ℕ → ℕ) (ys : List ℕ) → Within g.count ys a → AllByRecursion (λ y. a y < 5) ys
    fives a ys h = All-weaker (λ y. a y < g.count y) _ (λ y b. omega (arith, small y)) ys h

    -- one that agrees with a on the frontier costs no less, and has the same number after
    pub follows : (b : ℕ → ℕ) → Within g.count (x ∷ done) b → number_of (front k g done (x ∷ xs)) b ≡ j → b x ≡ i →
        (number_of (front k g (x ∷ done) xs) b ≡ number_of (front k g (x ∷ done) xs) (put (l j) x i)) × (k.at_most (k.sum (beside k g.entries x done i (l j)) (t j)) (sum_over k g.entries (x ∷ done) b) ≡ true)
    follows b v e bi =
        let a = l j in
        let fr = front k g done (x ∷ xs) in
        let on : AllByRecursion (λ y. a y ≡ b y) fr = number_same fr a b (fives a fr (all_kept_by _ (λ y. a y < g.count y) done m.valid)) (fives b fr (all_kept_by _ (λ y. b y < g.count y) done v.1)) (m.place ∙ sym e) in
        let next = front k g (x ∷ done) xs in
        let same : AllByRecursion (λ y. b y ≡ put a x i y) next = all_from_in _ next (λ y my. let r = kept_in (λ z. reaches k g z xs) (x ∷ done) y my in ⊎_elim
        (λ q. ap b q ∙ bi ∙ sym (ap (put a x i) q ∙ put_same a x i))
        (λ ne. ⊎_elim (λ q. absurd (ne q))
        (λ my'. sym (put_other a x i y ne ∙ all_in (λ z. a z ≡ b z) fr y on (in_kept (λ z. reaches k g z (x ∷ xs)) done y my' (or_right (linked k g y x) (reaches k g y xs) r.1))))
        r.0)
        (cases_eq y x)) in
        let stars : beside k g.entries x done i a ≡ beside k g.entries x done (b x) b =
        beside_front x xs done i a new hi m.valid ∙ beside_agree k g.entries x fr i a b on ∙ ap (λ n. beside k g.entries x fr n b) (sym bi) ∙ sym (beside_front x xs done (b x) b new v.0 v.1) in (
          number_agree next b (put a x i) same,
          subst (λ z. k.at_most (k.sum z (t j)) (sum_over k g.entries (x ∷ done) b) ≡ true) (sym stars)
              (mono_right k _ _ _ (subst (λ z. k.at_most (t z) (sum_over k g.entries done b) ≡ true) e (old.covers b v.1 tt))),
        )

    pub extended : Met k g (x ∷ done) xs (k.sum (beside k g.entries x done i (l j)) (t j)) (number_of (front k g (x ∷ done) xs) (put (l j) x i)) (put (l j) x i)
    extended =
        let a = l j in
        let off : AllByRecursion (λ y. put a x i y ≡ a y) done = All-weaker (λ y. (y ≢ x)) _ (λ y n. put_other a x i y n) done new in
        record {
          valid = (subst (λ n. n < g.count x) (sym (put_same a x i)) hi, all_zip (λ y. put a x i y ≡ a y) (λ y. a y < g.count y) _ (λ y q b. subst (λ n. n < g.count y) (sym q) b) done off m.valid);
          sum = sym (ap₂ k.sum (ap (λ n. beside k g.entries x done n (put a x i)) (put_same a x i) ∙ beside_agree k g.entries x done i _ a off) (sum_over_agree k g.entries done _ a off ∙ sym m.sum));
          place = refl;
        }

  -- nothing is kept at j: whatever belongs there is top
  pub nothing : (x : ℕ) (xs done : List ℕ) (t : ℕ → P) (l : ℕ → ℕ → ℕ) → Kept k g done (x ∷ xs) t l (λ _. Unit {0}) → (j : ℕ) → t j ≡ k.greatest →
      (b : ℕ → ℕ) → Within g.count (x ∷ done) b → number_of (front k g done (x ∷ xs)) b ≡ j → (p : P) → k.at_most p (sum_over k g.entries (x ∷ done) b) ≡ true
  nothing x xs done t l old j e b v q p =
      let low : k.at_most k.greatest (sum_over k g.entries done b) ≡ true = subst (λ z. k.at_most z (sum_over k g.entries done b) ≡ true) (ap t q ∙ e) (old.covers b v.1 tt) in
      let is : sum_over k g.entries done b ≡ k.greatest = k.laws.no_ties _ _ (k.laws.greatest _) low in
      subst (λ z. k.at_most p z ≡ true) (sym (ap (k.sum (beside k g.entries x done (b x) b)) is ∙ k.laws.comm _ _ ∙ k.laws.top_sum _)) (k.laws.greatest p)
