-- One turn of the sweep.
use Rattle.std.specs.Prelude.{◌≡◌, ℕ, zero, suc, ◌+◌, ◌<◌, ◌≤◌, true, false, cond, ◌⊎◌, List, [], ◌∷◌, length, replicate, ◌≢◌, slice_set, refl}
use Rattle.std.proofs.Common.{sym, ap, ap₂, ◌∙◌, subst, inl, inr, ⊎_elim, arith, get_or-set_same, get_or-set_other}
use Rattle.std.proofs.Math.Path.{fun_ext}
use Rattle.std.specs.List.{AllByRecursion}
use Rattle.std.proofs.ByRecursion.{All-weaker, all_kept_by}
use Rattle.std.proofs.lemmas.Bool.{both_ways, cond-true, cond-false, cond_both, cases_eq, cases_lt, cases_Bool}
use Rattle.prices.specs.declared.price.Price.{Ghosts as Kind}
use Rattle.graphs.specs.declared.graph.Graph.{Graph}
use Rattle.graphs.specs.Masks.{has, members_from, members_below}
use Rattle.graphs.specs.Model.{Model, In, beside, sum_over, Within, put}
use Rattle.graphs.specs.Stored.{model_in, pick_of}
use Rattle.graphs.specs.Taken.{Taken}
use Rattle.graphs.specs.Kept.{reaches, front, number_of, Met, Kept, prices_in, picks_in, front_at, KeptAt, Next, Before, Below, Every, Five}
use Rattle.graphs.specs.Lists.{all_in}
use Rattle.graphs.specs.Walk.{below_in, from_in}
use Rattle.graphs.specs.Reading.{count_few, count_read}
use Rattle.graphs.specs.Improving.{at_place, at_same, at_other, improved, stood, fewer, follows, extended, nothing, number_below}

-- # Writes to a table
pub prices_set : {P : Type 0} (k : Kind P) (t : List P) (c : ℕ) (q : P) → c < length t → prices_in k (slice_set t c q) ≡ at_place (prices_in k t) c q
prices_set k t c q h = fun_ext (λ y. ⊎_elim
    (λ e. ap (prices_in k (slice_set t c q)) e ∙ get_or-set_same t c q k.greatest h ∙ sym (ap (at_place (prices_in k t) c q) e ∙ at_same (prices_in k t) c q))
    (λ ne. get_or-set_other t c y q k.greatest ne ∙ sym (at_other (prices_in k t) c q y ne))
    (cases_eq y c))

pub picks_set : (l : List (List ℕ)) (c : ℕ) (xs : List ℕ) → c < length l → picks_in (slice_set l c xs) ≡ at_place (picks_in l) c (pick_of xs)
picks_set l c xs h = fun_ext (λ y. ⊎_elim
    (λ e. ap (picks_in (slice_set l c xs)) e ∙ ap pick_of (get_or-set_same l c xs [] h) ∙ sym (ap (at_place (picks_in l) c (pick_of xs)) e ∙ at_same (picks_in l) c (pick_of xs)))
    (λ ne. ap pick_of (get_or-set_other l c y xs [] ne) ∙ sym (at_other (picks_in l) c (pick_of xs) y ne))
    (cases_eq y c))

-- a table of one price throughout
pub all_at : {P : Type 0} (k : Kind P) (p : P) (n c : ℕ) → p ≡ k.greatest → prices_in k (replicate n p) c ≡ k.greatest
all_at k p zero c h = refl
all_at k p (suc n) zero h = h
all_at k p (suc n) (suc c) h = all_at k p n c h

-- # Members
pub in_below : (p v y : ℕ) → y < v → has p y ≡ true → In y (members_below p v)
in_below p zero y h e = absurd (omega arith)
in_below p (suc v) y h e = ⊎_elim
    (λ l. cond_both (has p v) (v ∷ members_below p v) (members_below p v) (In y) (λ _. inr (in_below p v y l e)) (λ _. in_below p v y l e))
    (λ l. let q : y ≡ v = omega arith in subst (In y) (sym (cond-true (has p v) (v ∷ members_below p v) (members_below p v) (ap (has p) (sym q) ∙ e))) (inl q))
    (cases_lt y v)

pub all_small : (p v : ℕ) (xs : List ℕ) → AllByRecursion (λ y. pick_of xs y < 5) (members_below p v) → Five p v xs
all_small p v xs h y l e = all_in (λ z. pick_of xs z < 5) (members_below p v) y h (in_below p v y l e)

below_apart : (p v x : ℕ) → v ≤ x → AllByRecursion (λ y. (y ≢ x)) (members_below p v)
below_apart p zero x h = tt
below_apart p (suc v) x h = cond_both (has p v) (v ∷ members_below p v) (members_below p v) (AllByRecursion (λ y. (y ≢ x))) (λ _. ((λ e. omega arith), below_apart p v x (omega arith))) (λ _. below_apart p v x (omega arith))

module _ {P : Type 0} (k : Kind P) (g : Graph) (pr : List P) (v fr : ℕ) (n : Next k g pr v fr) (t : ℕ → P) (l : ℕ → ℕ → ℕ) (before : KeptAt k g pr v t l Every) where
  abbrev xs : List ℕ
  xs = members_from g.present (v + 1)

  abbrev done : List ℕ
  done = members_below g.present v

  abbrev md : Model P
  md = model_in k g pr

  is_done : members_below g.present (v + 1) ≡ v ∷ done
  is_done = below_in g.present v n.present

  is_later : members_from g.present v ≡ v ∷ xs
  is_later = from_in g.present v n.variable n.present

  is_front : front_at k g pr v ≡ front k md done (v ∷ xs)
  is_front = ap (front k md done) is_later

  is_next : front_at k g pr (v + 1) ≡ front k md (v ∷ done) xs
  is_next = ap (λ d. front k md d xs) is_done

  old : Kept k md done (v ∷ xs) t l Every
  old = subst (λ z. Kept k md done z t l Every) is_later before

  there : (t2 : ℕ → P) (l2 : ℕ → ℕ → ℕ) (Q : (ℕ → ℕ) → Type 0) → KeptAt k g pr (v + 1) t2 l2 Q → Kept k md (v ∷ done) xs t2 l2 Q
  there t2 l2 Q h = subst (λ d. Kept k md d xs t2 l2 Q) is_done h

  back : (t2 : ℕ → P) (l2 : ℕ → ℕ → ℕ) (Q : (ℕ → ℕ) → Type 0) → Kept k md (v ∷ done) xs t2 l2 Q → KeptAt k g pr (v + 1) t2 l2 Q
  back t2 l2 Q h = subst (λ d. Kept k md d xs t2 l2 Q) (sym is_done) h

  pub turn_ends : (j i : ℕ) (t2 : ℕ → P) (l2 : ℕ → ℕ → ℕ) → i ≡ (model_in k g pr).count v → KeptAt k g pr (v + 1) t2 l2 (Before k g pr v j i) → KeptAt k g pr (v + 1) t2 l2 (Below k g pr v (j + 1))
  turn_ends j i t2 l2 e h = back t2 l2 _ (fewer k md (v ∷ done) xs t2 l2 (Before k g pr v j i) (Below k g pr v (j + 1))
      (λ b ok r. ⊎_elim (λ lt. inl lt) (λ ge. let z : b v < (model_in k g pr).count v = ok.0 in inr (omega arith, omega arith)) (cases_lt (number_of (front_at k g pr v) b) j))
      (there t2 l2 _ h))

  pub turn_skips : (j : ℕ) (t2 : ℕ → P) (l2 : ℕ → ℕ → ℕ) → t j ≡ k.greatest → KeptAt k g pr (v + 1) t2 l2 (Below k g pr v j) → KeptAt k g pr (v + 1) t2 l2 (Below k g pr v (j + 1))
  turn_skips j t2 l2 e h =
      let hh = there t2 l2 _ h in
      back t2 l2 _ (record {
        met = hh.met;
        covers = λ b ok r. ⊎_elim (λ lt. hh.covers b ok lt)
            (λ ge. let q : number_of (front_at k g pr v) b ≡ j = omega arith in nothing k md v xs done t l old j e b ok (ap (λ f. number_of f b) (sym is_front) ∙ q) (t2 (number_of (front k md (v ∷ done) xs) b)))
            (cases_lt (number_of (front_at k g pr v) b) j);
      })

  module _ (j i : ℕ) (hj : j < 125) (used : k.at_most k.greatest (t j) ≡ false) (hi : i < (model_in k g pr).count v) where
    pub kept_there : Met k md done (v ∷ xs) (t j) j (l j)
    kept_there = ⊎_elim (λ e. absurd (both_ways (k.at_most k.greatest (t j)) used (ap (k.at_most k.greatest) e ∙ top_top))) (λ m. m) (old.met j hj)
      where
        top_top : k.at_most k.greatest k.greatest ≡ true
        top_top = k.laws.greatest k.greatest

    pub picks_taken : (xs2 : List ℕ) → pick_of xs2 ≡ l j → Taken g v xs2
    picks_taken xs2 e y b here = subst (λ c. pick_of xs2 y < c) (count_read k g pr y (omega (arith, n.variable)) here)
        (subst (λ a. a y < md.count y) (sym e) (all_in (λ z. l j z < md.count z) done y kept_there.valid (in_below g.present v y b here)))

    ext : Met k md (v ∷ done) xs (k.sum (beside k md.entries v done i (l j)) (t j)) (number_of (front k md (v ∷ done) xs) (put (l j) v i)) (put (l j) v i)
    ext = extended k md v xs done t l (count_few k g pr) (below_apart g.present v v (omega arith)) old j i kept_there hi

    pub set_small : (xs2 : List ℕ) → pick_of xs2 ≡ put (l j) v i → Five fr (v + 1) xs2
    set_small xs2 e = all_small fr (v + 1) xs2 (subst (λ f. AllByRecursion (λ y. pick_of xs2 y < 5) f) (sym (n.members ∙ is_next)) (subst (λ a. AllByRecursion (λ y. a y < 5) (front k md (v ∷ done) xs)) (sym e)
        (all_kept_by (λ y. reaches k md y xs) (λ y. put (l j) v i y < 5) (v ∷ done) (All-weaker (λ y. put (l j) v i y < (model_in k g pr).count y) (λ y. put (l j) v i y < 5) (λ y b. omega (arith, count_few k g pr y)) (v ∷ done) ext.valid))))

    pub turn_more : (t2 : ℕ → P) (l2 : ℕ → ℕ → ℕ) → KeptAt k g pr (v + 1) t2 l2 (Before k g pr v j i) →
        (q : P) → q ≡ k.sum (beside k md.entries v done i (l j)) (t j) → (a : ℕ → ℕ) → a ≡ put (l j) v i → (c : ℕ) → c ≡ number_of (members_below fr (v + 1)) a → (t3 : ℕ → P) (l3 : ℕ → ℕ → ℕ) →
        ((k.at_most (t2 c) q ≡ true) × (t3 ≡ t2) × (l3 ≡ l2)) ⊎ ((k.at_most (t2 c) q ≡ false) × (t3 ≡ at_place t2 c q) × (l3 ≡ at_place l2 c a)) →
        KeptAt k g pr (v + 1) t3 l3 (Before k g pr v j (i + 1))
    turn_more t2 l2 h q eq a ea c ec t3 l3 way =
        let nf = front k md (v ∷ done) xs in
        let at : c ≡ number_of nf (put (l j) v i) = ec ∙ ap₂ number_of (n.members ∙ is_next) ea in
        let hh = there t2 l2 _ h in
        let met : Met k md (v ∷ done) xs q c a = subst (λ z. Met k md (v ∷ done) xs z c a) (sym eq) (subst (λ z. Met k md (v ∷ done) xs (k.sum (beside k md.entries v done i (l j)) (t j)) z a) (sym at) (subst (λ z. Met k md (v ∷ done) xs (k.sum (beside k md.entries v done i (l j)) (t j)) (number_of nf (put (l j) v i)) z) (sym ea) ext)) in
        let more : (b : ℕ → ℕ) → Within (model_in k g pr).count (v ∷ done) b → Before k g pr v j (i + 1) b → Before k g pr v j i b ⊎ ((number_of nf b ≡ c) × (k.at_most q (sum_over k md.entries (v ∷ done) b) ≡ true)) =
        λ b ok r. ⊎_elim (λ lt. inl (inl lt))
        (λ w. ⊎_elim (λ lt. inl (inr (w.0, lt)))
        (λ ge. let bi : b v ≡ i = let z : b v < i + 1 = w.1 in omega arith in
        let f = follows k md v xs done t l (count_few k g pr) (below_apart g.present v v (omega arith)) old j i kept_there hi b ok (ap (λ f. number_of f b) (sym is_front) ∙ w.0) bi in
        inr (f.0 ∙ sym at, subst (λ z. k.at_most z (sum_over k md.entries (v ∷ done) b) ≡ true) (sym eq) f.1))
        (cases_lt (b v) i)) r in
        ⊎_elim
        (λ w. subst (λ z. KeptAt k g pr (v + 1) z l3 (Before k g pr v j (i + 1))) (sym w.1) (subst (λ z. KeptAt k g pr (v + 1) t2 z (Before k g pr v j (i + 1))) (sym w.2)
        (back t2 l2 _ (fewer k md (v ∷ done) xs t2 l2 _ (Before k g pr v j (i + 1)) more (stood k md (v ∷ done) xs t2 l2 (Before k g pr v j i) c q a hh w.0)))))
        (λ w. subst (λ z. KeptAt k g pr (v + 1) z l3 (Before k g pr v j (i + 1))) (sym w.1) (subst (λ z. KeptAt k g pr (v + 1) (at_place t2 c q) z (Before k g pr v j (i + 1))) (sym w.2)
        (back _ _ _ (fewer k md (v ∷ done) xs (at_place t2 c q) (at_place l2 c a) _ (Before k g pr v j (i + 1)) more (improved k md (v ∷ done) xs t2 l2 (Before k g pr v j i) c q a hh w.0 met)))))
        way

-- what an improved place makes of a table
pub improves : {P : Type 0} (k : Kind P) (t t2 : List P) (l l2 : List (List ℕ)) (c : ℕ) (q : P) (xs : List ℕ) → c < length t → c < length l →
    t2 ≡ cond (k.at_most (prices_in k t c) q) t (slice_set t c q) → l2 ≡ cond (k.at_most (prices_in k t c) q) l (slice_set l c xs) →
    ((k.at_most (prices_in k t c) q ≡ true) × (prices_in k t2 ≡ prices_in k t) × (picks_in l2 ≡ picks_in l))
    ⊎ ((k.at_most (prices_in k t c) q ≡ false) × (prices_in k t2 ≡ at_place (prices_in k t) c q) × (picks_in l2 ≡ at_place (picks_in l) c (pick_of xs)))
improves k t t2 l l2 c q xs ht hl et el =
    let test = k.at_most (prices_in k t c) q in
    ⊎_elim
    (λ d. inl (d, ap (prices_in k) (et ∙ cond-true test t (slice_set t c q) d), ap picks_in (el ∙ cond-true test l (slice_set l c xs) d)))
    (λ d. inr (d, ap (prices_in k) (et ∙ cond-false test t (slice_set t c q) d) ∙ prices_set k t c q ht, ap picks_in (el ∙ cond-false test l (slice_set l c xs) d) ∙ picks_set l c xs hl))
    (cases_Bool test)

module _ {P : Type 0} (k : Kind P) (g : Graph) (pr : List P) (v : ℕ) (t : ℕ → P) (l : ℕ → ℕ → ℕ) where
  pub all_covered : (j : ℕ) → 125 ≤ j → has g.present v ≡ true → length (front_at k g pr v) ≤ 3 → KeptAt k g pr (v + 1) t l (Below k g pr v j) → KeptAt k g pr (v + 1) t l Every
  all_covered j hj has slim h = fewer k (model_in k g pr) _ _ t l (Below k g pr v j) Every
      (λ b ok _. let ok2 : Within (model_in k g pr).count (v ∷ members_below g.present v) b = subst (λ d. Within (model_in k g pr).count d b) (below_in g.present v has) ok in
      let small : number_of (front_at k g pr v) b < 125 = number_below (front_at k g pr v) b slim (All-weaker (λ y. b y < (model_in k g pr).count y) (λ y. b y < 5) (λ y q. omega (arith, count_few k g pr y)) (front_at k g pr v)
      (all_kept_by (λ y. reaches k (model_in k g pr) y (members_from g.present v)) (λ y. b y < (model_in k g pr).count y) (members_below g.present v) ok2.1)) in
      omega arith) h
