-- Branch and bound loses nothing: it finds an assignment of lowest total, or every assignment totals top.
use Rattle.std.specs.Prelude.{◌≡◌, ℕ, zero, suc, ◌<◌, true, false, ◌⊎◌, List, [], ◌∷◌, ◌++◌, ◌≢◌, refl}
use Rattle.std.proofs.Common.{sym, ap, ap₂, ◌∙◌, subst, inl, inr, ⊎_elim, append-nil, arith}
use Rattle.std.specs.List.{AllByRecursion}
use Rattle.std.proofs.ByRecursion.{All-weaker}
use Rattle.std.proofs.lemmas.Bool.{both_ways, cond_both, cases_lt}
use Rattle.prices.specs.declared.price.Price.{Ghosts as Kind}
use Rattle.graphs.specs.Model.{Entries, Model, Proper, Ascending, In, cost, beside, sum_over, total, Within, Assignment, Lowest, put, lowest}
use Rattle.graphs.specs.Search.{Found, each, search, tried, searched}
use Rattle.graphs.specs.Low.{left_comm, swap4, le_refl, le_same}
use Rattle.graphs.specs.Lists.{all_zip, all_any}
use Rattle.graphs.specs.Linking.{cost_sym}
use Rattle.graphs.specs.Plain.{lowest_met, lowest_one, pick, sum_over_agree, beside_agree, put_same, put_other}

-- xs one after the other in front of ys
abbrev pub onto : List ℕ → List ℕ → List ℕ
onto [] ys = ys
onto (x ∷ xs) ys = onto xs (x ∷ ys)

-- each variable is new where it comes
abbrev pub Fresh : List ℕ → List ℕ → Type 0
Fresh [] done = Unit {0}
Fresh (x ∷ xs) done = AllByRecursion (λ y. (y ≢ x)) done × Fresh xs (x ∷ done)

pub fresh : (xs done : List ℕ) → Ascending xs → AllByRecursion (λ x. AllByRecursion (λ y. y < x) done) xs → Fresh xs done
fresh [] done asc h = tt
fresh (x ∷ xs) done asc h = (
  All-weaker (λ y. y < x) _ (λ y l e. omega arith) done h.0,
  fresh xs (x ∷ done) asc.1 (all_zip (λ y. x < y) (λ y. AllByRecursion (λ z. z < y) done) _ (λ y l r. (l, r)) xs asc.0 h.1),
)

module _ {S : Type 0} (f : ℕ → S → S) (Q : S → Type 0) where
  pub each_keeps : (n : ℕ) (s : S) → ((i : ℕ) (r : S) → i < n → Q r → Q (f i r)) → Q s → Q (each f n s)
  each_keeps zero s h q = q
  each_keeps (suc n) s h q = h n _ (omega arith) (each_keeps n s (λ i r l. h i r (omega arith)) q)

  pub each_hits : (n : ℕ) (s : S) (j : ℕ) → j < n → ((i : ℕ) (r : S) → i < n → Q r → Q (f i r)) → ((r : S) → Q (f j r)) → Q (each f n s)
  each_hits zero s j l h q = absurd (omega arith)
  each_hits (suc n) s j l h q = ⊎_elim
      (λ m. h n _ (omega arith) (each_hits n s j m (λ i r b. h i r (omega arith)) q))
      (λ m. let e : j ≡ n = omega arith in subst (λ i. Q (f i (each f n s))) e (q _))
      (cases_lt j n)

module _ {P : Type 0} (k : Kind P) (t : Entries P) where
  -- more variables cost no less
  grows : (xs done : List ℕ) (b : ℕ → ℕ) → k.at_most (sum_over k t done b) (sum_over k t (onto xs done) b) ≡ true
  grows [] done b = le_refl k _
  grows (x ∷ xs) done b = k.laws.chain _ _ _
      (subst (λ c. k.at_most c (sum_over k t (x ∷ done) b) ≡ true) (k.laws.zero_sum _) (k.laws.keeps _ _ _ (k.laws.least _)))
      (grows xs (x ∷ done) b)

  star_mid : (u x : ℕ) (xs ys : List ℕ) (i : ℕ) (a : ℕ → ℕ) → beside k t u (xs ++ x ∷ ys) i a ≡ k.sum (cost t u x i (a x)) (beside k t u (xs ++ ys) i a)
  star_mid u x [] ys i a = refl
  star_mid u x (y ∷ xs) ys i a = ap (k.sum (cost t u y i (a y))) (star_mid u x xs ys i a) ∙ left_comm k _ _ _

  sums_mid : (x : ℕ) (xs ys : List ℕ) (a : ℕ → ℕ) → AllByRecursion (λ y. x < y) xs → sum_over k t (xs ++ x ∷ ys) a ≡ sum_over k t (x ∷ (xs ++ ys)) a
  sums_mid x [] ys a h = refl
  sums_mid x (y ∷ xs) ys a h =
      ap₂ k.sum (star_mid y x xs ys (a y) a) (sums_mid x xs ys a h.1) ∙ swap4 k _ _ _ _
      ∙ ap (λ c. k.sum (k.sum c (beside k t x (xs ++ ys) (a x) a)) (sum_over k t (y ∷ (xs ++ ys)) a)) (cost_sym t y x (a y) (a x) (λ e. omega (arith, h.0)))

  pub sums_onto : (xs ys : List ℕ) (a : ℕ → ℕ) → Ascending xs → sum_over k t (onto xs ys) a ≡ sum_over k t (xs ++ ys) a
  sums_onto [] ys a asc = refl
  sums_onto (x ∷ xs) ys a asc = sums_onto xs (x ∷ ys) a asc.1 ∙ sums_mid x xs ys a asc.0

  -- one more choice set
  set_one : (x i : ℕ) (done : List ℕ) (a : ℕ → ℕ) (p : P) → AllByRecursion (λ y. (y ≢ x)) done → p ≡ sum_over k t done a →
      k.sum (beside k t x done i a) p ≡ sum_over k t (x ∷ done) (put a x i)
  set_one x i done a p new e =
      let off : AllByRecursion (λ y. put a x i y ≡ a y) done = All-weaker (λ y. (y ≢ x)) _ (λ y n. put_other a x i y n) done new in
      sym (ap₂ k.sum (ap (λ j. beside k t x done j (put a x i)) (put_same a x i) ∙ beside_agree k t x done i _ a off) (sum_over_agree k t done _ a off ∙ sym e))

pub record Met {P : Type 0} (k : Kind P) (t : Entries P) (n : ℕ → ℕ) (xs : List ℕ) (r : Found P) : Type 0 where
  pub valid : Within n xs r.choices
  pub meets : r.price ≡ sum_over k t xs r.choices

module _ {P : Type 0} (k : Kind P) (g : Model P) where
  -- a price never rises
  lower : (xs done : List ℕ) (a : ℕ → ℕ) (p : P) (s : Found P) → k.at_most p s.price ≡ true → k.at_most (search k g xs done a p s).price s.price ≡ true
  lower [] done a p s h = h
  lower (x ∷ xs) done a p s h = each_keeps (tried k g x xs done a p) (λ r. k.at_most r.price s.price ≡ true) (g.count x) s
      (λ i r _ q. cond_both (k.at_most r.price (k.sum (beside k g.entries x done i a) p)) r _ (λ v. k.at_most v.price s.price ≡ true) (λ _. q)
      (λ e. k.laws.chain _ _ _ (lower xs (x ∷ done) (put a x i) _ r (k.laws.total _ _ e)) q))
      (le_refl k _)

  -- no assignment beats the answer
  covers : (xs done : List ℕ) (a : ℕ → ℕ) (p : P) (s : Found P) (b : ℕ → ℕ) → Fresh xs done → p ≡ sum_over k g.entries done a → Within g.count xs b → AllByRecursion (λ y. b y ≡ a y) done →
      k.at_most (search k g xs done a p s).price (sum_over k g.entries (onto xs done) b) ≡ true
  covers [] done a p s b new e h same = le_same k (e ∙ sym (sum_over_agree k g.entries done b a same))
  covers (x ∷ xs) done a p s b new e h same =
      let ih = covers xs (x ∷ done) in
      let there : AllByRecursion (λ y. b y ≡ put a x (b x) y) (x ∷ done) = (sym (put_same a x (b x)), all_zip (λ y. b y ≡ a y) (λ y. (y ≢ x)) _ (λ y q d. q ∙ sym (put_other a x (b x) y d)) done same new.0) in
      let set : k.sum (beside k g.entries x done (b x) a) p ≡ sum_over k g.entries (x ∷ done) (put a x (b x)) = set_one k g.entries x (b x) done a p new.0 e in
      each_hits (tried k g x xs done a p) (λ r. k.at_most r.price (sum_over k g.entries (onto xs (x ∷ done)) b) ≡ true) (g.count x) s (b x) h.0
      (λ i r _ q. cond_both (k.at_most r.price (k.sum (beside k g.entries x done i a) p)) r _ (λ v. k.at_most v.price (sum_over k g.entries (onto xs (x ∷ done)) b) ≡ true) (λ _. q)
      (λ d. k.laws.chain _ _ _ (lower xs (x ∷ done) (put a x i) _ r (k.laws.total _ _ d)) q))
      (λ r. cond_both (k.at_most r.price (k.sum (beside k g.entries x done (b x) a) p)) r _ (λ v. k.at_most v.price (sum_over k g.entries (onto xs (x ∷ done)) b) ≡ true)
      (λ d. k.laws.chain _ _ _ (k.laws.chain _ _ _ d (le_same k (set ∙ sym (sum_over_agree k g.entries (x ∷ done) b _ there)))) (grows k g.entries xs (x ∷ done) b))
      (λ d. ih (put a x (b x)) _ r b new.1 set h.1 there))

  -- the answer is an assignment's, or the start's
  origin : (xs done : List ℕ) (a : ℕ → ℕ) (p : P) (s : Found P) → Fresh xs done → p ≡ sum_over k g.entries done a → Within g.count done a → AllByRecursion (λ x. 0 < g.count x) xs →
      (search k g xs done a p s ≡ s) ⊎ Met k g.entries g.count (onto xs done) (search k g xs done a p s)
  origin [] done a p s new e ok some = inr (record { valid = ok; meets = e })
  origin (x ∷ xs) done a p s new e ok some =
      let ih = origin xs (x ∷ done) in
      each_keeps (tried k g x xs done a p) (λ r. (r ≡ s) ⊎ Met k g.entries g.count (onto xs (x ∷ done)) r) (g.count x) s
      (λ i r l q. cond_both (k.at_most r.price (k.sum (beside k g.entries x done i a) p)) r _ (λ v. (v ≡ s) ⊎ Met k g.entries g.count (onto xs (x ∷ done)) v) (λ _. q)
      (λ d. ⊎_elim (λ same. subst (λ v. (v ≡ s) ⊎ Met k g.entries g.count (onto xs (x ∷ done)) v) (sym same) q) (λ m. inr m)
      (ih (put a x i) _ r new.1 (set_one k g.entries x i done a p new.0 e)
      (subst (λ v. v < g.count x) (sym (put_same a x i)) l, all_zip (λ y. a y < g.count y) (λ y. (y ≢ x)) _ (λ y b c. subst (λ v. v < g.count y) (sym (put_other a x i y c)) b) done ok new.0)
      some.1)))
      (inl refl)

pub all_onto : (Q : ℕ → Type 0) (xs ys : List ℕ) → AllByRecursion Q (onto xs ys) → AllByRecursion Q xs × AllByRecursion Q ys
all_onto Q [] ys h = (tt, h)
all_onto Q (x ∷ xs) ys h = let r = all_onto Q xs (x ∷ ys) h in ((r.1.0, r.0), r.1.1)

module _ {P : Type 0} (k : Kind P) (g : Model P) where
  pub elsewhere : (xs done : List ℕ) (a : ℕ → ℕ) (p : P) (s : Found P) (y : ℕ) (j : ℕ) → (In y xs → ⊥) → a y ≡ j → s.choices y ≡ j → (search k g xs done a p s).choices y ≡ j
  elsewhere [] done a p s y j out e d = e
  elsewhere (x ∷ xs) done a p s y j out e d =
      let ih = elsewhere xs (x ∷ done) in
      each_keeps (tried k g x xs done a p) (λ r. r.choices y ≡ j) (g.count x) s
      (λ i r _ q. cond_both (k.at_most r.price (k.sum (beside k g.entries x done i a) p)) r _ (λ v. v.choices y ≡ j) (λ _. q)
      (λ _. ih (put a x i) _ r y j (λ m. out (inr m)) (put_other a x i y (λ z. out (inl z)) ∙ e) q))
      d

module _ {P : Type 0} (k : Kind P) (g : Model P) (proper : Proper g) (a : ℕ → ℕ) where
  abbrev start : Found P
  start = record { price = k.greatest; choices = a }

  search_finds : Lowest k g (searched k g a).price (searched k g a).choices ⊎ (((searched k g a).price ≡ k.greatest) × ((b : ℕ → ℕ) → Assignment g b → total k g b ≡ k.greatest))
  search_finds =
      let new : Fresh g.variables [] = fresh g.variables [] proper.ascending (all_any _ (λ x. tt) g.variables) in
      let same : (b : ℕ → ℕ) → sum_over k g.entries (onto g.variables []) b ≡ total k g b =
      λ b. sums_onto k g.entries g.variables [] b proper.ascending ∙ ap (λ l. sum_over k g.entries l b) (append-nil g.variables) in
      let all : (b : ℕ → ℕ) → Assignment g b → k.at_most (searched k g a).price (total k g b) ≡ true =
      λ b h. subst (λ c. k.at_most (searched k g a).price c ≡ true) (same b) (covers k g g.variables [] a k.least start b new refl h tt) in
      ⊎_elim
      (λ e. inr (ap (λ r. r.price) e, λ b h. k.laws.no_ties _ _ (k.laws.greatest _) (subst (λ r. k.at_most r.price (total k g b) ≡ true) e (all b h))))
      (λ m. inl (record { valid = (all_onto _ g.variables [] m.valid).0; meets = sym (m.meets ∙ same _); least = all }))
      (origin k g g.variables [] a k.least start new refl tt proper.some)

  -- the price is the lowest
  pub searched_lowest : (searched k g a).price ≡ lowest k g
  searched_lowest = let s = lowest_met k g proper in ⊎_elim
      (λ h. lowest_one k g _ _ _ _ h s)
      (λ h. h.0 ∙ sym (h.1 (pick k g) s.valid) ∙ s.meets)
      search_finds

  pub searched_found : k.at_most k.greatest (searched k g a).price ≡ false → Lowest k g (searched k g a).price (searched k g a).choices
  searched_found d = ⊎_elim (λ h. h) (λ h. absurd (both_ways _ d (le_same k (sym h.0)))) search_finds

  pub searched_stays : (y : ℕ) → (In y g.variables → ⊥) → (searched k g a).choices y ≡ a y
  searched_stays y out = elsewhere k g g.variables [] a k.least start y (a y) out refl refl
