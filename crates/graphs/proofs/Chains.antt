-- What a chain over a run of numbers gives.
use Rattle.std.specs.Prelude.{◌≡◌, ℕ, zero, suc, ◌+◌, ◌-◌, ◌^◌, ◌<◌, ◌≤◌, Bool, true, false, cond, ◌&&◌, ◌||◌, List, [], ◌∷◌, ◌++◌, Option, filter, length, nat_lt, refl}
use Rattle.std.specs.Fn.{Called}
use Rattle.std.specs.Iterator.{YieldsThen}
use Rattle.std.specs.List.{FoldsTo, fold, list_any}
use Rattle.std.specs.Option.{MatchOption}
use Rattle.std.proofs.Common.{sym, ap, ap₂, ◌∙◌, ⊎_elim, arith}
use Rattle.std.proofs.lemmas.Bool.{and_left, cases_Bool, lt-ltb, le-ltb}
use Rattle.std.proofs.lemmas.Iterator.{YieldsList}
use Rattle.std.proofs.lemmas.Iterator.Consumers.{YieldsList-from_shown}
use Rattle.std.proofs.lemmas.Iterator.Search.{any_from_yields_List}
use Rattle.std.proofs.lemmas.List.Elements.{filter-append}
use Rattle.std.proofs.lemmas.List.Folds.{list_any-append}
use Rattle.std.proofs.lemmas.List.Sums.{fold-append}
use denote.Param.Members.{Mut}
use Rattle.graphs.specs.Masks.{up_from, mask_by, some_below, with_member}
use Rattle.graphs.specs.Bitwise.{by_set, by_skip}
use Rattle.graphs.specs.Runs.{Steps}
use Rattle.graphs.specs.Twelve.{some_none}

-- # Runs
-- the numbers from `next` on that are below `end`
abbrev pub run : ℕ → ℕ → List ℕ
run next end = up_from next (end - next)

-- a run yields its numbers in order
pub run_yields : {S : Type 0} (a b : S → ℕ) (s : S) → YieldsList (λ s r t. Steps (a s) (b s) r (a t) (b t)) (λ x. x) s (run (a s) (b s))
run_yields a b s = YieldsList-from_shown (λ s r t. Steps (a s) (b s) r (a t) (b t)) (λ x. x) (λ s. run (a s) (b s)) (λ s t h. ended (a s) (b s) h.0) (λ s x t h. stepped (a s) (b s) x (a t) (b t) h) s
  where
    ended : (n m : ℕ) → m ≤ n → length (run n m) ≡ 0
    ended n m h = let e : m - n ≡ 0 = omega arith in ap (λ d. length (up_from n d)) e

    stepped : (n m x n' m' : ℕ) → (n < m) × (x ≡ n) × (n' ≡ n + 1) × (m' ≡ m) → run n m ≡ x ∷ run n' m'
    stepped n m x n' m' h =
        let e : m - n ≡ suc (m' - n') = omega (arith, h.0, h.2, h.3) in
        ap (up_from n) e ∙ ap₂ (λ y z. y ∷ up_from z (m' - n')) (sym h.1) (omega (arith, h.2))

up_more : (a n : ℕ) → up_from a (suc n) ≡ up_from a n ++ (a + n) ∷ []
up_more a zero = ap (λ x. x ∷ []) (omega arith)
up_more a (suc n) = ap (λ xs. a ∷ xs) (up_more (suc a) n ∙ ap (λ x. up_from (suc a) n ++ x ∷ []) (omega arith))

last_first : (a b : Bool) → (a || (b || false)) ≡ (b || a)
last_first true true = refl
last_first true false = refl
last_first false true = refl
last_first false false = refl

-- a test q that is t on the run and false below it
any_up : (t q : ℕ → Bool) (a n : ℕ) → ((z : ℕ) → z < a → q z ≡ false) → ((z : ℕ) → a ≤ z → q z ≡ t z) → list_any t (up_from a n) ≡ some_below (a + n) q
any_up t q a zero low high = let e : a + 0 ≡ a = omega arith in sym (ap (λ m. some_below m q) e ∙ some_none a q low)
any_up t q a (suc n) low high =
    let e : a + suc n ≡ suc (a + n) = omega arith in
    ap (list_any t) (up_more a n) ∙ list_any-append t (up_from a n) ((a + n) ∷ []) ∙ last_first (list_any t (up_from a n)) (t (a + n))
    ∙ ap₂ ◌||◌ (sym (high (a + n) (omega arith))) (any_up t q a n low high) ∙ ap (λ m. some_below m q) (sym e)

-- # Whether some number of a run passes
run_from_zero : (n : ℕ) → run 0 n ≡ up_from 0 n
run_from_zero n = ap (up_from 0) (omega arith)

pub any_run : (t : ℕ → Bool) (n : ℕ) → list_any t (run 0 n) ≡ some_below n t
any_run t n = let e : 0 + n ≡ n = omega arith in ap (list_any t) (run_from_zero n) ∙ any_up t t 0 n (λ z h. absurd (omega arith)) (λ z h. refl) ∙ ap (λ m. some_below m t) e

pub any_above : (t : ℕ → Bool) (v n : ℕ) → v < n → list_any t (run (v + 1) n) ≡ some_below n (λ z. nat_lt v z && t z)
any_above t v n h =
    let e : (v + 1) + (n - (v + 1)) ≡ n = omega arith in
    any_up t (λ z. nat_lt v z && t z) (v + 1) (n - (v + 1))
    (λ z l. and_left (nat_lt v z) (t z) (le-ltb v z (omega arith))) (λ z l. ap (λ b. b && t z) (lt-ltb v z (omega arith)))
    ∙ ap (λ m. some_below m (λ z. nat_lt v z && t z)) e

-- `any`, where the closure computes the test t, over the run from m to n
pub any_of_run : {S F : Type 0} {g : Mut F (ℕ × Unit {0}) Bool} (next end : S → ℕ) (t : ℕ → Bool) (s u : S) (f : F) (r : Bool) (m n : ℕ) → next s ≡ m → end s ≡ n
    → (xs : List ℕ) × (o : Option ℕ) × (j : F) × YieldsThen (λ s r t. Steps (next s) (end s) r (next t) (end t)) s xs o u × FoldsTo (λ p x q. Called g p (x, tt) false q) f xs j × MatchOption o (r ≡ false) (λ x. (r ≡ true) × ((h : F) × Called g j (x, tt) true h))
    → ((x : ℕ) (b : Bool) (q : F) → Called g f (x, tt) b q → (q ≡ f) × (b ≡ t x)) → r ≡ list_any t (run m n)
any_of_run next end t s u f r m n em en ran closure = any_from_yields_List t u f r ran (run_yields next end s) closure ∙ ap (list_any t) (ap₂ run em en)

-- # A mask collected from a run
last_member : (t : ℕ → Bool) (m n : ℕ) → fold with_member m (filter t (n ∷ [])) ≡ cond (t n) (with_member m n) m
last_member t m n = go (t n)
  where
    go : (b : Bool) → fold with_member m (cond b (n ∷ []) []) ≡ cond b (with_member m n) m
    go true = refl
    go false = refl

mask_up : (t : ℕ → Bool) (a n : ℕ) → a + n ≤ 16 → fold with_member (mask_by t a) (filter t (up_from a n)) ≡ mask_by t (a + n)
mask_up t a zero h = ap (mask_by t) (omega arith)
mask_up t a (suc n) h =
    ap (λ xs. fold with_member (mask_by t a) (filter t xs)) (up_more a n)
    ∙ ap (fold with_member (mask_by t a)) (filter-append t (up_from a n) ((a + n) ∷ []))
    ∙ fold-append with_member (mask_by t a) (filter t (up_from a n)) (filter t ((a + n) ∷ []))
    ∙ ap (λ m. fold with_member m (filter t ((a + n) ∷ []))) (mask_up t a n (omega arith))
    ∙ last_member t (mask_by t (a + n)) (a + n)
    ∙ ⊎_elim
    (λ e. ap (λ b. cond b (with_member (mask_by t (a + n)) (a + n)) (mask_by t (a + n))) e ∙ by_set t (a + n) (omega arith) e ∙ ap (mask_by t) (omega arith))
    (λ e. ap (λ b. cond b (with_member (mask_by t (a + n)) (a + n)) (mask_by t (a + n))) e ∙ by_skip t (a + n) e ∙ ap (mask_by t) (omega arith))
    (cases_Bool (t (a + n)))

-- the mask of the numbers below a goes on to that of those below n
pub mask_from_run : (t : ℕ → Bool) (a n : ℕ) → a ≤ n → n ≤ 16 → fold with_member (mask_by t a) (filter t (run a n)) ≡ mask_by t n
mask_from_run t a n l h = mask_up t a (n - a) (omega arith) ∙ ap (mask_by t) (omega arith)

pub mask_of_run : (t : ℕ → Bool) (n : ℕ) → n ≤ 16 → fold with_member 0 (filter t (run 0 n)) ≡ mask_by t n
mask_of_run t n h = mask_from_run t 0 n (omega arith) h

-- tests that agree make one mask
pub mask_same : (s t : ℕ → Bool) (n : ℕ) → ((i : ℕ) → i < n → s i ≡ t i) → mask_by s n ≡ mask_by t n
mask_same s t zero h = refl
mask_same s t (suc n) h = ap₂ (λ m b. m + cond b (2 ^ n) 0) (mask_same s t n (λ i l. h i (omega arith))) (h n (omega arith))
