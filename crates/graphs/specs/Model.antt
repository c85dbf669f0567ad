-- Graphs by their content: variables, choice counts, entries; the total of an assignment, and the lowest total.
use Rattle.std.specs.Prelude.{◌≡◌, ℕ, zero, suc, pred, ◌<◌, true, cond, ◌&&◌, ◌⊎◌, List, [], ◌∷◌, ◌==◌, nat_lt}
use Rattle.std.specs.List.{AllByRecursion}
use Rattle.prices.specs.declared.price.Price.{Ghosts as Kind}
use Rattle.graphs.specs.Masks.{mem}

-- vector v i: choice i of v. matrix u v i j, where u < v: choice i of u with choice j of v
pub record Entries (P : Type 0) : Type 0 where
  pub vector : ℕ → ℕ → P
  pub matrix : ℕ → ℕ → ℕ → ℕ → P

pub record Model (P : Type 0) : Type 0 where
  pub variables : List ℕ
  pub count : ℕ → ℕ
  pub entries : Entries P

-- the model of variables, counts and entries: zero wherever nothing is read, and one choice for what is absent
abbrev pub normal : {P : Type 0} → Kind P → List ℕ → (ℕ → ℕ) → Entries P → Model P
normal k xs n e = record {
  variables = xs;
  count = λ x. cond (mem x xs) (n x) 1;
  entries = record {
    vector = λ x i. cond (mem x xs && nat_lt i (n x)) (e.vector x i) k.least;
    matrix = λ x y i j. cond ((mem x xs && nat_lt i (n x)) && ((mem y xs && nat_lt j (n y)) && nat_lt x y)) (e.matrix x y i j) k.least;
  };
}

-- # Totals
-- the matrix of two variables, read from either side
abbrev pub cost : {P : Type 0} → Entries P → ℕ → ℕ → ℕ → ℕ → P
cost e u v i j = cond (nat_lt u v) (e.matrix u v i j) (e.matrix v u j i)

-- choice i of u: its entry, and those with the choices a of the variables listed
abbrev pub beside : {P : Type 0} → Kind P → Entries P → ℕ → List ℕ → ℕ → (ℕ → ℕ) → P
beside k e u [] i a = e.vector u i
beside k e u (y ∷ ys) i a = k.sum (cost e u y i (a y)) (beside k e u ys i a)

-- each variable beside those after it
abbrev pub sum_over : {P : Type 0} → Kind P → Entries P → List ℕ → (ℕ → ℕ) → P
sum_over k e [] a = k.least
sum_over k e (x ∷ xs) a = k.sum (beside k e x xs (a x) a) (sum_over k e xs a)

abbrev pub total : {P : Type 0} → Kind P → Model P → (ℕ → ℕ) → P
total k g a = sum_over k g.entries g.variables a

-- a gives each of the variables a choice that it has
abbrev pub Within : (ℕ → ℕ) → List ℕ → (ℕ → ℕ) → Type 0
Within n xs a = AllByRecursion (λ x. a x < n x) xs

abbrev pub Assignment : {P : Type 0} → Model P → (ℕ → ℕ) → Type 0
Assignment g a = Within g.count g.variables a

-- a is an assignment of total p, and no assignment totals less
pub record Lowest {P : Type 0} (k : Kind P) (g : Model P) (p : P) (a : ℕ → ℕ) : Type 0 where
  pub valid : Assignment g a
  pub meets : total k g a ≡ p
  pub least : (b : ℕ → ℕ) → Assignment g b → k.at_most p (total k g b) ≡ true

-- # The lowest total, computed
-- the lower of two, so that each is computed once
abbrev pub lesser : {P : Type 0} → Kind P → P → P → P
lesser k a b = cond (k.at_most a b) a b

-- the lowest of f 0 .. f n, and the first place that has it
abbrev pub low : {P : Type 0} → Kind P → (ℕ → P) → ℕ → P
low k f zero = f 0
low k f (suc n) = lesser k (low k f n) (f (suc n))

abbrev pub arg : {P : Type 0} → Kind P → (ℕ → P) → ℕ → ℕ
arg k f zero = 0
arg k f (suc n) = cond (k.at_most (low k f n) (f (suc n))) (arg k f n) (suc n)

abbrev pub put : (ℕ → ℕ) → ℕ → ℕ → ℕ → ℕ
put a x i y = cond (y == x) i (a y)

-- choices as a list of variables with their choices, which computes faster than a function
abbrev pub choice_in : List (ℕ × ℕ) → ℕ → ℕ
choice_in [] = λ _. 0
choice_in (c ∷ cs) = put (choice_in cs) c.0 c.1

-- the lowest of f over all choices of the variables listed, beside those taken
abbrev pub lowest_beside : {P : Type 0} → Kind P → (ℕ → ℕ) → ((ℕ → ℕ) → P) → List ℕ → List (ℕ × ℕ) → P
lowest_beside k n f [] taken = f (choice_in taken)
lowest_beside k n f (x ∷ xs) taken = low k (λ i. lowest_beside k n f xs ((x, i) ∷ taken)) (pred (n x))

-- shut, since it is large
unfoldable pub lowest : {P : Type 0} → Kind P → Model P → P
lowest k g = lowest_beside k g.count (total k g) g.variables []

-- # The variables ascend, and each has a choice
abbrev pub Ascending : List ℕ → Type 0
Ascending [] = Unit {0}
Ascending (x ∷ xs) = AllByRecursion (λ y. x < y) xs × Ascending xs

pub record Proper {P : Type 0} (g : Model P) : Type 0 where
  pub ascending : Ascending g.variables
  pub some : AllByRecursion (λ x. 0 < g.count x) g.variables

abbrev pub In : ℕ → List ℕ → Type 0
In x [] = ⊥
In x (y ∷ ys) = (x ≡ y) ⊎ In x ys

-- THEOREM: the lowest total is the total of an assignment, and a price with an assignment of lowest total is no other
pub record LowestJoined {P : Type 0} (k : Kind P) (g : Model P) : Type 0 where
  pub choices : ℕ → ℕ
  pub met : Lowest k g (lowest k g) choices
  pub only : (p : P) (a : ℕ → ℕ) → Lowest k g p a → p ≡ lowest k g
