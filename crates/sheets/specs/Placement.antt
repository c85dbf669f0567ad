-- What a placement costs: accesses of variables in memory, and moves by copies between registers.
use Rattle.std.specs.Prelude.{ℕ, Bool, cond, not, ◌&&◌, List, [], ◌∷◌, ◌==◌}
use Rattle.prices.specs.declared.price.Price.{Ghosts as Kind}
use Rattle.sheets.specs.declared.line.Line.{Line}
use Rattle.sheets.specs.declared.line.Line.TheVariants.{Input, Output, Copy, Add, Multiply, UpperHalf, GoTo, GoToIfZero, End}
use Rattle.sheets.specs.Lines.{accesses, weight}

-- a placement gives each variable a choice: 0 is memory, the others are registers or pairs
abbrev pub memory : ℕ
memory = 0

abbrev pub everything_in_memory : ℕ → ℕ
everything_in_memory v = memory

abbrev pub sum_of : {P A : Type 0} → Kind P → (A → P) → List A → P
sum_of k f [] = k.least
sum_of k f (x ∷ xs) = k.sum (f x) (sum_of k f xs)

-- one access, at a line's weight, of a variable with this choice
abbrev pub access_at : {P : Type 0} → Kind P → ℕ → ℕ → P
access_at k w i = cond (i == memory) (k.access_of w) k.least

-- two choices that are registers or pairs, and differ
abbrev pub moves : ℕ → ℕ → Bool
moves i j = not (i == memory) && (not (j == memory) && not (i == j))

abbrev pub move_price : {P : Type 0} → Kind P → (ℕ → ℕ) → Line → P
move_price k a (Input d p w) = k.least
move_price k a (Output s p w) = k.least
move_price k a (Copy d s w) = cond (moves (a d) (a s)) (k.move_of w) k.least
move_price k a (Add d x y w) = k.least
move_price k a (Multiply d x y w) = k.least
move_price k a (UpperHalf d s w) = k.least
move_price k a (GoTo t) = k.least
move_price k a (GoToIfZero s t w) = k.least
move_price k a End = k.least

abbrev pub line_price : {P : Type 0} → Kind P → (ℕ → ℕ) → Line → P
line_price k a l = k.sum (sum_of k (λ v. access_at k (weight l) (a v)) (accesses l)) (move_price k a l)

-- the price of lines under a placement
abbrev pub price : {P : Type 0} → Kind P → List Line → (ℕ → ℕ) → P
price k ls a = sum_of k (line_price k a) ls
