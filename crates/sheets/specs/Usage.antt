-- How often, and at what weight, lines read or write a variable.
use Rattle.std.specs.Prelude.{ℕ, ◌+◌, ◌*◌, cond, List, [], ◌∷◌, Some, None, Option, ◌==◌}
use Rattle.sheets.specs.declared.line.Line.{Line}
use Rattle.sheets.specs.declared.access.Access.{Access}
use Rattle.sheets.specs.declared.access.Access.TheVariants.{Read, Write}
use Rattle.sheets.specs.declared.access.Tally.{Tally}
use Rattle.sheets.specs.Lines.{reads, writes, weight}

-- the variables that a line reads, or writes
abbrev pub named : Access → Line → List ℕ
named Read l = reads l
named Write l = writes l

-- the variables of a list with empty places
abbrev pub present : List (Option ℕ) → List ℕ
present [] = []
present (None ∷ os) = present os
present (Some v ∷ os) = v ∷ present os

-- how often v stands in a list
abbrev pub times : ℕ → List ℕ → ℕ
times v [] = 0
times v (x ∷ xs) = cond (v == x) 1 0 + times v xs

abbrev pub count_in : Access → List Line → ℕ → ℕ
count_in a [] v = 0
count_in a (l ∷ ls) v = times v (named a l) + count_in a ls v

abbrev pub weight_in : Access → List Line → ℕ → ℕ
weight_in a [] v = 0
weight_in a (l ∷ ls) v = weight l * times v (named a l) + weight_in a ls v

abbrev pub tally_of : Access → List Line → ℕ → Tally
tally_of a ls v = record { count = count_in a ls v; weight = weight_in a ls v }
