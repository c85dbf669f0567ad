-- What a line reads and writes, and how often it runs.
use Rattle.std.specs.Prelude.{ℕ, List, [], ◌∷◌, ◌++◌}
use Rattle.sheets.specs.declared.line.Line.{Line}
use Rattle.sheets.specs.declared.line.Line.TheVariants.{Input, Output, Copy, Add, Multiply, UpperHalf, GoTo, GoToIfZero, End}

abbrev pub reads : Line → List ℕ
reads (Input d p w) = []
reads (Output s p w) = s ∷ []
reads (Copy d s w) = s ∷ []
reads (Add d a b w) = a ∷ b ∷ []
reads (Multiply d a b w) = a ∷ b ∷ []
reads (UpperHalf d s w) = s ∷ []
reads (GoTo t) = []
reads (GoToIfZero s t w) = s ∷ []
reads End = []

abbrev pub writes : Line → List ℕ
writes (Input d p w) = d ∷ []
writes (Output s p w) = []
writes (Copy d s w) = d ∷ []
writes (Add d a b w) = d ∷ []
writes (Multiply d a b w) = d ∷ []
writes (UpperHalf d s w) = d ∷ []
writes (GoTo t) = []
writes (GoToIfZero s t w) = []
writes End = []

-- each variable as often as the line names it
abbrev pub accesses : Line → List ℕ
accesses l = writes l ++ reads l

-- a line that accesses nothing has no weight
abbrev pub weight : Line → ℕ
weight (Input d p w) = w
weight (Output s p w) = w
weight (Copy d s w) = w
weight (Add d a b w) = w
weight (Multiply d a b w) = w
weight (UpperHalf d s w) = w
weight (GoTo t) = 0
weight (GoToIfZero s t w) = w
weight End = 0
