-- How what a refusal tells is written.
use Rattle.std.specs.Prelude.{ℕ, List, ◌++◌, codes, decimal}
use Rattle.refusals.specs.declared.told.Told.{Told}

abbrev pub bare_words : Told → List ℕ
bare_words t = codes "refusal " ++ (decimal t.number ++ (codes ", place " ++ (decimal t.place ++ (codes ", depth " ++ decimal t.depth))))

-- behind a reason, in brackets
abbrev pub told_words : Told → List ℕ
told_words t = codes " (" ++ (bare_words t ++ codes ")")
