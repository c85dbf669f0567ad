-- Runs of numbers, ascending: what each step of one gives.
use Rattle.std.specs.Prelude.{◌≡◌, ℕ, ◌+◌, ◌<◌, ◌≤◌, Some, None, Option}

-- one step: the first number of those from `next` on that are below `end`, if there is one
abbrev pub Steps : ℕ → ℕ → Option ℕ → ℕ → ℕ → Type 0
Steps next end None next' end' = (end ≤ next) × (next' ≡ next) × (end' ≡ end)
Steps next end (Some n) next' end' = (next < end) × (n ≡ next) × (next' ≡ next + 1) × (end' ≡ end)
