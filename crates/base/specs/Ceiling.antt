-- The ceiling of the sent count, M.
use Rattle.std.specs.Prelude.{ℕ, ◌+◌, ◌*◌}
use Rattle.base.specs.Log.{log2}

-- "The ceiling M is 5 × N × ⌊log2 N⌋ + 2 × L"
abbrev pub first_term : ℕ → ℕ
first_term n = 5 * n * log2 n

abbrev pub ceiling : ℕ → ℕ → ℕ
ceiling n l = first_term n + 2 * l
