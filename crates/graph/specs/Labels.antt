-- Adding an edge renames one part's label.
use Rattle.std.specs.Prelude.{ℕ, cond, eqb}

-- label a is renamed to b
unfoldable pub rename : ℕ → ℕ → ℕ → ℕ
rename a b m = cond (eqb m a) b m
