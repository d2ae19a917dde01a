-- How many cells a fresh field has (`fresh-length`).
use Rattle.std.specs.Prelude.{ℕ, zero, suc, ◌*◌, ◌≡◌, refl, length}
use Rattle.std.proofs.Common.{arith}
use Rattle.field.specs.State.{WIDTH}
use Rattle.field.specs.Held.{fresh_cells}

pub fresh-length : (n : ℕ) → length (fresh_cells n) ≡ n * WIDTH
unfolding fresh_cells
fresh-length zero = refl
fresh-length (suc n) = omega (arith, fresh-length n)
