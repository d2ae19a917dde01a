-- The largest number below a limit for which a test says yes.
use Rattle.std.specs.Prelude.{ℕ, zero, suc, Bool, cond}
use Rattle.base.specs.None.{none}

-- searched from the limit down; none where there is none
unfoldable pub largest_below : ℕ → (ℕ → Bool) → ℕ
largest_below zero q = none
largest_below (suc n) q = cond (q n) n (largest_below n q)
