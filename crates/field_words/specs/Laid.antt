-- The lent words of a field, n of which hold waiting messages.
use Rattle.std.specs.Prelude.{ℕ, ◌≤◌, ◌≡◌, List, length, take}
use Rattle.field.specs.Held.{layout}

-- "Waiting messages lie in lent 64-bit words, from the front and without gaps, zero after the last": the first n wait
pub record Laid (lent : List ℕ) (n : ℕ) : Type 0 where
  pub within : n ≤ length lent
  pub zeros : lent ≡ layout (length lent) (take n lent)
