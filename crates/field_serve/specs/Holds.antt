-- Lent words in which these words wait.
use Rattle.std.specs.Prelude.{ℕ, ◌≡◌, List, length, take}
use Rattle.field_words.specs.Laid.{Laid}

-- m lent words, of which n wait, and these are ws
pub record Holds (lent : List ℕ) (n m : ℕ) (ws : List ℕ) : Type 0 where
  pub waits : take n lent ≡ ws
  pub laid : Laid lent n
  pub size : length lent ≡ m
