-- A number as text.
use Rattle.std.specs.Prelude.{ℕ, zero, suc, ◌+◌, ◌/◌, ◌%◌, cond, List, [], ◌∷◌, ◌++◌, ltb}

abbrev pub digit : ℕ → ℕ
digit d = 48 + d

-- in k digits at most
unfoldable pub decimal-to : ℕ → ℕ → List ℕ
decimal-to zero n = []
decimal-to (suc k) n = cond (ltb n 10) (digit n ∷ []) (decimal-to k (n / 10) ++ (digit (n % 10) ∷ []))

-- in decimal, without zeros in front; a number of 64 bits has 20 digits at most
unfoldable pub decimal : ℕ → List ℕ
unfolding decimal-to
decimal n = decimal-to 20 n
