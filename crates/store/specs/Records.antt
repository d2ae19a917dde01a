-- A lent byte store: records one after the other, zeros after the last. What a record holds is not looked at here.
use Rattle.std.specs.Prelude.{ℕ, zero, suc, ◌+◌, ◌-◌, Bool, cond, ◌&&◌, List, [], ◌∷◌, ◌++◌, length, get_or, take, drop, replicate, eqb, leb}
use Rattle.format_wide.specs.Wide.{at32}

-- "Each record is version byte 1, a 32-bit length of what follows, ..": the size of the record at the front
abbrev pub size_at : List ℕ → ℕ
size_at s = 5 + at32 s 1

-- a whole record stands at the front
unfoldable pub whole : List ℕ → Bool
whole s = eqb (get_or s 0 0) 1 && leb (size_at s) (length s)

-- the whole records from the front on, n at the most
unfoldable pub records_by : ℕ → List ℕ → List (List ℕ)
records_by zero s = []
records_by (suc n) s = cond (whole s) (take (size_at s) s ∷ records_by n (drop (size_at s) s)) []

-- all of them: a record has a byte at least
abbrev pub records_in : List ℕ → List (List ℕ)
records_in s = records_by (length s) s

-- one after the other
unfoldable pub joined : List (List ℕ) → List ℕ
joined [] = []
joined (r ∷ rs) = r ++ joined rs

-- n bytes that hold them, "with zeros after"
abbrev pub stored : ℕ → List (List ℕ) → List ℕ
stored n rs = joined rs ++ replicate (n - length (joined rs)) 0
