-- "Integers are 16-bit big-endian."
use Rattle.std.specs.Prelude.{ℕ, ◌+◌, ◌*◌, ◌/◌, ◌%◌, List, [], ◌∷◌, get_or, set}

-- the integer at byte i
abbrev pub at16 : List ℕ → ℕ → ℕ
at16 s i = get_or s i 0 * 256 + get_or s (i + 1) 0

-- its two bytes
abbrev pub bytes16 : ℕ → List ℕ
bytes16 x = x / 256 ∷ x % 256 ∷ []

-- s with x at byte i
abbrev pub put16 : List ℕ → ℕ → ℕ → List ℕ
put16 s i x = set (set s i (x / 256)) (i + 1) (x % 256)
