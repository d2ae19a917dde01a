-- Big-endian integers of 32 and 64 bits in bytes: two of half the width, the high half first.
use Rattle.std.specs.Prelude.{ℕ, ◌+◌, ◌*◌, ◌/◌, ◌%◌, List, ◌++◌}
use Rattle.std.proofs.lemmas.List.Edits.{sets}
use Rattle.format_int16.specs.Int16.{at16, bytes16}

-- the integer at byte i
abbrev pub at32 : List ℕ → ℕ → ℕ
at32 s i = at16 s i * 65536 + at16 s (i + 2)

abbrev pub at64 : List ℕ → ℕ → ℕ
at64 s i = at32 s i * 4294967296 + at32 s (i + 4)

-- its four bytes, its eight bytes
abbrev pub bytes32 : ℕ → List ℕ
bytes32 x = bytes16 (x / 65536) ++ bytes16 (x % 65536)

abbrev pub bytes64 : ℕ → List ℕ
bytes64 x = bytes32 (x / 4294967296) ++ bytes32 (x % 4294967296)

-- s with x at byte i
abbrev pub put32 : List ℕ → ℕ → ℕ → List ℕ
put32 s i x = sets s i (bytes32 x)

abbrev pub put64 : List ℕ → ℕ → ℕ → List ℕ
put64 s i x = sets s i (bytes64 x)
