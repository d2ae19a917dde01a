-- The limits of document 01: "N modules (1 to 192)", since request 04 from 0 on, "L links (0 to 600)", readings "0 to 2000"; those of a byte.
use Rattle.std.specs.Prelude.{ℕ, ◌*◌, ◌≤◌, List, get_or}

abbrev pub max_modules : ℕ
max_modules = 192

abbrev pub max_links : ℕ
max_links = 600

abbrev pub max_reading : ℕ
max_reading = 2000

-- the ends of that many links
abbrev pub max_ends : ℕ
max_ends = 2 * max_links

-- the ceiling of the largest plan
abbrev pub max_words : ℕ
max_words = 7920

-- a list of bytes
abbrev pub AllBytes : List ℕ → Type 0
AllBytes s = (i : ℕ) → get_or s i 0 ≤ 255
