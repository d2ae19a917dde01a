-- Document 01's numbers for statuses and marks, by name, and a node's branches but one: nodes, fields and the protocol use them.
use Rattle.std.specs.Prelude.{ℕ, Bool, not, ◌&&◌, eqb}

-- "status (0 asleep, 1 Find, 2 Found)"
abbrev pub ASLEEP : ℕ
ASLEEP = 0

abbrev pub FIND : ℕ
FIND = 1

abbrev pub FOUND : ℕ
FOUND = 2

-- "a mark for each own link: 0 Basic, 1 Branch, 2 Rejected"
abbrev pub BASIC : ℕ
BASIC = 0

abbrev pub BRANCH : ℕ
BRANCH = 1

abbrev pub REJECTED : ℕ
REJECTED = 2

-- "all i ≠ j such that SE(i) = Branch", where m are the marks
abbrev pub branches : ℕ → (ℕ → ℕ) → ℕ → Bool
branches j m k = not (eqb k j) && eqb (m k) BRANCH
