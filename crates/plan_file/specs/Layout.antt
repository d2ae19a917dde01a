-- The bytes of a plan, a version byte and then integers: of a plan value (`encode`), and back (`decode`, with zeros past the links).
use Rattle.std.specs.Prelude.{ℕ, suc, ◌+◌, ◌*◌, List, [], ◌∷◌, ◌++◌, get_or}
use Rattle.base.specs.Table.{tabulate}
use Rattle.format_int16.specs.Int16.{at16, bytes16}
use Rattle.plan.specs.Links.{Plan, links_of}
use Rattle.plan.specs.Trimmed.{padded}
pub use Rattle.plan.specs.Links.{blank, plan_numbers}

-- "Integers are 16-bit big-endian."
unfoldable pub bytes_of : List ℕ → List ℕ
bytes_of [] = []
bytes_of (x ∷ xs) = bytes16 x ++ bytes_of xs

-- "A plan is: version byte 1; length of what follows; N; L; for each link .."; "Length is 4 + 8 × L."
unfoldable pub encode : Plan → List ℕ
encode p = 1 ∷ bytes_of ((4 + 8 * links_of p) ∷ tabulate (plan_numbers (links_of p)) (λ i. get_or p i 0))

-- the integer number i after the version byte
abbrev pub number_at : List ℕ → ℕ → ℕ
number_at s i = at16 s (1 + 2 * i)

-- the plan that bytes mean: the numbers after the length
unfoldable pub decode : List ℕ → Plan
unfolding padded
decode s = padded (plan_numbers (number_at s 2)) (λ i. number_at s (suc i))
