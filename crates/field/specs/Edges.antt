-- The plan's links as one node sees them, and the directed links.
use Rattle.std.specs.Prelude.{ℕ, ◌+◌, ◌*◌, ◌/◌, ◌%◌, Bool, cond, ◌&&◌, ◌||◌, List, get_or, eqb, ltb}
use Rattle.base.specs.Log.{log2}
use Rattle.plan.specs.Links.{Plan, modules_of, links_of, lower_of, higher_of}
use Rattle.plan.specs.Weights.{earlier}
use Rattle.base.specs.Ceiling.{ceiling}
use Rattle.node.specs.Work.{Own}

-- link k ends at module v
unfoldable pub is_own : Plan → ℕ → ℕ → Bool
is_own p v k = ltb k (links_of p) && (eqb (lower_of p k) v || eqb (higher_of p k) v)

-- the links of module v and their order, as the rules of one node take them
abbrev pub own_of : Plan → ℕ → Own
own_of p v = record { edges = links_of p; own = is_own p v; earlier = earlier p }

-- "Directed link 2 × k runs from lower to higher over link k, 2 × k + 1 back": v's directed link over its link k. v's mark for k stands at the
-- same number.
unfoldable pub end_of : Plan → ℕ → ℕ → ℕ
end_of p v k = cond (eqb (lower_of p k) v) (2 * k) (2 * k + 1)

-- v's marks, of all marks: "a mark for each own link", and 0 elsewhere
unfoldable pub marks_in : Plan → List ℕ → ℕ → ℕ → ℕ
marks_in p marks v k = cond (is_own p v k) (get_or marks (end_of p v k) 0) 0

-- the link that a directed link goes over
abbrev pub link_of : ℕ → ℕ
link_of d = d / 2

-- the module that it runs from, and the module that it leads to
abbrev pub from : Plan → ℕ → ℕ
from p d = cond (eqb (d % 2) 0) (lower_of p (link_of d)) (higher_of p (link_of d))

abbrev pub dest : Plan → ℕ → ℕ
dest p d = cond (eqb (d % 2) 0) (higher_of p (link_of d)) (lower_of p (link_of d))

-- "⌊log2 N⌋", and M, "the ceiling"
abbrev pub limit_of : Plan → ℕ
limit_of p = log2 (modules_of p)

abbrev pub ceiling_of : Plan → ℕ
ceiling_of p = ceiling (modules_of p) (links_of p)
