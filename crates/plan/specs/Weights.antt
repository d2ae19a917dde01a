-- The order of the links: by cost, then by the sum of the readings, then by number.
use Rattle.std.specs.Prelude.{ℕ, ◌+◌, max, Bool, ltb}
use Rattle.plan.specs.Links.{Plan, near_of, far_of}
use Rattle.plan.specs.Keys.{by_key}

-- Request 03: "A link's cost becomes the larger of its two readings."
abbrev pub cost_of : ℕ → ℕ → ℕ
cost_of near far = max near far

unfoldable pub cost : Plan → ℕ → ℕ
cost p k = cost_of (near_of p k) (far_of p k)

abbrev pub reading_sum : Plan → ℕ → ℕ
reading_sum p k = near_of p k + far_of p k

-- "Equal costs are ordered by the sum of the readings, then by link number."
abbrev pub among_equal : Plan → ℕ → ℕ → Bool
among_equal p = by_key (reading_sum p) ltb

-- Document 01: "Link a is earlier than b if its cost is less, or costs are equal and" .. what decides between these
unfoldable pub earlier : Plan → ℕ → ℕ → Bool
earlier p = by_key (cost p) (among_equal p)
