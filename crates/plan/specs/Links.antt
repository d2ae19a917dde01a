-- A plan value and its links, as a graph.
use Rattle.std.specs.Prelude.{ℕ, ◌+◌, ◌*◌, List, get_or, replicate}
use Rattle.base.specs.Limits.{max_links}
use Rattle.graph.specs.Graph.{Graph}

-- The numbers of a plan in file order: "N; L; for each link lower module, higher module, reading at the lower, reading at the higher"
abbrev pub Plan : Type 0
Plan = List ℕ

-- how many numbers that are
abbrev pub plan_numbers : ℕ → ℕ
plan_numbers links = 2 + 4 * links

-- the most: an array for any plan has as many
abbrev pub plan_size : ℕ
plan_size = plan_numbers max_links

-- the plan of zeros: one with nobody in it (request 04), and what stands beside a refusal
abbrev pub blank : Plan
blank = replicate plan_size 0

abbrev pub modules_of : Plan → ℕ
modules_of p = get_or p 0 0

abbrev pub links_of : Plan → ℕ
links_of p = get_or p 1 0

abbrev pub lower_of : Plan → ℕ → ℕ
lower_of p k = get_or p (2 + 4 * k) 0

abbrev pub higher_of : Plan → ℕ → ℕ
higher_of p k = get_or p (3 + 4 * k) 0

abbrev pub near_of : Plan → ℕ → ℕ
near_of p k = get_or p (4 + 4 * k) 0

abbrev pub far_of : Plan → ℕ → ℕ
far_of p k = get_or p (5 + 4 * k) 0

-- modules are the nodes, links the edges
abbrev pub graph_of : Plan → Graph
graph_of p = record { L = links_of p; lo = lower_of p; hi = higher_of p }
