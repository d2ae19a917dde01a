-- The central tree: what the builder answers and writes.
use Rattle.std.specs.Prelude.{ℕ, Bool, not, List, length, eqb}
use Rattle.base.specs.Cond.{bit}
use Rattle.base.specs.Loop.{After, answering}
use Rattle.base.specs.Refuse.{or_else, first_refusal}
use Rattle.base.specs.Table.{tabulate}
use Rattle.graph.specs.Decide.{in_tree}
use Rattle.plan.specs.Links.{graph_of, Plan, links_of}
use Rattle.plan.specs.Weights.{earlier}
use Rattle.plan.specs.Refusal.{plan_refusal}

-- "A link is a tree link exactly if no other way between its ends, over the plan's links, uses only earlier links."
-- (`in_tree` decides that rule, the graph crate's `InTree`)
abbrev pub tree_link : Plan → ℕ → Bool
tree_link p k = in_tree (graph_of p) (earlier p) k

-- "The central builder writes L bytes, 1 for a tree link and 0 otherwise."
unfoldable pub tree_bytes : Plan → List ℕ
unfolding tabulate in_tree
tree_bytes p = tabulate (links_of p) (λ k. bit (tree_link p k))

-- the plan's refusals 14 to 18, then "20 tree buffer not L bytes"
unfoldable pub tree_refusal : Plan → List ℕ → ℕ
unfolding plan_refusal
tree_refusal p out = first_refusal (plan_refusal p) (or_else (not (eqb (length out) (links_of p))) 20 0)

-- the answer, and what the lent buffer holds then: a refused call alters no byte
unfoldable pub central_tree : Plan → List ℕ → After (List ℕ)
unfolding tree_refusal tree_bytes
central_tree p out = answering (tree_refusal p out) out (tree_bytes p)
