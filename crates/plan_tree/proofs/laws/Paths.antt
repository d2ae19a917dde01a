-- The tree's links as edges of the plan's graph: none can be spared (`tree-spare`), they join each part's modules (`tree-spans`), and each leads to a module
-- (`link-inside`). So there is a tree path between any two modules of a part (`tree-path`).
use Rattle.std.specs.Prelude.{ℕ, ◌<◌, ◌≡◌, true}
use Rattle.std.proofs.Common.{arith}
use Rattle.graph.specs.Graph.{Joins, up, down, Way}
use Rattle.graph.specs.Decide.{Set}
use Rattle.graph.specs.Parts.{SamePart}
use Rattle.graph.proofs.laws.Ways.{But, wider, through}
use Rattle.graph.proofs.laws.Decide.{in_tree-tree}
use Rattle.graph.proofs.laws.Path.{path-of}
use Rattle.graph.proofs.laws.Cycle.{spare}
use Rattle.graph.proofs.laws.Least.{tree-spanning}
use Rattle.plan.specs.Links.{graph_of, Plan, links_of, modules_of, lower_of, higher_of}
use Rattle.plan.specs.Weights.{earlier}
use Rattle.plan.proofs.laws.Weights.{order_of}
use Rattle.plan.proofs.laws.Accepted.{Accepted}
use Rattle.plan_tree.specs.Tree.{tree_link}
use Rattle.plan_tree.specs.Claim.{TreePath}

module _ (p : Plan) where
  -- without one of them the others do not join its ends
  pub tree-spare : (k : ℕ) → k < links_of p → tree_link p k ≡ true → ¬ Way (graph_of p) (But (Set (tree_link p)) k) (lower_of p k) (higher_of p k)
  tree-spare k l t w =
      spare (graph_of p) (order_of p) k l (in_tree-tree (graph_of p) (earlier p) k t) (wider (λ f m x. (in_tree-tree (graph_of p) (earlier p) f x.0, x.1)) w)

  pub tree-spans : {u v : ℕ} → SamePart (graph_of p) u v → Way (graph_of p) (Set (tree_link p)) u v
  tree-spans w = through (λ e x y j s. tree-spanning (graph_of p) (order_of p) e x y j) w

  pub tree-path : {u v : ℕ} → SamePart (graph_of p) u v → TreePath p u v
  tree-path w = path-of (tree-spans w)

  pub link-inside : Accepted p → (k u v : ℕ) → Joins (graph_of p) k u v → v < modules_of p
  link-inside a k u v (up l e f) = omega (arith, (a.each k l).inside)
  link-inside a k u v (down l e f) = omega (arith, (a.each k l).ordered, (a.each k l).inside)
