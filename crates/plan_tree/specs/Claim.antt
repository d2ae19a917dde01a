-- What is claimed of the tree that the central builder writes (`TreeClaim`), in document 01's words; cost and order of the links are request 03's. The tree's paths.
use Rattle.std.specs.Prelude.{ℕ, ◌≤◌, ◌<◌, ◌≡◌, ◌≢◌, Bool, List, length, get_or, eqb}
use Rattle.graph.specs.Graph.{Way}
use Rattle.graph.specs.Order.{InTree}
use Rattle.graph.specs.Decide.{Set}
use Rattle.graph.specs.Path.{Path}
use Rattle.graph.specs.Least.{total_cost}
use Rattle.graph.specs.Parts.{SamePart}
use Rattle.plan.specs.Links.{graph_of, Plan, modules_of, links_of, lower_of, higher_of}
use Rattle.plan.specs.Weights.{cost, reading_sum, earlier}
use Rattle.plan_tree.specs.Tree.{tree_link, central_tree}

-- the set of links that the bytes mark
abbrev pub chosen_by : List ℕ → ℕ → Bool
chosen_by bytes k = eqb (get_or bytes k 0) 1

-- the total of a set of links: of their costs, or of their readings
abbrev pub total_of : Plan → (ℕ → ℕ) → (ℕ → Bool) → ℕ
total_of p = total_cost (graph_of p)

-- the tree's path between two modules: a way over tree links on which no module comes twice
abbrev pub TreePath : Plan → ℕ → ℕ → Type 0
TreePath p u v = Path (graph_of p) (Set (tree_link p)) u v

-- "the sets of links that join each part's modules" (request 08)
abbrev pub JoinsParts : Plan → (ℕ → Bool) → Type 0
JoinsParts p s = (u v : ℕ) → u < modules_of p → v < modules_of p → SamePart (graph_of p) u v → Way (graph_of p) (Set s) u v

pub record TreeOf (p : Plan) (bytes : List ℕ) : Type 0 where
  -- "writes L bytes, 1 for a tree link and 0 otherwise"
  pub size : length bytes ≡ links_of p
  pub tree : (k : ℕ) → k < links_of p → InTree (graph_of p) (earlier p) k → get_or bytes k 0 ≡ 1
  pub others : (k : ℕ) → k < links_of p → ¬ InTree (graph_of p) (earlier p) k → get_or bytes k 0 ≡ 0
  -- "The tree is proved spanning": of each part, since "the path rule then gives a forest" (request 08)
  pub spanning : JoinsParts p (chosen_by bytes)
  -- "and without a cycle": without one of its links the others do not join its ends
  pub acyclic : (k : ℕ) → k < links_of p → Set (chosen_by bytes) k
      → ¬ Way (graph_of p) (λ j. Set (chosen_by bytes) j × (k ≢ j)) (lower_of p k) (higher_of p k)
  -- "and no set of links joining all modules has a smaller total cost": "judged among the sets of links that join each part's modules" (request 08)
  pub least : (s : ℕ → Bool) → JoinsParts p s → total_of p (cost p) (chosen_by bytes) ≤ total_of p (cost p) s
  -- "judged by this order" (request 03): nor, at the same total cost, a smaller sum of readings
  pub least_sum : (s : ℕ → Bool) → JoinsParts p s → total_of p (cost p) s ≡ total_of p (cost p) (chosen_by bytes)
      → total_of p (reading_sum p) (chosen_by bytes) ≤ total_of p (reading_sum p) s

-- of every plan value that is taken, with a buffer of L bytes
abbrev pub TreeClaim : Type 0
TreeClaim = (p : Plan) (out : List ℕ) → (central_tree p out).refusal ≡ 0 → TreeOf p (central_tree p out).state
