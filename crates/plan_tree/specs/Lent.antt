-- The lent arrays as tables, and what the builder's functions ask of them.
use Rattle.std.specs.Prelude.{ℕ, ◌≤◌, ◌<◌, ◌≡◌, ◌≢◌, Bool, List, length, get_or}
use Rattle.base.specs.None.{none}
use Rattle.base.specs.Limits.{max_modules, max_links}
use Rattle.graph.specs.Graph.{Graph}
use Rattle.plan.specs.Links.{Plan, links_of, graph_of}
use Rattle.plan.specs.Weights.{earlier}
use Rattle.plan_tree.specs.laws.Forest.{Ends, Inside, Forest, Grows}
use Rattle.plan_tree.specs.laws.Phase.{Leaves, First, Pick, apart}

abbrev pub at : List ℕ → ℕ → ℕ
at l k = get_or l k 0

-- a label for each node, each the number of a node
pub record LabelsFit (label : List ℕ) : Type 0 where
  pub size : length label ≡ max_modules
  pub range : (v : ℕ) → v < max_modules → at label v < max_modules

-- a plan whose links end at nodes, and a byte for each link
pub record Fit (p : Plan) (label out : List ℕ) : Type 0 where
  pub few : links_of p ≤ max_links
  pub ends : Ends (graph_of p)
  pub size : length out ≡ links_of p
  pub parts : LabelsFit label

-- the pick k is joined, if it is not none
pub record Takes (g : Graph) (k : ℕ) (label out label' out' : List ℕ) : Type 0 where
  pub parts : LabelsFit label'
  pub grows : Grows g (λ earlier. Pick g earlier k) (at label) (at out) (at label') (at out')
  pub closes : k ≢ none → Inside g (at label') k

-- the picks of the parts below n are joined
pub record TakesTo (n : ℕ) (g : Graph) (best label out label' out' : List ℕ) : Type 0 where
  pub parts : LabelsFit label'
  pub grows : Grows g (λ earlier. (a : ℕ) → a < max_modules → Pick g earlier (at best a)) (at label) (at out) (at label') (at out')
  pub closes : (a : ℕ) → a < n → at best a ≢ none → Inside g (at label') (at best a)

-- one phase, which found r edges between different parts
pub record Phased (g : Graph) (earlier : ℕ → ℕ → Bool) (label label' out' : List ℕ) (r : ℕ) : Type 0 where
  pub parts : LabelsFit label'
  pub forest : Forest g earlier (at label') (at out')
  pub over : r ≡ 0 → (k : ℕ) → k < g.L → Inside g (at label') k
  pub fewer : r ≢ 0 → apart g (at label') < apart g (at label)

-- best has, for each part, the earliest of the first m edges that leave it
pub record Firsts (p : Plan) (label : List ℕ) (m : ℕ) (best : List ℕ) : Type 0 where
  pub size : length best ≡ max_modules
  pub first : (a : ℕ) → a < max_modules → First (Leaves (graph_of p) (at label) a) (earlier p) m (at best a)
