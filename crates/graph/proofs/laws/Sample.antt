-- Samples, computed: the tree of a triangle (`tree-012`), the lowest nodes of a graph in three parts, in one, and of none (`lowest-banks`, `one-part`, `nobody`),
-- and how many nodes the parts have (`nodes-banks`).
use Rattle.std.specs.Prelude.{◌≡◌, refl, true, false, [], ◌∷◌, map, get_or, ltb}
use Rattle.graph.specs.Graph.{Graph}
use Rattle.graph.specs.Decide.{in_tree}
use Rattle.graph.specs.Parts.{lowests, part_nodes}

-- three nodes, edges 0-1, 0-2, 1-2, ordered by number: the tree is 0-1 and 0-2
triangle : Graph
triangle = record { L = 3; lo = λ e. get_or (0 ∷ 0 ∷ 1 ∷ []) e 0; hi = λ e. get_or (1 ∷ 2 ∷ 2 ∷ []) e 0 }

tree-012 : (in_tree triangle ltb 0 ∷ in_tree triangle ltb 1 ∷ in_tree triangle ltb 2 ∷ []) ≡ (true ∷ true ∷ false ∷ [])
unfolding triangle in_tree
tree-012 = refl

-- four nodes, edges 0-1 and 2-3: two parts; a fifth node is a part by itself
banks : Graph
banks = record { L = 2; lo = λ e. get_or (0 ∷ 2 ∷ []) e 0; hi = λ e. get_or (1 ∷ 3 ∷ []) e 0 }

lowest-banks : lowests banks 5 ≡ 0 ∷ 2 ∷ 4 ∷ []
unfolding banks lowests
lowest-banks = refl

one-part : lowests triangle 3 ≡ 0 ∷ []
unfolding triangle lowests
one-part = refl

-- the nodes in the parts of 1, 3 and 4
nodes-banks : map (part_nodes banks 5) (1 ∷ 3 ∷ 4 ∷ []) ≡ 2 ∷ 2 ∷ 1 ∷ []
unfolding banks part_nodes
nodes-banks = refl

nobody : lowests triangle 0 ≡ []
unfolding lowests
nobody = refl
