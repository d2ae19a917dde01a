-- Paths: ways on which no node comes twice. The edges and the nodes of a way, in order.
use Rattle.std.specs.Prelude.{ℕ, List, [], ◌∷◌}
use Rattle.base.specs.Twice.{NoTwice}
use Rattle.graph.specs.Graph.{Graph, Way, stop, go}

module _ {g : Graph} {S : ℕ → Type 0} where
  abbrev pub edges_of : {u v : ℕ} → Way g S u v → List ℕ
  edges_of stop = []
  edges_of (go e j s w) = e ∷ edges_of w

  -- the nodes that it comes to, the first one too
  abbrev pub nodes_of : {u v : ℕ} → Way g S u v → List ℕ
  nodes_of {u} stop = u ∷ []
  nodes_of {u} (go e j s w) = u ∷ nodes_of w

pub record Path (g : Graph) (S : ℕ → Type 0) (u v : ℕ) : Type 0 where
  pub way : Way g S u v
  pub simple : NoTwice (nodes_of way)

-- the last of a list, x where it is empty
unfoldable pub last_or : ℕ → List ℕ → ℕ
last_or x [] = x
last_or x (y ∷ l) = last_or y l
