-- The total cost of a set of edges; sets that span.
use Rattle.std.specs.Prelude.{ℕ, Bool, cond}
use Rattle.base.specs.Sum.{sum}
use Rattle.graph.specs.Graph.{Graph, Joins, Way}
use Rattle.graph.specs.Decide.{Set}

-- the total cost of a set of edges
unfoldable pub total_cost : Graph → (ℕ → ℕ) → (ℕ → Bool) → ℕ
total_cost g cost s = sum (g.L) (λ e. cond (s e) (cost e) 0)

-- the set joins what the edges join
abbrev pub Spanning : Graph → (ℕ → Bool) → Type 0
Spanning g s = (e u v : ℕ) → Joins g e u v → Way g (Set s) u v
