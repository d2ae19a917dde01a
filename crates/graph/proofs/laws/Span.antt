-- The tree spans: tree edges join whatever edges join, and none of them is later than the edges that they replace (`spans-edge`, `spans`).
use Rattle.std.specs.Prelude.{ℕ, ◌≤◌, ◌<◌, ◌≡◌, ◌⊎◌, true}
use Rattle.std.proofs.Common.{arith, inl, inr}
use Rattle.base.proofs.laws.Search.{by-measure}
use Rattle.graph.specs.Graph.{Graph, Joins, Way}
use Rattle.graph.specs.Order.{Order, Earlier, InTree}
use Rattle.graph.proofs.laws.Ways.{edge-way, wider, through, way-as-met, joins-lt}
use Rattle.graph.proofs.laws.Rank.{rank_in, rank_in-lt}
use Rattle.graph.proofs.laws.Decide.{way-or-tree}

module _ (g : Graph) (o : Order (g.L)) where
  -- tree edges of rank at most r
  abbrev pub TreeTo : ℕ → ℕ → Type 0
  TreeTo r f = InTree g (o.earlier) f × (rank_in o f ≤ r)

  pub spans-edge : (e u v : ℕ) → Joins g e u v → Way g (TreeTo (rank_in o e)) u v
  spans-edge = by-measure (λ e. (u v : ℕ) → Joins g e u v → Way g (TreeTo (rank_in o e)) u v) (rank_in o) step
    where
      step : (e : ℕ) → ((f : ℕ) → rank_in o f < rank_in o e → (a b : ℕ) → Joins g f a b → Way g (TreeTo (rank_in o f)) a b) → (u v : ℕ) → Joins g e u v → Way g (TreeTo (rank_in o e)) u v
      step e before u v j = cases (way-or-tree g (o.earlier) e)
        where
          lift : (f a b : ℕ) → Joins g f a b → o.earlier f e ≡ true → Way g (TreeTo (rank_in o e)) a b
          lift f a b k h = let l = rank_in-lt o f e (joins-lt k) h in wider (λ x lx t. (t.0, omega (arith, t.1))) (before f l a b k)

          cases : Way g (Earlier (o.earlier) e) (g.lo e) (g.hi e) ⊎ InTree g (o.earlier) e → Way g (TreeTo (rank_in o e)) u v
          cases (inl w) = way-as-met j (through lift w)
          cases (inr t) = edge-way j (t, omega arith)

  -- a way over tree edges only
  pub spans : {S : ℕ → Type 0} {u v : ℕ} → Way g S u v → Way g (InTree g (o.earlier)) u v
  spans w = through (λ e a b j s. wider (λ f l t. t.0) (spans-edge e a b j)) w
