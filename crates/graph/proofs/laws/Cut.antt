-- THE CUT PROPERTY: the earliest edge that leaves a set of nodes is in the tree (`cut`, `cut-rank`).
use Rattle.std.specs.Prelude.{ℕ, ◌≤◌, ◌≡◌, ◌≢◌, Bool, true, false}
use Rattle.std.proofs.Common.{arith, sym, ◌∙◌, true≢false}
use Rattle.graph.specs.Graph.{Graph, Joins}
use Rattle.graph.specs.Order.{Order, InTree}
use Rattle.graph.proofs.laws.Ways.{way-as-met, cross, here}
use Rattle.graph.proofs.laws.Rank.{rank_in, rank-tree}

-- edge e leaves X, and no edge that leaves X is earlier
pub cut : (g : Graph) (earlier : ℕ → ℕ → Bool) (X : ℕ → Bool) (e a b : ℕ) → Joins g e a b → X a ≡ true → X b ≡ false
    → ((f c d : ℕ) → Joins g f c d → X c ≡ true → X d ≡ false → earlier f e ≡ false) → InTree g earlier e
cut g earlier X e a b j xa xb first w =
    let c = cross X (way-as-met j w) xa xb in
    true≢false (sym (c.used) ∙ first (c.edge) (c.from) (c.to) (c.joins) (c.inside) (c.outside))

-- the same by ranks
pub cut-rank : (g : Graph) (o : Order (g.L)) (X : ℕ → Bool) (e a b : ℕ) → Joins g e a b → X a ≡ true → X b ≡ false
    → ((f c d : ℕ) → Joins g f c d → X c ≡ true → X d ≡ false → rank_in o e ≤ rank_in o f) → InTree g (o.earlier) e
cut-rank g o X e a b j xa xb first = rank-tree g o e (λ w.
    let c = cross X (way-as-met j w) xa xb in
    omega (arith, c.used, first (c.edge) (c.from) (c.to) (c.joins) (c.inside) (c.outside)))

-- a loop is never in the tree
pub tree-ends : (g : Graph) (earlier : ℕ → ℕ → Bool) (e : ℕ) → InTree g earlier e → g.lo e ≢ g.hi e
tree-ends g earlier e t q = t (here q)
