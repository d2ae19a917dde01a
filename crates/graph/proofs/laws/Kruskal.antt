-- The tree edge by edge, from the earliest on: with labels by the earlier edges, an edge is in the tree exactly if its ends' labels differ
-- (`tree-labels`, `differ-tree`, `tree-differ`).
use Rattle.std.specs.Prelude.{ℕ, ◌≡◌, ◌≢◌, Bool, not, eqb}
use Rattle.base.proofs.laws.Cond.{bool_cases, eqb-cases}
use Rattle.graph.specs.Graph.{Graph}
use Rattle.graph.specs.Order.{Earlier, InTree}
use Rattle.graph.proofs.laws.Labels.{Labels, labels-way}
use Rattle.graph.specs.Decide.{in_tree}
use Rattle.graph.proofs.laws.Decide.{in_tree-tree, tree-in_tree}

module _ (g : Graph) (earlier : ℕ → ℕ → Bool) (D : ℕ → Type 0) (fr : ℕ → ℕ) (e : ℕ) (l : Labels g D (Earlier earlier e) fr) where
  pub differ-tree : fr (g.lo e) ≢ fr (g.hi e) → InTree g earlier e
  differ-tree n w = n (labels-way l w)

  pub tree-differ : D (g.lo e) → D (g.hi e) → InTree g earlier e → fr (g.lo e) ≢ fr (g.hi e)
  tree-differ du dv t q = t (l.sound (g.lo e) (g.hi e) du dv q)

  -- as an equation
  pub tree-labels : D (g.lo e) → D (g.hi e) → in_tree g earlier e ≡ not (eqb (fr (g.lo e)) (fr (g.hi e)))
  tree-labels du dv = eqb-cases (fr (g.lo e)) (fr (g.hi e)) (λ b. in_tree g earlier e ≡ not b)
      (λ q. bool_cases (in_tree g earlier e) (λ t. absurd (tree-differ du dv (in_tree-tree g earlier e t) q)) (λ f. f))
      (λ n. tree-in_tree g earlier e (differ-tree n))
