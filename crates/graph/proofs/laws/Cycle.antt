-- The tree has no cycle: no tree edge can be spared (`spare`, `needed`).
use Rattle.std.specs.Prelude.{ℕ, zero, suc, ◌<◌, ◌≡◌, ◌≢◌, ◌⊎◌}
use Rattle.std.proofs.Common.{arith, not-suc-le-zero, sym, ◌∙◌, inl, inr}
use Rattle.std.proofs.Math.Decide.{dec_lt, ℕ_discrete}
use Rattle.std.proofs.Math.Logic.{by_cases}
use Rattle.std.proofs.Math.Logic.Dec
use Rattle.base.proofs.laws.Cond.{by-eq}
use Rattle.base.proofs.laws.Search.{least, Least}
use Rattle.graph.specs.Graph.{Graph, Way}
use Rattle.graph.specs.Order.{Order, InTree}
use Rattle.graph.proofs.laws.Ways.{But, Uses, split, around, wider}
use Rattle.graph.proofs.laws.Rank.{rank_in, rank_in-inj, rank-bound, tree-rank}

-- e is a tree edge
module _ (g : Graph) (o : Order (g.L)) (e : ℕ) (le : e < g.L) (te : InTree g (o.earlier) e) where
  -- the other tree edges of rank below r
  abbrev Rest : ℕ → ℕ → Type 0
  Rest r f = But (InTree g (o.earlier)) e f × (rank_in o f < r)

  -- m would be the latest edge of the cycle that e and the way w make: the others, all earlier, join its ends
  latest : (r m : ℕ) → m < g.L → rank_in o m ≡ r → e ≢ m → Way g (Rest (suc r)) (g.lo e) (g.hi e) → ¬ Way g (Rest r) (g.lo e) (g.hi e) → ⊥
  latest r m lm q n w none = by_cases (dec_lt (rank_in o e) r) (λ l. closed l (split m w)) (λ l. tree-rank g o e le te (wider (λ f lf t. under f l t.1) w))
    where
      -- rank e is not r, as m is another edge
      under : (f : ℕ) → ¬ (rank_in o e < r) → rank_in o f < suc r → rank_in o f < rank_in o e
      under f l h = by-eq (rank_in o e) r (λ p. absurd (n (rank_in-inj o e m le lm (p ∙ sym q)))) (λ d. omega arith)

      lower : (f : ℕ) → f < g.L → But (Rest (suc r)) m f → Rest r f
      lower f lf t = (t.0.0, by-eq (rank_in o f) r (λ p. absurd (t.1 (rank_in-inj o m f lm lf (q ∙ sym p)))) (λ d. omega (arith, t.0.1)))

      closed : rank_in o e < r → Way g (But (Rest (suc r)) m) (g.lo e) (g.hi e) ⊎ Uses g (Rest (suc r)) m (g.lo e) (g.hi e) → ⊥
      closed l (inl x) = none (wider lower x)
      closed l (inr x) = tree-rank g o m lm (x.used).0.0 (around x le (omega arith) (λ f lf t. let h = lower f lf t in omega (arith, h.1)))

  -- by induction on the rank of the latest edge
  spare-to : (r : ℕ) → ¬ Way g (Rest r) (g.lo e) (g.hi e)
  spare-to zero w = te (wider (λ f l t. absurd (not-suc-le-zero t.1)) w)
  spare-to (suc r) w = cases (spare-to r) (least At (λ m. Dec.and (Dec.not (ℕ_discrete e m)) (ℕ_discrete (rank_in o m) r)) (g.L))
    where
      -- another edge of rank r
      At : ℕ → Type 0
      At m = (e ≢ m) × (rank_in o m ≡ r)

      cases : ¬ Way g (Rest r) (g.lo e) (g.hi e) → ((m : ℕ) → m < g.L → ¬ At m) ⊎ Least At (g.L) → ⊥
      cases none (inl no-m) = none (wider (λ f lf t. (t.0, by-eq (rank_in o f) r (λ p. absurd (no-m f lf (t.0.1, p))) (λ d. omega (arith, t.1)))) w)
      cases none (inr m) = latest r (m.at) (m.below) (m.holds).1 (m.holds).0 w none

  -- NO CYCLE: the other tree edges do not join the ends of e
  pub spare : ¬ Way g (But (InTree g (o.earlier)) e) (g.lo e) (g.hi e)
  spare w = spare-to (g.L) (wider (λ f l t. (t, rank-bound o f l)) w)

  -- tree edges that join the ends of e have e among them
  pub needed : (C : ℕ → Type 0) → ((f : ℕ) → f < g.L → C f → InTree g (o.earlier) f) → Way g C (g.lo e) (g.hi e) → C e
  needed C sub w = cases (split e w)
    where
      cases : Way g (But C e) (g.lo e) (g.hi e) ⊎ Uses g C e (g.lo e) (g.hi e) → C e
      cases (inl x) = absurd (spare (wider (λ f l t. (sub f l t.0, t.1)) x))
      cases (inr x) = x.used
