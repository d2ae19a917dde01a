-- The sum, turn by turn.
use Rattle.std.specs.Prelude.{ℕ, ◌+◌, ◌*◌, ◌≡◌, ◌≢◌, List, get_or}
use Rattle.std.proofs.Common.{add-one, eq-eqb, ne_eqb}
use Rattle.plan.specs.Weights.{cost}
use Rattle.plan.specs.Links.{Plan}
use Rattle.node.specs.Work.{BRANCH}
use Rattle.text_report.specs.Total.{total}

-- one link further
module _ (p : Plan) (marks : List ℕ) (k : ℕ) where
  pub total-branch : get_or marks (2 * k) 0 ≡ BRANCH → total p marks (k + 1) ≡ total p marks k + cost p k
  unfolding total
  total-branch h = rw (add-one k) (simp (eq-eqb _ _ h))

  pub total-other : get_or marks (2 * k) 0 ≢ BRANCH → total p marks (k + 1) ≡ total p marks k
  unfolding total
  total-other h = rw (add-one k) (simp (ne_eqb _ _ h))
