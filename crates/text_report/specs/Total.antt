-- What the report sums.
use Rattle.std.specs.Prelude.{ℕ, zero, suc, ◌+◌, ◌*◌, cond, List, get_or, eqb}
use Rattle.plan.specs.Weights.{cost}
use Rattle.plan.specs.Links.{Plan}
use Rattle.node.specs.Work.{BRANCH}

-- "total sums costs": of the links below k that are branch at their lower end
unfoldable pub total : Plan → List ℕ → ℕ → ℕ
total p marks zero = 0
total p marks (suc k) = cond (eqb (get_or marks (2 * k) 0) BRANCH) (total p marks k + cost p k) (total p marks k)
