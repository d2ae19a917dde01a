-- A plan read into lent memory, and a link's cost for any number.
use Rattle.std.specs.Prelude.{ℕ, cond, List, leb}
use Rattle.base.specs.Limits.{max_links}
use Rattle.base.specs.Loop.{After, answering}
use Rattle.base.specs.None.{none}
use Rattle.plan.specs.Links.{Plan, links_of}
use Rattle.plan.specs.Weights.{cost}
use Rattle.plan_file.specs.Reading.{read_plan}

-- what `read_plan` gives, and "a refused call alters no .. lent byte or word": the plan that was there
unfoldable pub plan_into : List ℕ → Plan → After Plan
plan_into s old = answering (read_plan s).refusal old (read_plan s).plan

-- none for a number that is no link; no cost of a plan that is taken is as large
unfoldable pub cost_or_none : Plan → ℕ → ℕ
cost_or_none p k = cond (leb (links_of p) k) none (cond (leb max_links k) none (cost p k))
