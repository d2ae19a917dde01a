-- plan::cost: the definition's `cost_of` of the readings that `near` and `far` answer.
use mathlib.Core.Path.{◌∙◌, ap₂}
use Rattle.plan.specs.Weights.{cost_of, cost}
use Rattle.plan.proofs.cost.Goals as goal

pub returns : goal.returns
unfolding cost
returns c = let e = c.before in c.cost_of.ensures ∙ ap₂ cost_of e.near.ensures e.far.ensures
