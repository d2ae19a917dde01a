-- plan::earlier: three numbers in a row are compared, by `row-earlier`.
use Rattle.std.proofs.Common.{◌∙◌}
use Rattle.plan.proofs.Order.{row-earlier}
use Rattle.plan.proofs.earlier.Goals as goal

pub returns : goal.returns
returns c = c.lt.ensures ∙ row-earlier _ _ _ _ _ _ _ c.cost.ensures c.cost-2.ensures c.reading_sum.ensures c.reading_sum-2.ensures
