-- plan_check::in_order: the first link by the definition, another by the order of pairs (`in-order-after`).
use Rattle.std.proofs.Common.{◌∙◌}
use Rattle.plan.specs.Refusal.{in_order}
use Rattle.plan_check.proofs.Verdict.{in-order-after}
use Rattle.plan_check.proofs.in_order.Goals as goal

pub returns-then-k-eq0 : goal.returns-then-k-eq0
unfolding in_order
returns-then-k-eq0 c = rw c.if-k-eq0.true

pub returns-else-k-eq0 : goal.returns-else-k-eq0
returns-else-k-eq0 c = c.lt.ensures ∙ in-order-after _ _ c.if-k-eq0.false c.ends.ensures c.ends-else-k-eq0.ensures
