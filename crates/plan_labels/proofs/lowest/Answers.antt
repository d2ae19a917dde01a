-- plan_labels::lowest: that no label before v's is the same, by `none-is`, of all nodes below v, by `every-front`.
use Rattle.std.proofs.Common.{eqb, not, ap, ◌∙◌, get_or, take, arith}
use Rattle.base.proofs.laws.Chains.{every-front, none-is}
use Rattle.plan_labels.proofs.lowest.Goals as goal

pub returns : goal.returns
returns c =
    let parts = c.args.parts.now in
    let x = get_or parts c.args.v 0 in
    rw (every-front (λ y. not (eqb y x)) parts 0 c.args.v (omega arith)) (ap not c.contains.ensures.value ∙ none-is (λ y. eqb y x) (take c.args.v parts))
