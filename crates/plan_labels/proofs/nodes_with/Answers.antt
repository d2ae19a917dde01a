-- plan_labels::nodes_with: the labels that are the same, counted, are the definition's sum, by `sum-front`.
use Rattle.std.proofs.Common.{eqb, get_or, rules, arith}
use Rattle.base.proofs.laws.Chains.{sum-front}
use Rattle.plan_labels.proofs.nodes_with.Goals as goal

pub returns : goal.returns
returns c = rw (sum-front (eqb (get_or c.args.parts.now c.args.u 0)) c.args.parts.now 0 c.args.n (omega arith)) (search rules)
