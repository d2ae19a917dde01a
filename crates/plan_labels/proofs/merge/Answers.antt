use Rattle.std.proofs.Common.{add-one, ◌∙◌, arith}
use Rattle.base.specs.Limits.{max_modules}
use Rattle.graph.specs.Decide.{label}
use Rattle.plan_labels.proofs.Lemmas.{merge-turn}
use Rattle.plan_labels.proofs.merge.Goals as goal

pub loop-k-init : goal.loop-k-init
unfolding label
loop-k-init c = c.number.ensures

pub loop-k-preserved : goal.loop-k-preserved
loop-k-preserved c =
    let e = c.requires.2 c.loop-k.k (omega arith) in
    rw add-one (c.join.ensures ∙ merge-turn _ _ max_modules _ _ _ c.loop-k.invariant c.lower.ensures c.higher.ensures (omega arith) (omega arith))
