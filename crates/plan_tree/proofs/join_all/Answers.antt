use Rattle.std.proofs.Common.{arith}
use Rattle.plan.specs.Links.{graph_of}
use Rattle.plan_tree.proofs.Joins.{takes-next}
use Rattle.plan_tree.proofs.join_all.Goals as goal

pub loop-k-preserved : goal.loop-k-preserved
loop-k-preserved c =
    takes-next (graph_of c.args.plan.now) c.args.best.now _ _ c.loop-k.label c.loop-k.out _ _ c.loop-k.k-index c.requires.0.ends c.requires.1 (omega arith) c.loop-k.invariant c.join_pick.ensures
