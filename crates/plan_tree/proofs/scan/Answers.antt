use Rattle.std.proofs.Common.{arith}
use Rattle.plan.specs.Links.{graph_of}
use Rattle.plan_tree.specs.laws.Phase.{apart-most}
use Rattle.plan_tree.specs.Lent.{at}
use Rattle.plan_tree.proofs.scan.Goals as goal

pub overflow_add-found : goal.overflow_add-found
overflow_add-found c = omega (arith, apart-most (graph_of c.args.plan.now) (at c.args.label.now) c.loop-k.k)
