-- plan_tree::join_all: the picks of the first parts are taken (`TakesTo`), the next by `takes-next`.
use Rattle.plan.specs.Links.{graph_of}
use Rattle.plan_tree.specs.Lent.{TakesTo}
use Rattle.plan_tree.proofs.join_all.Given as goal

abbrev pub invariant-loop-k : goal.invariant-loop-k
invariant-loop-k l = TakesTo l.k-index (graph_of l.plan) l.best l.initial.label l.initial.out l.label l.out
