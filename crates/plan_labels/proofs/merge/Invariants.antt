-- plan_labels::merge: after k links the labels are the graph's `label` of the first k links, by `merge-turn`.
use Rattle.std.proofs.Common.{◌≡◌}
use Rattle.base.specs.Limits.{max_modules}
use Rattle.base.specs.Table.{tabulate}
use Rattle.graph.specs.Decide.{label}
use Rattle.plan.specs.Links.{graph_of}
use Rattle.plan_labels.proofs.Lemmas.{all}
use Rattle.plan_labels.proofs.merge.Given as goal

abbrev pub invariant-loop-k : goal.invariant-loop-k
invariant-loop-k l = l.parts ≡ tabulate max_modules (label (graph_of l.plan) all l.k)
