-- plan_labels::relabel: the first labels are renamed and the others as they were, by `fill-turn`.
use Rattle.std.proofs.Common.{◌≡◌, get_or}
use Rattle.base.specs.Limits.{max_modules}
use Rattle.base.specs.Table.{tabulate, upto}
use Rattle.graph.specs.Labels.{rename}
use Rattle.plan_labels.proofs.relabel.Given as goal

abbrev pub invariant-loop-x : goal.invariant-loop-x
invariant-loop-x l = l.parts ≡ tabulate max_modules (upto l.x-index (λ k. rename l.from l.to (get_or l.initial.parts k 0)) (λ k. get_or l.initial.parts k 0))
