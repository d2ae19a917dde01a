-- plan_labels::number: the first v labels are their own numbers, by `fill-turn`.
use Rattle.std.proofs.Common.{◌≡◌, get_or}
use Rattle.base.specs.Limits.{max_modules}
use Rattle.base.specs.Table.{tabulate, upto}
use Rattle.plan_labels.proofs.number.Given as goal

abbrev pub invariant-loop-v : goal.invariant-loop-v
invariant-loop-v l = l.parts ≡ tabulate max_modules (upto l.v (λ k. k) (λ k. get_or l.initial.parts k 0))
