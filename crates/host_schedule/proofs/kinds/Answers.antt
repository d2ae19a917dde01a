-- host_schedule::kinds: a kind that is not listed gives 54 by `kinds-bad`, else it is `kinds-fine`.
use Rattle.std.proofs.Common.{arith}
use Rattle.host_schedule.specs.laws.Kinds.{kinds-bad, kinds-fine}
use Rattle.host_schedule.proofs.kinds.Goals as goal

pub returns-in_err-try_from : goal.returns-in_err-try_from
returns-in_err-try_from c = grind (arith, kinds-bad)

pub returns : goal.returns
returns c = kinds-fine _ _ (λ k l. c.loop-i.invariant k (omega arith))
