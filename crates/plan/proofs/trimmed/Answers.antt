-- plan::trimmed: the numbers past the links became zero, by `zeroed`.
use Rattle.std.proofs.Common.{arith}
use Rattle.plan.proofs.laws.Trimmed.{zeroed}
use Rattle.plan.specs.Trimmed.{trimmed}
use Rattle.plan.proofs.trimmed.Goals as goal

pub returns : goal.returns
unfolding trimmed
returns c = rw (c.fill.ensures.after (λ y e. e), c.links.ensures) (zeroed c.args.p.now _ c.told-p (omega arith))
