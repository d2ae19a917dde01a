-- plan::floor_log2: 0 by the definition, else 31 less the leading zeros, by `leading`.
use native.Mathlib.Omega.{arith}
use Rattle.base.specs.Log.{log2}
use Rattle.base.proofs.laws.Log.{leading}
use Rattle.plan.proofs.floor_log2.Goals as goal

pub returns-then-n-eq0 : goal.returns-then-n-eq0
unfolding log2
returns-then-n-eq0 c = rw c.if-n-eq0.true

pub overflow_sub-result : goal.overflow_sub-result
overflow_sub-result c = omega (arith, (leading c.args.n c.if-n-eq0.false (omega arith)).0)

pub returns : goal.returns
returns c = (leading c.args.n c.if-n-eq0.false (omega arith)).1
