-- host_schedule::check: one law for each return.
use Rattle.std.proofs.Common.{arith}
use Rattle.host_schedule.specs.laws.Kinds.{short-is-51, version-is-52, wrong-length-is-53, uneven-is-53, of-kinds}
use Rattle.host_schedule.proofs.check.Goals as goal

pub returns-then-s-lt3 : goal.returns-then-s-lt3
returns-then-s-lt3 c = grind (arith, short-is-51)

pub returns-then-s-ne1 : goal.returns-then-s-ne1
returns-then-s-ne1 c = grind (arith, version-is-52)

pub returns-then-len-s : goal.returns-then-len-s
returns-then-len-s c = grind (arith, wrong-length-is-53, uneven-is-53)

pub returns : goal.returns
returns c = grind (arith, of-kinds)
