-- plan_file::head_check: from the clauses of what it calls, by the definitions.
use Rattle.std.proofs.Common.{arith}
use Rattle.std.proofs.lemmas.Bool.Decides.{nat_tests}
use Rattle.plan_file.specs.Reading.{head_verdict}
use Rattle.plan_file.proofs.head_check.Goals as goal

pub returns-then-s-lt3 : goal.returns-then-s-lt3
unfolding head_verdict
returns-then-s-lt3 c = grind (arith, nat_tests)

pub returns-then-s-ne1 : goal.returns-then-s-ne1
unfolding head_verdict
returns-then-s-ne1 c = grind (arith, nat_tests)

pub returns-then-len-s : goal.returns-then-len-s
unfolding head_verdict
returns-then-len-s c = grind (arith, nat_tests)

pub returns : goal.returns
unfolding head_verdict
returns c = grind (arith, nat_tests)
