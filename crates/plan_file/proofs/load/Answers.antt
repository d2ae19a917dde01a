-- plan_file::load: refused at the head, or the plan is read and its check answers.
use Rattle.std.proofs.Common.{arith}
use Rattle.std.proofs.lemmas.Bool.Decides.{nat_tests}
use Rattle.refusal.proofs.laws.Number.{positive}
use Rattle.plan_file.specs.Reading.{read_refusal}
use Rattle.plan_file.specs.laws.Head.{head_ok}
use Rattle.plan_file.proofs.load.Goals as goal

pub returns-in_err-head_check : goal.returns-in_err-head_check
unfolding read_refusal
returns-in_err-head_check c = grind (arith, nat_tests, positive)

pub fill-requires : goal.fill-requires
fill-requires c = grind (arith, head_ok)

pub returns : goal.returns
unfolding read_refusal
returns c = grind (arith, nat_tests)
