-- plan_file::write: that the links fit the array, by `taken-links`; the buffer, by `written-front`.
use Rattle.std.proofs.Common.{arith}
use Rattle.std.proofs.lemmas.Bool.Decides.{nat_tests}
use Rattle.refusal.proofs.laws.Number.{positive}
use Rattle.plan_file.specs.Writing.{write_refusal, write_plan}
use Rattle.plan_file.proofs.Stores.{taken-links, written-front}
use Rattle.plan_file.proofs.write.Goals as goal

pub returns-in_err-check : goal.returns-in_err-check
unfolding write_plan write_refusal
returns-in_err-check c = grind (arith, nat_tests, positive)

pub returns-then-out-links : goal.returns-then-out-links
unfolding write_plan write_refusal
returns-then-out-links c = grind (arith, nat_tests)

pub put_plan-requires : goal.put_plan-requires
put_plan-requires c = grind (arith, taken-links)

pub returns : goal.returns
unfolding write_plan write_refusal
returns c = grind (arith, nat_tests, written-front)
