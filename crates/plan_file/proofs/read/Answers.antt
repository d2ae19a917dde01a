-- plan_file::read: from the clauses of what it calls, by the definitions.
use Rattle.std.proofs.Common.{arith}
use Rattle.std.proofs.lemmas.Bool.Decides.{nat_tests}
use Rattle.refusal.proofs.laws.Number.{positive}
use Rattle.plan_file.specs.Reading.{read_plan}
use Rattle.plan_file.proofs.read.Goals as goal

pub returns-in_err-load : goal.returns-in_err-load
unfolding read_plan
returns-in_err-load c = grind (arith, nat_tests, positive)

pub returns : goal.returns
unfolding read_plan
returns c = grind (arith, nat_tests)
