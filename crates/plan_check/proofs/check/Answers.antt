-- plan_check::check: from the clauses of what it calls, by the definitions.
use Rattle.std.proofs.Common.{arith}
use Rattle.std.proofs.lemmas.Bool.Decides.{nat_tests}
use Rattle.refusal.proofs.laws.Number.{positive}
use Rattle.plan.specs.Refusal.{plan_refusal}
use Rattle.plan_check.proofs.check.Goals as goal

pub returns-in_err-counts_check : goal.returns-in_err-counts_check
unfolding plan_refusal
returns-in_err-counts_check c = grind (arith, nat_tests, positive)

pub returns : goal.returns
unfolding plan_refusal
returns c = grind (arith, nat_tests)
