-- cue_verdict::start::refusal: from the clauses of what it calls, by the definitions.
use Rattle.std.proofs.Common.{arith}
use Rattle.std.proofs.lemmas.Bool.Decides.{nat_tests}
use Rattle.refusal.proofs.laws.Number.{positive}
use Rattle.cue.specs.Calls.{start_refusal}
use Rattle.cue_verdict.proofs.start.refusal.Goals as goal

pub returns-in_err-of_field : goal.returns-in_err-of_field
unfolding start_refusal
returns-in_err-of_field c = grind (arith, nat_tests, positive)

pub returns-then-n-sender : goal.returns-then-n-sender
unfolding start_refusal
returns-then-n-sender c = grind (arith, nat_tests, positive)

pub returns-then-lent-n : goal.returns-then-lent-n
unfolding start_refusal
returns-then-lent-n c = grind (arith, nat_tests, positive)

pub returns : goal.returns
unfolding start_refusal
returns c = grind (arith, nat_tests, positive)
