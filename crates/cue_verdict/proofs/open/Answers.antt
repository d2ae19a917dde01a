-- cue_verdict::open: from the clauses of what it calls, by the definitions.
use Rattle.std.proofs.Common.{arith}
use Rattle.std.proofs.lemmas.Bool.Decides.{nat_tests}
use Rattle.refusal.proofs.laws.Number.{positive}
use Rattle.cue_verdict.specs.Verdict.{opening}
use Rattle.cue_verdict.proofs.open.Goals as goal

pub returns-in_err-refusal : goal.returns-in_err-refusal
unfolding opening
returns-in_err-refusal c = grind (arith, nat_tests, positive)

pub returns : goal.returns
unfolding opening
returns c = grind (arith, nat_tests, positive)
