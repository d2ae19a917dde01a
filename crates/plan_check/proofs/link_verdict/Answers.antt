-- plan_check::link_verdict: from the clauses of what it calls, by the definitions.
use Rattle.std.proofs.Common.{arith}
use Rattle.std.proofs.lemmas.Bool.Decides.{nat_tests}
use Rattle.plan.specs.Refusal.{link_verdict}
use Rattle.plan_check.proofs.link_verdict.Goals as goal

pub returns-then-hi-lo : goal.returns-then-hi-lo
unfolding link_verdict
returns-then-hi-lo c = grind (arith, nat_tests)

pub returns-then-not-ordered : goal.returns-then-not-ordered
unfolding link_verdict
returns-then-not-ordered c = grind (arith, nat_tests)

pub returns-then-near-gt-MAX_READING : goal.returns-then-near-gt-MAX_READING
unfolding link_verdict
returns-then-near-gt-MAX_READING c = grind (arith, nat_tests)

pub returns : goal.returns
unfolding link_verdict
returns c = grind (arith, nat_tests)
