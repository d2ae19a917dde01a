-- text_trace::refusal: from the clauses of what it calls, by the definitions.
use Rattle.std.proofs.Common.{rules, tests}
use Rattle.text_trace.specs.Text.{refusal_text}
use Rattle.text_trace.proofs.refusal.Goals as goal

pub returns-then-number-eq0 : goal.returns-then-number-eq0
unfolding refusal_text
returns-then-number-eq0 c = search (tests, rules)

pub returns-else-number-eq0 : goal.returns-else-number-eq0
unfolding refusal_text
returns-else-number-eq0 c = search (tests, rules)
