-- text_trace::link_or_none: from the clauses of what it calls, by the definitions.
use Rattle.std.proofs.Common.{rules, tests}
use Rattle.text_trace.specs.Text.{link_item}
use Rattle.text_trace.proofs.link_or_none.Goals as goal

pub returns-then-x-eq-NONE : goal.returns-then-x-eq-NONE
unfolding link_item
returns-then-x-eq-NONE c = search (tests, rules)

pub returns-else-x-eq-NONE : goal.returns-else-x-eq-NONE
unfolding link_item
returns-else-x-eq-NONE c = search (tests, rules)
