-- text_report::end: from the clauses of what it calls, by the definitions.
use Rattle.std.proofs.Common.{rules, tests}
use Rattle.format_text.proofs.laws.Pages.{has_put_none}
use Rattle.text_report.specs.Text.{end_text}
use Rattle.text_report.proofs.end.Goals as goal

pub returns-then-halted-eq1 : goal.returns-then-halted-eq1
unfolding end_text
returns-then-halted-eq1 c = search (tests, rules, has_put_none)

pub returns-else-in_part : goal.returns-else-in_part
unfolding end_text
returns-else-in_part c = search (tests, rules, has_put_none)
