-- text_trace::trace: from the clauses of what it calls, by the definitions.
use Rattle.std.proofs.Common.{rules}
use Rattle.format_text.proofs.laws.Pages.{has_put_two}
use Rattle.text_trace.specs.Text.{trace_text}
use Rattle.text_trace.proofs.trace.Goals as goal

pub returns : goal.returns
unfolding trace_text
returns c = search (rules, has_put_two)
