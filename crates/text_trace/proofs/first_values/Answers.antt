-- text_trace::first_values: from the clauses of what it calls, by the definitions.
use Rattle.std.proofs.Common.{rules}
use Rattle.format_text.proofs.laws.Pages.{has_put_two}
use Rattle.text_trace.proofs.first_values.Goals as goal

pub returns : goal.returns
returns c = search (rules, has_put_two)
