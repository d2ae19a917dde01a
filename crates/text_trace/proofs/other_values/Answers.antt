-- text_trace::other_values: from the clauses of what it calls, by the definitions.
use Rattle.std.proofs.Common.{rules}
use Rattle.format_text.proofs.laws.Pages.{has_put_two}
use Rattle.text_trace.proofs.other_values.Goals as goal

pub returns : goal.returns
returns c = search (rules, has_put_two)
