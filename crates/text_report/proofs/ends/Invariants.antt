-- text_report::ends: a loop; the halted of u's part among the first v modules are named, one more by `ends-turn`.
use Rattle.plan.specs.Links.{graph_of}
use Rattle.format_text.specs.Pages.{HasPut}
use Rattle.text_report.specs.Text.{ends_text}
use Rattle.text_report.proofs.ends.Given as goal

abbrev pub invariant-loop-v : goal.invariant-loop-v
invariant-loop-v l = HasPut l.initial.page l.page (ends_text (graph_of l.plan) l.cells l.u l.v)
