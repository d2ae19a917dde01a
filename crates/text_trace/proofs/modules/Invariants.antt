-- text_trace::modules: a loop; the lines of the first v modules are put, one more by `modules-turn`.
use Rattle.format_text.specs.Pages.{HasPut}
use Rattle.text_trace.specs.Text.{modules_text}
use Rattle.text_trace.proofs.modules.Given as goal

abbrev pub invariant-loop-v : goal.invariant-loop-v
invariant-loop-v l = HasPut l.initial.page l.page (modules_text l.plan l.cells l.marks l.v)
