-- text_report::branches: a loop; the lines of the first k links are put, one more by `lines-turn`.
use Rattle.format_text.specs.Pages.{HasPut}
use Rattle.text_report.specs.Text.{branch_lines}
use Rattle.text_report.proofs.branches.Given as goal

abbrev pub invariant-loop-k : goal.invariant-loop-k
invariant-loop-k l = HasPut l.initial.page l.page (branch_lines l.plan l.marks l.k)
