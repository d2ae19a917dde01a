-- text_trace::own_marks: a loop; the marks of v's links among the first k are put, one more by `marks-turn`.
use Rattle.format_text.specs.Pages.{HasPut}
use Rattle.text_trace.specs.Text.{marks_text}
use Rattle.text_trace.proofs.own_marks.Given as goal

abbrev pub invariant-loop-k : goal.invariant-loop-k
invariant-loop-k l = HasPut l.initial.page l.page (marks_text l.edges.plan.now l.edges.marks.now l.edges.v l.k)
