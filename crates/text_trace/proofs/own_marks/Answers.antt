use Rattle.std.proofs.Common.{rules}
use Rattle.format_text.proofs.laws.Pages.{has_put_none, has_put_two, has_put_as}
use Rattle.text_trace.specs.Text.{marks_text}
use Rattle.text_trace.proofs.laws.Text.{marks-turn}
use Rattle.text_trace.proofs.own_marks.Goals as goal

pub loop-k-init : goal.loop-k-init
unfolding marks_text
loop-k-init c = search (rules, has_put_none)

pub loop-k-preserved : goal.loop-k-preserved
loop-k-preserved c = has_put_as (marks-turn c.args.edges.plan.now c.args.edges.marks.now c.args.edges.v c.loop-k.k) (search (rules, has_put_two))
