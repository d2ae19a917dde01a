use Rattle.std.proofs.Common.{rules}
use Rattle.format_text.proofs.laws.Pages.{has_put_none, has_put_two, has_put_as}
use Rattle.text_trace.specs.Text.{modules_text}
use Rattle.text_trace.proofs.laws.Text.{modules-turn}
use Rattle.text_trace.proofs.modules.Goals as goal

pub loop-v-init : goal.loop-v-init
unfolding modules_text
loop-v-init c = search (rules, has_put_none)

pub loop-v-preserved : goal.loop-v-preserved
loop-v-preserved c =
    has_put_as (modules-turn c.args.plan.now c.args.cells.now c.args.marks.now c.loop-v.v) (search (rules, has_put_two))
