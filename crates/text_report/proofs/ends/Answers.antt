use Rattle.std.proofs.Common.{rules, arith, ◌∙◌}
use Rattle.base.specs.Limits.{max_modules}
use Rattle.graph.proofs.laws.Parts.{labels-part}
use Rattle.format_text.proofs.laws.Pages.{has_put_none, has_put_two, has_put_as}
use Rattle.text_report.specs.Text.{ends_text}
use Rattle.text_report.proofs.laws.Text.{ends-turn}
use Rattle.text_report.proofs.ends.Goals as goal

pub loop-v-init : goal.loop-v-init
unfolding ends_text
loop-v-init c = search (rules, has_put_none)

pub loop-v-preserved : goal.loop-v-preserved
loop-v-preserved c =
    let together = c.same-in_part.ensures ∙ labels-part _ max_modules _ c.requires.1 _ _ (omega arith) (omega arith) in
    has_put_as (ends-turn _ _ _ _ _ _ together c.load-node.ensures) (search (rules, has_put_two))
