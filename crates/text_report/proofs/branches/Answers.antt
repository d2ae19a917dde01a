use Rattle.std.proofs.Common.{rules}
use Rattle.format_text.proofs.laws.Pages.{has_put_none, has_put_two, has_put_as}
use Rattle.text_report.specs.Text.{branch_lines}
use Rattle.text_report.proofs.laws.Text.{lines-turn}
use Rattle.text_report.proofs.branches.Goals as goal

pub loop-k-init : goal.loop-k-init
unfolding branch_lines
loop-k-init c = search (rules, has_put_none)

pub loop-k-preserved : goal.loop-k-preserved
loop-k-preserved c =
    has_put_as (lines-turn _ _ _ c.lower-lower.ensures c.higher-higher.ensures c.cost.ensures) (search (rules, has_put_two))
