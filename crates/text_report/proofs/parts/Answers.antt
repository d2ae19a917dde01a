use Rattle.std.proofs.Common.{rules, sym}
use Rattle.format_text.proofs.laws.Pages.{has_put_none, has_put_two, has_put_as}
use Rattle.text_report.proofs.laws.Text.{parts_none, parts-turn}
use Rattle.text_report.proofs.parts.Goals as goal

pub loop-u-init : goal.loop-u-init
loop-u-init c = has_put_as (sym (parts_none c.args.plan.now c.args.cells.now)) (has_put_none _)

pub loop-u-preserved : goal.loop-u-preserved
loop-u-preserved c =
    has_put_as (parts-turn c.args.plan.now c.args.cells.now c.loop-u.u) (search (rules, has_put_two))
