-- text_report::report: head, branches, total, core and tail one behind the other, with what the calls answered for their numbers.
use Rattle.std.proofs.Common.{ap, ap₂}
use Rattle.format_text.specs.Lines.{line}
use Rattle.format_text.proofs.laws.Pages.{has_put_two, has_put_as}
use Rattle.text_report.specs.Text.{sizes_text, tail_text, report_text}
use Rattle.text_report.proofs.report.Goals as goal

pub returns : goal.returns
unfolding report_text
returns c =
    let f = c.args.f.now in
    let head = has_put_as (ap₂ sizes_text c.modules.ensures c.links.ensures) c.sizes.ensures in
    let costs = has_put_as (ap (line "total ") c.total.ensures) c.put_line.ensures in
    let foot = has_put_as (ap (λ m. tail_text f.sent m c.args.rounds) c.ceiling_of.ensures) c.tail.ensures in
    has_put_two (has_put_two (has_put_two (has_put_two head c.branches.ensures) costs) c.core.ensures) foot
