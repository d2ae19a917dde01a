-- text_trace::module_line: name, values, marks and the line's end one behind the other.
use Rattle.std.proofs.Common.{ap}
use Rattle.format_text.proofs.laws.Pages.{has_put_two, has_put_as}
use Rattle.text_trace.specs.Text.{values_text}
use Rattle.text_trace.proofs.module_line.Goals as goal

pub returns : goal.returns
returns c =
    let shown = has_put_as (ap values_text c.load-n.ensures) c.values.ensures in
    has_put_two (has_put_two (has_put_two c.put_named.ensures shown) c.own_marks.ensures) c.put.ensures
