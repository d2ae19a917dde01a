-- library_job::muruapy_report_parts: what `text_report::render` put, of the field of these parts.
use mathlib.Core.Path.{ap, ◌∙◌}
use Rattle.field.specs.declared.Field.{Field}
use Rattle.format_text.specs.Put.{page, put}
use Rattle.text_report.specs.Text.{report_text}
use Rattle.library_job.proofs.muruapy_report_parts.Goals as goal

pub returns : goal.returns
returns c =
    let t = c.before.before in
    let a = t.args in
    t.render.ensures ∙ ap (λ (f : Field). put (page 0 a.text.now) (report_text f a.rounds)) t.field_of-f.ensures
