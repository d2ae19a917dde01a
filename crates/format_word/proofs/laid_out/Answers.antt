-- format_word::laid_out: the callees read what the definition reads: the shape, and `listed` of header and carried number.
use mathlib.Core.Path.{ap₂, ◌∙◌}
use mathlib.Core.Bool.{◌&&◌}
use Rattle.format_message.specs.Listed.{listed}
use Rattle.format_word.proofs.laid_out.Goals as goal

pub returns : goal.returns
returns c =
    let x = c.before in
    let h = x.before in
    ap₂ ◌&&◌ h.word_shape.ensures (c.is_listed.ensures ∙ ap₂ listed h.header.ensures x.carried.ensures)
