-- library_field::muruapy_step_parts: what `host_run::step` answered, with the field in its parts, by `step-parts`.
use Rattle.library_field.proofs.Kept.{step-parts}
use Rattle.library_field.proofs.muruapy_step_parts.Goals as goal

pub returns : goal.returns
returns c =
    let b = c.hand_back.ensures in
    rw (c.refusal_in.ensures, b.0, b.1, b.2) (step-parts _ _ _ _ _ _ _ _ _ c.field_of-f.ensures _ _ c.step-answer.ensures)
