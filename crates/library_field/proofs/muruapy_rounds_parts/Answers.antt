-- library_field::muruapy_rounds_parts: what `host_rounds::run` answered, with the field in its parts, by `rounds-parts`.
use Rattle.library_field.proofs.Kept.{rounds-parts}
use Rattle.library_field.proofs.muruapy_rounds_parts.Goals as goal

pub returns : goal.returns
returns c =
    let b = c.hand_back.ensures in
    rw (c.refusal_in.ensures, b.0, b.1, b.2) (rounds-parts _ _ _ _ _ _ _ _ _ c.field_of-f.ensures _ _ c.run-run.ensures)
