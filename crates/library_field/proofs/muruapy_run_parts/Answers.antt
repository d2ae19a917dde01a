-- library_field::muruapy_run_parts: what `host_run::run` answered, with the field in its parts, by `run-parts`.
use Rattle.library_field.proofs.Kept.{run-parts}
use Rattle.library_field.proofs.muruapy_run_parts.Goals as goal

pub returns : goal.returns
returns c =
    let b = c.hand_back.ensures in
    rw (c.refusal_in.ensures, b.0, b.1, b.2) (run-parts _ _ _ _ _ _ _ _ _ c.field_of-f.ensures _ _ c.run-run.ensures)
