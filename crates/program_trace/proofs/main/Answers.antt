-- program_trace::main: the text is that of every input which can have left these bytes, by `input-told` with `long_same`; it fits, by `traced-fits`.
use native.Mathlib.Omega.{arith}
use Rattle.format_text.proofs.laws.Input.{input-told}
use Rattle.text_owed.proofs.laws.TraceFits.{traced-fits}
use Rattle.text_owed.proofs.laws.TraceLong.{long_same}
use Rattle.program_trace.proofs.main.Goals as goal

pub write-requires : goal.write-requires
write-requires c =
    input-told c.read_input-intake.new.space c.read_input-intake.result long_same (omega (arith, c.read_input-intake.ensures.0)) c.bytes_read-n.ensures
    c.front.ensures _ traced-fits c.trace-end.ensures c.front-2.ensures
