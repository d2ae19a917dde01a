-- program_report::main: the text is that of every input which can have left these bytes, by `input-told` with `long-refused`; it fits, by
-- `reported-fits`.
use native.Mathlib.Omega.{arith}
use Rattle.format_text.proofs.laws.Input.{input-told}
use Rattle.text_owed.proofs.laws.ReportFits.{reported-fits}
use Rattle.text_owed.proofs.laws.ReportLong.{long-refused}
use Rattle.program_report.proofs.main.Goals as goal

pub write-requires : goal.write-requires
write-requires c =
    input-told c.read_input-intake.new.space c.read_input-intake.result long-refused (omega (arith, c.read_input-intake.ensures.0)) c.bytes_read-n.ensures
    c.front.ensures _ reported-fits c.report-end.ensures c.front-2.ensures
