-- format_frame::write: from the clauses of what it calls, by the definitions.
use Rattle.std.proofs.Common.{arith}
use Rattle.std.proofs.lemmas.Bool.Decides.{nat_tests}
use Rattle.format_frame.specs.Frame.{frame_write_refusal, frame_written}
use Rattle.format_frame.proofs.write.Goals as goal

pub returns-then-not-is_listed : goal.returns-then-not-is_listed
unfolding frame_written frame_write_refusal
returns-then-not-is_listed c = grind (arith, nat_tests)

pub returns-then-out-ne6 : goal.returns-then-out-ne6
unfolding frame_written frame_write_refusal
returns-then-out-ne6 c = grind (arith, nat_tests)

pub returns : goal.returns
unfolding frame_written frame_write_refusal
returns c = grind (arith, nat_tests)
