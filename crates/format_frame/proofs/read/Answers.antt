-- format_frame::read: from the clauses of what it calls, by the definitions.
use Rattle.std.proofs.Common.{arith}
use Rattle.std.proofs.lemmas.Bool.Decides.{nat_tests}
use Rattle.refusal.proofs.laws.Number.{positive}
use Rattle.format_frame.specs.Frame.{frame_read}
use Rattle.format_frame.proofs.laws.Frame.{frame-ok}
use Rattle.format_frame.proofs.read.Goals as goal

pub returns-in_err-check : goal.returns-in_err-check
unfolding frame_read
returns-in_err-check c = grind (arith, nat_tests, positive)

pub bounds-s-3 : goal.bounds-s-3
bounds-s-3 c = omega (arith, (frame-ok c.args.s.now (grind arith)).size)

pub at-requires : goal.at-requires
at-requires c = omega (arith, (frame-ok c.args.s.now (grind arith)).size)

pub returns : goal.returns
unfolding frame_read
returns c = grind (arith, nat_tests)
