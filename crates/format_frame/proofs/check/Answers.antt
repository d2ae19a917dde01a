-- format_frame::check: each return is what its test settles.
use Rattle.std.proofs.Common.{arith}
use Rattle.std.proofs.lemmas.Bool.Decides.{nat_tests}
use Rattle.format_frame.specs.Frame.{frame_refusal}
use Rattle.format_frame.proofs.check.Goals as goal

pub returns-then-s-ne6 : goal.returns-then-s-ne6
unfolding frame_refusal
returns-then-s-ne6 c = grind (arith, nat_tests)

pub returns-then-s-ne1 : goal.returns-then-s-ne1
unfolding frame_refusal
returns-then-s-ne1 c = grind (arith, nat_tests)

pub returns-then-not-is_listed : goal.returns-then-not-is_listed
unfolding frame_refusal
returns-then-not-is_listed c = grind (arith, nat_tests)

pub returns : goal.returns
unfolding frame_refusal
returns c = grind (arith, nat_tests)
