-- format_frame::fill: six stores, one after the other, are the frame's bytes, by `filled`.
use native.Mathlib.Omega.{arith}
use lib.ListN.{length-set}
use Rattle.format_frame.proofs.laws.Frame.{filled}
use Rattle.format_frame.proofs.fill.Goals as goal

pub bounds-out-4 : goal.bounds-out-4
bounds-out-4 c = simp length-set (omega arith)

pub bounds-out-5 : goal.bounds-out-5
bounds-out-5 c = simp length-set (omega arith)

pub returns : goal.returns
returns c = filled c.args.header c.args.carried c.args.out.now c.requires
