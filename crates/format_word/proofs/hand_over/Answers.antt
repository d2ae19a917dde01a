-- format_word::hand_over: `|` and `&` of two numbers have their sum (`or_add_and`); `&` with 2 ^ 40 is bit 40 (`and_high`).
use Prim.Native.Nat.{◌^◌}
use native.Mathlib.Omega.{arith}
use lib.Bits.{or_add_and, and_high}
use Rattle.format_word.proofs.hand_over.Goals as goal

pub returns : goal.returns
returns c = omega (arith, or_add_and c.args.w (2 ^ 40), and_high c.args.w 1 40)
