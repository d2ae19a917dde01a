-- format_word::handed: bit 40 is the lowest bit of what 2 ^ 40 leaves (`and_mask`).
use Prim.Native.Nat.{◌/◌, ◌^◌}
use mathlib.Core.Path.{ap}
use lib.Bits.{and_mask}
use lib.Dec.{eqb}
use Rattle.format_word.proofs.handed.Goals as goal

pub returns : goal.returns
returns c = ap (λ n. eqb n 1) (and_mask (c.args.w / 2 ^ 40) 1)
