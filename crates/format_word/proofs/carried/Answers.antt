-- format_word::carried: bits 8 to 23 are the 16 low bits of what 2 ^ 8 leaves (`and_mask`).
use Prim.Native.Nat.{◌/◌, ◌^◌}
use lib.Bits.{and_mask, mask_lt}
use Rattle.format_word.proofs.carried.Goals as goal

pub overflow_cast-result : goal.overflow_cast-result
overflow_cast-result c = record { fits = mask_lt (c.args.w / 2 ^ 8) 16 }

pub returns : goal.returns
returns c = and_mask (c.args.w / 2 ^ 8) 16
