-- format_word::link: bits 24 to 39 are the 16 low bits of what 2 ^ 24 leaves (`and_mask`).
use Prim.Native.Nat.{◌/◌, ◌^◌}
use lib.Bits.{and_mask, mask_lt}
use Rattle.format_word.proofs.link.Goals as goal

pub overflow_cast-result : goal.overflow_cast-result
overflow_cast-result c = record { fits = mask_lt (c.args.w / 2 ^ 24) 16 }

pub returns : goal.returns
returns c = and_mask (c.args.w / 2 ^ 24) 16
