-- format_word::header: the low 8 bits are the remainder by 2 ^ 8 (`and_mask`).
use lib.Bits.{and_mask, mask_lt}
use Rattle.format_word.proofs.header.Goals as goal

pub overflow_cast-result : goal.overflow_cast-result
overflow_cast-result c = record { fits = mask_lt c.args.w 8 }

pub returns : goal.returns
returns c = and_mask c.args.w 8
