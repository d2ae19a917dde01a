-- format_wide::put32: the library's bytes are the definition's (`four-made`), and one copy is their run of stores (`part-set`).
use Rattle.std.proofs.Common.{◌∙◌, arith}
use Rattle.base.proofs.laws.Sets.{part-set}
use Rattle.format_wide.specs.Wide.{bytes32}
use Rattle.format_wide.proofs.laws.Wide.{four-made}
use Rattle.format_wide.proofs.put32.Goals as goal

pub returns : goal.returns
returns c = rw (c.copy_from_slice.ensures.after ∙ c.to_be_bytes.ensures ∙ four-made c.args.x (omega arith)) (part-set c.args.s.now (bytes32 c.args.x) c.args.i _ (omega arith) (omega arith))
