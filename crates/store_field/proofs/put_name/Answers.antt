-- store_field::put_name: from the clauses of what it calls, by the definitions.
use Rattle.std.proofs.Common.{arith}
use Rattle.base.proofs.laws.Sets.{part-set}
use Rattle.store_field.proofs.put_name.Goals as goal

pub returns : goal.returns
returns c = rw c.copy_from_slice.ensures.after (part-set c.args.out.now c.args.name.now 6 _ (omega arith) (omega arith))
