-- field_cells::put_node: one copy of all ten values, by `part-set`.
use Rattle.std.proofs.Common.{◌*◌, arith}
use Rattle.field.specs.State.{WIDTH, values}
use Rattle.base.proofs.laws.Sets.{part-set}
use Rattle.field_cells.proofs.put_node.Goals as goal

pub returns : goal.returns
returns c = rw c.copy_from_slice.ensures.after (part-set c.args.cells.now (values c.args.n) (c.args.v * WIDTH) _ (omega arith) (omega arith))
