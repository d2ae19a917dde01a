-- host_store::find: the part at the place that finding answers, which lies in the store (`cut_inside`).
use Rattle.std.proofs.Common.{arith}
use Rattle.host_store.proofs.Finds.{cut_inside}
use Rattle.host_store.proofs.find.Goals as goal

pub overflow_add-e : goal.overflow_add-e
overflow_add-e c = omega (arith, cut_inside c.args.name.now c.args.store.now _ c.in_ok-spot.ensures)

pub slice_bounds-result-end : goal.slice_bounds-result-end
slice_bounds-result-end c = omega (arith, cut_inside c.args.name.now c.args.store.now _ c.in_ok-spot.ensures)
