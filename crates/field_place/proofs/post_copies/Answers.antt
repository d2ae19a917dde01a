-- field_place::post_copies: a link gets no copy by `copying-none`, one by `copying-one`.
use Rattle.std.proofs.Common.{arith}
use Rattle.field_place.proofs.Turns.{copying-start, copying-none, copying-one}
use Rattle.field_place.proofs.post_copies.Goals as goal
use Rattle.field_place.proofs.post_copies.Goals.{then-is_other_branch, else-is_other_branch}

pub loop-k-init : goal.loop-k-init
loop-k-init c = let e = c.args.edges in copying-start e.plan.now e.marks.now e.v c.args.x c.args.lent.now c.args.n

pub loop-k-preserved : goal.loop-k-preserved
loop-k-preserved c =
    let e = c.args.edges in
    let i = c.loop-k in
    elim c.if-is_other_branch.branch [
      | then-is_other_branch w ↦
          rw (w.m-is, w.lent-is) (copying-one e.plan.now e.marks.now e.v c.args.x c.args.lent.now c.args.n i.lent i.m i.k i.invariant (grind arith) c.requires.says w.pack.result (cc))
      | else-is_other_branch w ↦
          rw (w.m-is, w.lent-is) (copying-none e.plan.now e.marks.now e.v c.args.x c.args.lent.now c.args.n i.lent i.m i.k i.invariant (grind arith))
    ]
