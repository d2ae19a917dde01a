-- field_place::post_all: the copies, if there are any, and the two messages behind one another, by `lots`.
use Rattle.plan.specs.Links.{links_of}
use Rattle.field.specs.State.{posted}
use Rattle.node_response.specs.Response.{copies_of}
use Rattle.field_place.proofs.Puts.{lots}
use Rattle.field_place.proofs.Words.{posted-none}
use Rattle.field_place.specs.Posted.{Posted, copies_to}
use Rattle.field_place.proofs.post_all.Goals as goal
use Rattle.field_place.proofs.post_all.Goals.{then-a, else-a}

pub returns : goal.returns
returns c =
    let e = c.args.edges in
    let a = c.args.a in
    let copies : Posted c.args.lent.now c.if-a.lent c.args.n c.if-a.m
    (posted e.plan.now e.v (copies_of a.copies (copies_to e.plan.now e.marks.now e.v c.args.x (links_of e.plan.now)))) =
    elim c.if-a.branch [
      | then-a w ↦ rw (w.if-a.true, w.lent-is, w.m-is) w.post_copies-m.ensures
      | else-a w ↦ rw (w.if-a.false, w.lent-is, w.m-is) (posted-none c.args.lent.now c.args.n)
    ] in
    lots e.plan.now e.marks.now e.v c.args.x a copies c.post-k.ensures c.post.ensures
