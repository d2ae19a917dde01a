-- plan_tree::join_pick: none joins nothing; an edge is joined, by `takes`.
use Rattle.plan.specs.Links.{graph_of}
use Rattle.plan_tree.proofs.Joins.{not_none, takes}
use Rattle.plan_tree.proofs.join_pick.Goals as goal

pub join-requires : goal.join-requires
join-requires c =
    let e = c.before.before in
    let s = e.before.before in
    (s.requires.0, not_none e.if-k-eq-NONE.false s.requires.1)

pub returns : goal.returns
returns c =
    let j = c.before.before in
    let e = j.before.before.before in
    let s = e.before.before in
    let n = e.if-k-eq-NONE.false in
    takes (graph_of s.args.plan.now) s.args.k s.args.label.now s.args.out.now _ _
    n (not_none n s.requires.1) s.requires.0.ends s.requires.0.parts j.join.ensures.1 j.join.ensures.0
