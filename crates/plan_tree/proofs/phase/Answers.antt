-- plan_tree::phase: the scan's first edges (`first-bound`), all joined, make the next forest, by `phased`.
use Rattle.plan.specs.Links.{graph_of}
use Rattle.plan.specs.Weights.{earlier}
use Rattle.plan_tree.specs.laws.Phase.{first-bound}
use Rattle.plan_tree.proofs.Offers.{firsts-none}
use Rattle.plan_tree.proofs.Joins.{phased}
use Rattle.plan_tree.proofs.phase.Goals as goal

pub scan-found-requires : goal.scan-found-requires
scan-found-requires c =
    let s = c.before.before.before in
    let f = s.requires.0 in
    (f.few, f.ends, f.parts, firsts-none s.args.plan.now s.args.label.now)

pub join_all-requires : goal.join_all-requires
join_all-requires c =
    let n = c.before.before.before in
    (n.requires.0, λ a l. first-bound (n.scan-found.ensures.1.first a l))

pub returns : goal.returns
returns c =
    let j = c.before.before in
    let n = j.before.before.before.before in
    let s = n.before.before.before.before in
    let a = s.args in
    let f = s.requires.0 in
    phased (graph_of a.plan.now) (earlier a.plan.now) n.scan-found.new.best a.label.now a.out.now _ _ _
    f.few f.ends f.parts s.requires.1 n.scan-found.ensures.0 n.scan-found.ensures.1.first j.join_all.ensures
