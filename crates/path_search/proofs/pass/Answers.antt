use Rattle.std.proofs.Common.{◌≡◌, subst, length-take-le, get_or, arith}
use Rattle.std.proofs.Math.Seq.{get_or-take}
use Rattle.plan.proofs.laws.Accepted.{accepted}
use Rattle.path.proofs.laws.Steps.{path_steps}
use Rattle.path_search.specs.Spread.{BranchDone}
use Rattle.path_search.proofs.laws.Passes.{PassTo, pass-or, passed}
use Rattle.path_search.proofs.pass.Goals as goal

pub loop-k-preserved : goal.loop-k-preserved
loop-k-preserved c =
    let l = c.loop-k in
    let a = c.args in
    let p = a.plan.now in
    let few = length-take-le a.n a.list.now (omega (arith, c.requires.1.few)) in
    let done : BranchDone p (get_or a.list.now l.k-index 0) a.h l.hops l.by c.pass_branch-any.new.hops c.pass_branch-any.new.by c.pass_branch-any.result =
    rw (← get_or-take a.n a.list.now l.k-index 0 (omega arith)) c.pass_branch-any.ensures in
    pass-or p a.list.now a.h a.hops.now a.by.now l.k-index l.hops l.by _ _ _ _ l.invariant done

pub returns : goal.returns
returns c =
    let l = c.loop-k in
    let a = c.args in
    let p = a.plan.now in
    let ok = accepted p c.requires.0 in
    let few = length-take-le a.n a.list.now (omega (arith, c.requires.1.few)) in
    let e : l.k-index ≡ a.n = omega arith in
    passed p a.list.now a.h a.hops.now a.by.now (path_steps p ok) a.n l.hops l.by l.any (omega (arith, c.requires.3, ok.modules_ok)) c.requires.1
    (subst (λ n. PassTo p a.list.now a.h n a.hops.now a.by.now l.hops l.by l.any) e l.invariant)
