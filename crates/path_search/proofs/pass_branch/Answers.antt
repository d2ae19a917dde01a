-- path_search::pass_branch: up the branch (`branch-first`), else down it or not at all (`branch-second`).
use Prim.Native.Nat.{ℕ, ◌≤◌}
use native.Mathlib.Omega.{arith}
use mathlib.Core.Path.{sym}
use Rattle.base.specs.Limits.{max_modules}
use Rattle.graph.specs.Graph.{up}
use Rattle.plan.specs.Links.{modules_of}
use Rattle.plan.proofs.laws.Accepted.{accepted}
use Rattle.path.proofs.laws.Steps.{PathSteps, path_steps}
use Rattle.path_search.proofs.laws.Reach.{unreached}
use Rattle.path_search.proofs.laws.Branch.{BranchFrom, branch-first, branch-second}
use Rattle.path_search.proofs.pass_branch.Goals.{After-higher-b, Start}
use Rattle.path_search.proofs.pass_branch.Goals as goal

pub lower-a-requires : goal.lower-a-requires
lower-a-requires c = omega (arith, (accepted c.args.plan.now c.requires.0).links_ok, c.requires.1)

pub higher-b-requires : goal.higher-b-requires
higher-b-requires c = let s = c.before in omega (arith, (accepted s.args.plan.now s.requires.0).links_ok, s.requires.1)

abbrev start : After-higher-b → Start
start c = c.before.before

few : (c : After-higher-b) → modules_of (start c).args.plan.now ≤ max_modules
few c = (accepted (start c).args.plan.now (start c).requires.0).modules_ok

-- the branch, from its lower end to its higher end
branch : (c : After-higher-b) → BranchFrom (start c).args.plan.now (start c).args.k c.lower-a.result c.higher-b.result
branch c =
    let s = start c in
    let o = (accepted s.args.plan.now s.requires.0).each s.args.k s.requires.1 in
    record {
      joins = up s.requires.1 (sym c.lower-a.ensures) (sym c.higher-b.ensures);
      tree = s.requires.2;
      inside = omega (arith, c.lower-a.ensures, o.ordered, o.inside);
      beside = omega (arith, c.higher-b.ensures, o.inside);
    }

steps : (c : After-higher-b) → (v : ℕ) → PathSteps (start c).args.plan.now v
steps c = path_steps (start c).args.plan.now (accepted (start c).args.plan.now (start c).requires.0)

pub reach-requires : goal.reach-requires
reach-requires c =
    let e = c.before.before in
    let s = start c.before.before in
    let a = (branch c.before.before).inside in
    let b = (branch c.before.before).beside in
    (s.requires.3, omega (arith, a, b, few c.before.before), omega (arith, a, b, few c.before.before), omega (arith, s.requires.4, few c.before.before))

pub returns-then-reach : goal.returns-then-reach
returns-then-reach c =
    let e = c.before.before.before.before in
    let s = start c.before.before.before.before in
    branch-first (branch c.before.before.before.before) (steps c.before.before.before.before) (few c.before.before.before.before) s.args.h s.requires.4 s.args.hops.now s.args.by.now s.requires.3 c.reach.ensures c.if-reach.true

pub reach-requires-2 : goal.reach-requires-2
reach-requires-2 c =
    let r = c.before.before.before in
    let e = r.before.before.before in
    let s = start c.before.before.before.before.before.before in
    let g = s.args in
    let u = unreached g.hops.now g.by.now e.lower-a.result e.higher-b.result g.k g.h r.reach.ensures c.if-reach.false in
    let a = (branch c.before.before.before.before.before.before).inside in
    let b = (branch c.before.before.before.before.before.before).beside in
    (rw (u.0, u.1) s.requires.3, omega (arith, a, b, few c.before.before.before.before.before.before), omega (arith, a, b, few c.before.before.before.before.before.before), omega (arith, s.requires.4, few c.before.before.before.before.before.before))

pub returns : goal.returns
returns c =
    let q = c.before.before.before in
    let r = q.before in
    let e = r.before.before.before in
    let s = start c.before.before.before.before.before.before.before in
    branch-second (branch c.before.before.before.before.before.before.before) (steps c.before.before.before.before.before.before.before) (few c.before.before.before.before.before.before.before) s.args.h s.requires.4 s.args.hops.now s.args.by.now s.requires.3
    r.reach.ensures q.if-reach.false c.reach-2.ensures
