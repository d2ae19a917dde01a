-- host_path::found: the hops of the first node are the path's length, if it has one; no way (`path-no-way`), 79 (`path-refused-room`) or the path is
-- written (`told-path`).
use Prim.Native.Nat.{ℕ, ◌<◌}
use native.Mathlib.Omega.{arith}
use mathlib.Core.Path.{◌≡◌}
use mathlib.Core.Logic.{◌≢◌}
use mathlib.Core.List.{List}
use lib.ListN.{get_or}
use Rattle.base.specs.Limits.{max_modules}
use Rattle.graph.specs.Parts.{SamePart}
use Rattle.plan.specs.Links.{Plan, graph_of, modules_of}
use Rattle.plan.specs.Refusal.{plan_refusal}
use Rattle.plan.proofs.laws.Accepted.{accepted}
use Rattle.path.proofs.laws.Outcomes.{path-no-way, path-refused-room}
use Rattle.path.proofs.laws.Steps.{path-short}
use Rattle.path_search.specs.Spread.{far, KnownTo}
use Rattle.host_path.proofs.Known.{far_apart, known-part}
use Rattle.host_path.proofs.Answers.{told-path}
use Rattle.host_path.proofs.found.Goals as goal

pub bounds-hops-from : goal.bounds-hops-from
bounds-hops-from c = omega (arith, c.requires.1, (accepted c.args.plan.now c.requires.0).modules_ok)

pub returns-then-hops_between : goal.returns-then-hops_between
returns-then-hops_between c =
    let a = c.args in
    (path-no-way a.plan.now a.from a.to a.out.now c.requires.0 c.requires.1 c.requires.2
    (far_apart a.plan.now (accepted c.args.plan.now c.requires.0) a.to a.from _ _ c.spread_to.ensures c.requires.1 c.if-hops_between.true))

-- the first node is known: there is a path, and its hops are the length
part : {p : Plan} {u v : ℕ} {hops by : List ℕ} → plan_refusal p ≡ 0 → KnownTo p v u hops by → get_or hops u 0 ≢ far → SamePart (graph_of p) u v
part ok k d = known-part _ (accepted _ ok) _ _ _ _ k d

-- and so they are few
few : {p : Plan} {u v : ℕ} {hops by : List ℕ} → plan_refusal p ≡ 0 → u < modules_of p → KnownTo p v u hops by → get_or hops u 0 ≢ far
    → get_or hops u 0 < max_modules
few {p} ok l k d =
    let s = part ok k d in
    omega (arith, k.own s, path-short p (accepted p ok) l s, (accepted p ok).modules_ok)

pub overflow_cast-hops_between-2 : goal.overflow_cast-hops_between-2
overflow_cast-hops_between-2 c = omega (arith, few c.requires.0 c.requires.1 c.spread_to.ensures c.if-hops_between.false)

pub returns-then-out-hops_between : goal.returns-then-out-hops_between
returns-then-out-hops_between c =
    let a = c.args in
    (path-refused-room a.plan.now a.from a.to a.out.now c.requires.0 c.requires.1 c.requires.2 (part c.requires.0 c.spread_to.ensures c.if-hops_between.false) (omega (arith, c.spread_to.ensures.own (part c.requires.0 c.spread_to.ensures c.if-hops_between.false), c.if-out-hops_between.true)))

pub walk-worst-requires : goal.walk-worst-requires
walk-worst-requires c =
    (c.requires.0, c.requires.1, part c.requires.0 c.spread_to.ensures c.if-hops_between.false, c.spread_to.ensures.links (part c.requires.0 c.spread_to.ensures c.if-hops_between.false), omega (arith, c.spread_to.ensures.own (part c.requires.0 c.spread_to.ensures c.if-hops_between.false), c.if-out-hops_between.false))

pub overflow_cast-length : goal.overflow_cast-length
overflow_cast-length c = omega (arith, few c.requires.0 c.requires.1 c.spread_to.ensures c.if-hops_between.false)

pub returns : goal.returns
returns c =
    let a = c.args in
    told-path a.plan.now a.from a.to a.out.now c.requires.0 c.requires.1 c.requires.2 (part c.requires.0 c.spread_to.ensures c.if-hops_between.false) _ _ _
    (c.spread_to.ensures.own (part c.requires.0 c.spread_to.ensures c.if-hops_between.false)) c.if-out-hops_between.false c.walk-worst.ensures
