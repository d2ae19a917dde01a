use native.Mathlib.Omega.{arith}
use Prim.Native.Nat.{ℕ, ◌≤◌}
use mathlib.Core.Path.{◌≡◌, refl, ◌∙◌}
use mathlib.Core.Logic.{◌≢◌}
use mathlib.Core.List.{List}
use lib.ListN.{length, get_or, length-set}
use Rattle.plan.specs.Links.{Plan}
use Rattle.plan.specs.Refusal.{plan_refusal}
use Rattle.path_search.specs.Spread.{LinksTo, hops_to}
use Rattle.plan.proofs.laws.Accepted.{accepted}
use Rattle.host_path.proofs.Walked.{Walked, Goes, walked_none, walked_on, walked_all}
use Rattle.host_path.proofs.walk.Goals as goal

-- a turn: the link to go is known, and there is room for it
goes : {p : Plan} {u v worst at i : ℕ} {out₀ out by : List ℕ} → plan_refusal p ≡ 0 → LinksTo p v u by → hops_to p v u ≤ length out₀
    → Walked p u v out₀ out worst at i → at ≢ v → Goes p u v out₀ out worst at i (get_or by at 0)
goes ok known room w d = walked_on _ _ _ _ _ _ _ _ (accepted _ ok) w _ known d room

pub loop-at-init : goal.loop-at-init
loop-at-init c = (refl, walked_none c.args.plan.now c.args.u c.args.v c.args.out.now c.requires.1 c.requires.2)

pub overflow_cast-k : goal.overflow_cast-k
overflow_cast-k c = omega (arith, (goes c.requires.0 c.requires.3 c.requires.4 c.loop-at.invariant.1 c.loop-at-test.true).node)

pub offset_bounds-by-at : goal.offset_bounds-by-at
offset_bounds-by-at c = omega (arith, (goes c.requires.0 c.requires.3 c.requires.4 c.loop-at.invariant.1 c.loop-at-test.true).node)

pub bounds-by-at : goal.bounds-by-at
bounds-by-at c = (goes c.requires.0 c.requires.3 c.requires.4 c.loop-at.invariant.1 c.loop-at-test.true).node

pub offset_bounds-out-i : goal.offset_bounds-out-i
offset_bounds-out-i c = omega (arith, (goes c.requires.0 c.requires.3 c.requires.4 c.loop-at.invariant.1 c.loop-at-test.true).room)

pub bounds-out-i : goal.bounds-out-i
bounds-out-i c = omega (arith, (goes c.requires.0 c.requires.3 c.requires.4 c.loop-at.invariant.1 c.loop-at-test.true).room)

pub later-worst-requires : goal.later-worst-requires
later-worst-requires c = (c.loop-at.invariant.1.held, (goes c.requires.0 c.requires.3 c.requires.4 c.loop-at.invariant.1 c.loop-at-test.true).link)

pub across-at-requires : goal.across-at-requires
across-at-requires c = (goes c.requires.0 c.requires.3 c.requires.4 c.loop-at.invariant.1 c.loop-at-test.true).link

pub overflow_add-i : goal.overflow_add-i
overflow_add-i c = omega (arith, (goes c.requires.0 c.requires.3 c.requires.4 c.loop-at.invariant.1 c.loop-at-test.true).room)

pub loop-at-smaller : goal.loop-at-smaller
loop-at-smaller c = rw c.across-at.ensures (goes c.requires.0 c.requires.3 c.requires.4 c.loop-at.invariant.1 c.loop-at-test.true).less

pub loop-at-preserved : goal.loop-at-preserved
loop-at-preserved c =
    let l = c.loop-at in
    (length-set l.out l.i _ ∙ l.invariant.0, rw (c.across-at.ensures, c.later-worst.ensures) (goes c.requires.0 c.requires.3 c.requires.4 c.loop-at.invariant.1 c.loop-at-test.true).walked)

pub shape_of-out : goal.shape_of-out
shape_of-out c = c.loop-at.invariant.0

pub returns : goal.returns
returns c =
    let l = c.loop-at in
    let a = c.args in
    walked_all a.plan.now a.u a.v a.out.now l.out l.worst l.at l.i (accepted a.plan.now c.requires.0) l.invariant.1
    c.loop-at-test.false
