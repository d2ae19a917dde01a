use Prim.Native.Nat.{ℕ, suc, ◌≤◌}
use native.Mathlib.Omega.{arith}
use native.Mathlib.Numerals.{add-one}
use mathlib.Core.Path.{◌≡◌, refl}
use Rattle.base.specs.Limits.{max_modules}
use Rattle.plan.specs.Links.{Plan, modules_of}
use Rattle.plan.specs.Refusal.{plan_refusal}
use Rattle.plan.proofs.laws.Accepted.{accepted}
use Rattle.path.proofs.laws.Steps.{PathSteps, path_steps}
use Rattle.path_search.proofs.laws.Levels.{entry-near, known-to, nobody-further}
use Rattle.path_search.proofs.spread_to.Goals as goal

pub begin-n-requires : goal.begin-n-requires
begin-n-requires c = (c.requires.0, refl, c.requires.1, c.requires.2)

few : (p : Plan) → plan_refusal p ≡ 0 → modules_of p ≤ max_modules
few p ok = (accepted p ok).modules_ok

steps : (p : Plan) → plan_refusal p ≡ 0 → (v : ℕ) → PathSteps p v
steps p ok = path_steps p (accepted p ok)

pub overflow_sub-last : goal.overflow_sub-last
overflow_sub-last c = omega (arith, c.modules.ensures, c.requires.2)

pub overflow_cast-last : goal.overflow_cast-last
overflow_cast-last c = omega (arith, c.modules.ensures, few _ c.requires.0)

pub loop-h-init : goal.loop-h-init
loop-h-init c = c.begin-n.ensures.1

pub bounds-hops-u : goal.bounds-hops-u
bounds-hops-u c = omega (arith, c.requires.3, few _ c.requires.0)

-- u is known
pub returns-then-hops-u : goal.returns-then-hops-u
returns-then-hops-u c =
    let a = c.args in
    known-to a.plan.now a.v a.u c.loop-h.h c.loop-h.hops c.loop-h.by c.requires.3 c.loop-h.invariant
    (λ part. (entry-near a.plan.now a.v (c.loop-h.invariant.each a.u c.requires.3) c.if-hops-u.true).near)

pub pass-news-requires : goal.pass-news-requires
pass-news-requires c =
    (c.requires.0, c.begin-n.ensures.0, c.loop-h.invariant.sized, omega (arith, c.loop-h-test.true, c.modules.ensures, c.requires.2))

-- none became known
pub returns-then-not-news : goal.returns-then-not-news
returns-then-not-news c =
    let a = c.args in
    let p = a.plan.now in
    let near = nobody-further p a.v (steps _ c.requires.0 _) c.loop-h.h (c.pass-news.ensures.last c.if-not-news.true a.v c.loop-h.invariant) in
    known-to p a.v a.u (suc c.loop-h.h) _ _ c.requires.3 (c.pass-news.ensures.next c.args.v c.loop-h.invariant) (λ part. omega (arith, near a.u c.requires.3 part))

pub loop-h-preserved : goal.loop-h-preserved
loop-h-preserved c = rw (add-one c.loop-h.h) (c.pass-news.ensures.next c.args.v c.loop-h.invariant)

-- as far as a path may go
pub returns : goal.returns
returns c =
    let a = c.args in
    known-to a.plan.now a.v a.u c.loop-h.h c.loop-h.hops c.loop-h.by c.requires.3 c.loop-h.invariant
    (λ part. omega (arith, (steps _ c.requires.0 _).short a.u c.requires.3 part, c.loop-h-test.false, c.modules.ensures))
