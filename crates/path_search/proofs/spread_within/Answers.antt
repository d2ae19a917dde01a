use Prim.Native.Nat.{ℕ, suc, ◌≤◌}
use native.Mathlib.Omega.{arith}
use native.Mathlib.Numerals.{add-one}
use mathlib.Core.Path.{◌≡◌, refl}
use Rattle.base.specs.Limits.{max_modules}
use Rattle.plan.specs.Links.{Plan, modules_of}
use Rattle.plan.specs.Refusal.{plan_refusal}
use Rattle.plan.proofs.laws.Accepted.{accepted}
use Rattle.path.proofs.laws.Steps.{PathSteps, path_steps}
use Rattle.path_search.proofs.laws.Levels.{nobody-further, known-within}
use Rattle.path_search.proofs.spread_within.Goals as goal

pub begin-n-requires : goal.begin-n-requires
begin-n-requires c = (c.requires.0, refl, c.requires.1, c.requires.2)

few : (p : Plan) → plan_refusal p ≡ 0 → modules_of p ≤ max_modules
few p ok = (accepted p ok).modules_ok

steps : (p : Plan) → plan_refusal p ≡ 0 → (v : ℕ) → PathSteps p v
steps p ok = path_steps p (accepted p ok)

pub loop-h-init : goal.loop-h-init
loop-h-init c = c.begin-n.ensures.1

pub pass-requires : goal.pass-requires
pass-requires c =
    (c.requires.0, c.begin-n.ensures.0, c.loop-h.invariant.sized, omega (arith, c.loop-h-test.true, c.requires.3))

-- none became known
pub returns-then-not-pass : goal.returns-then-not-pass
returns-then-not-pass c =
    let a = c.args in
    let p = a.plan.now in
    let near = nobody-further p a.v (steps _ c.requires.0 _) c.loop-h.h (c.pass.ensures.last c.if-not-pass.true a.v c.loop-h.invariant) in
    known-within p a.v (steps _ c.requires.0 _) (few _ c.requires.0) (suc c.loop-h.h) a.most _ _ (c.pass.ensures.next c.args.v c.loop-h.invariant)
    (λ w lw d. omega (arith, near w lw d.part, c.loop-h-test.true))
    (λ w lw d part. absurd (omega (arith, near w lw part, d part)))

pub loop-h-preserved : goal.loop-h-preserved
loop-h-preserved c = rw (add-one c.loop-h.h) (c.pass.ensures.next c.args.v c.loop-h.invariant)

-- as far as asked for
pub returns : goal.returns
returns c =
    let a = c.args in
    known-within a.plan.now a.v (steps _ c.requires.0 _) (few _ c.requires.0) c.loop-h.h a.most c.loop-h.hops c.loop-h.by c.loop-h.invariant
    (λ w lw d. omega (arith, d.near))
    (λ w lw d part. omega (arith, d part, c.loop-h-test.false))
