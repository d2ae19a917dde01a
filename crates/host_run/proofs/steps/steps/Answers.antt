use native.Mathlib.Omega.{arith}
use mathlib.Core.Path.{◌≡◌, refl}
use borrow.Author.Rules.{rules}
use Rattle.std.specs.Prelude.{Err}
use Rattle.refusal.proofs.laws.Number.{positive}
use Rattle.host_schedule.specs.laws.Kinds.{taken-size}
use Rattle.refusal.specs.Number.{refusal_in}
use Rattle.field_serve.proofs.Turns.{moves-at}
use Rattle.field_serve.proofs.Going.{not-gone, goes-on, goes-off}
use Rattle.host_run.proofs.Dispatch.{read_step}
use Rattle.host_run.proofs.steps.steps.Goals as goal

pub overflow_sub-k-end : goal.overflow_sub-k-end
overflow_sub-k-end c = (taken-size c.args.bytes.now c.requires.1).0

pub loop-k-init : goal.loop-k-init
loop-k-init c = (not-gone _ _ _ _ _ _ _ c.requires.0 refl, refl, c.requires.2)

pub returns-in_err-step : goal.returns-in_err-step
returns-in_err-step c =
    let i = c.loop-k.invariant in
    let x = c.in_err-step.field-0.0 in
    let e : c.step.result ≡ Err x = grind rules in
    let q : c.from_residual.result ≡ Err x = grind rules in
    let a = moves-at (read_step c.args.bytes.now c.loop-k.k (rw e at c.step.ensures) c.kind-kind.ensures c.number.ensures) i.1 in
    rw (q, i.2) (record { runs = goes-off _ _ _ _ _ _ _ _ i.0 refl a.0 _ c.loop-k-test.true (positive x); plan = a.1 })

pub loop-k-preserved : goal.loop-k-preserved
loop-k-preserved c =
    let i = c.loop-k.invariant in
    let e : refusal_in c.step.result ≡ 0 = grind rules in
    let a = moves-at (read_step c.args.bytes.now c.loop-k.k (rw e at c.step.ensures) c.kind-kind.ensures c.number.ensures) i.1 in
    (goes-on _ _ _ _ _ _ _ _ i.0 refl a.0 (search rules) refl, a.1, omega arith)
