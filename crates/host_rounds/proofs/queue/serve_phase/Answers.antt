use mathlib.Core.Path.{◌≡◌, refl}
use Rattle.std.specs.Prelude.{Err}
use Rattle.std.proofs.Common.{rules, arith}
use Rattle.refusal.specs.Number.{refusal_in}
use Rattle.refusal.proofs.laws.Number.{positive}
use Rattle.field_serve.proofs.Turns.{advances-as, moves-at, no-turn, turn_on, turn-off, turns-over}
use Rattle.host_rounds.proofs.Turns as T
use Rattle.host_rounds.proofs.queue.serve_phase.Goals as goal

pub loop-v-init : goal.loop-v-init
loop-v-init c = (no-turn _ _ _ _ _ _ c.requires refl, refl)

pub returns-in_err-serve_turn : goal.returns-in_err-serve_turn
returns-in_err-serve_turn c =
    let i = c.loop-v.invariant in
    let x = c.in_err-serve_turn.field-0.0 in
    let e : c.serve_turn.result ≡ Err x = grind rules in
    let q : c.from_residual.result ≡ Err x = grind rules in
    let a = moves-at (rw e at c.serve_turn.ensures) i.1 in
    rw q (record { advances = advances-as (turn-off _ _ _ _ _ _ _ i.0 a.0 _ c.loop-v-test.true (positive x)) (T.serve-phase _ _ _ c.modules-v-end.ensures); plan = a.1 })

pub loop-v-preserved : goal.loop-v-preserved
loop-v-preserved c =
    let i = c.loop-v.invariant in
    let e : refusal_in c.serve_turn.result ≡ 0 = grind rules in
    let a = moves-at (rw e at c.serve_turn.ensures) i.1 in
    (turn_on _ _ _ _ _ _ _ i.0 a.0 (search rules) refl, a.1)

pub returns : goal.returns
returns c =
    let i = c.loop-v.invariant in
    record { advances = advances-as (turns-over _ _ _ _ _ _ _ i.0 _ c.loop-v-test.false (omega arith)) (T.serve-phase _ _ _ c.modules-v-end.ensures); plan = i.1 }
