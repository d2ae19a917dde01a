use mathlib.Core.Path.{◌≡◌}
use Rattle.std.specs.Prelude.{Err}
use Rattle.std.proofs.Common.{rules, arith}
use Rattle.refusal.specs.Number.{refusal_in}
use Rattle.refusal.proofs.laws.Number.{positive}
use Rattle.field_words.proofs.Hands.{hands-as, none-handed, handed-on, handed-off, handed-all}
use Rattle.host_rounds.proofs.Turns as T
use Rattle.host_rounds.proofs.air.hand_turn.Goals as goal

pub loop-init : goal.loop-init
loop-init c = none-handed _ _ _ c.requires.0

pub returns-in_err-hand : goal.returns-in_err-hand
returns-in_err-hand c =
    let x = c.in_err-hand.field-0.0 in
    let e : c.hand.result ≡ Err x = grind rules in
    let q : c.from_residual.result ≡ Err x = grind rules in
    rw q (hands-as (handed-off _ _ _ _ c.loop.invariant (rw e at c.hand.ensures) _ c.loop-test.true (positive x)) (λ cells marks sent. T.hand-turn _ _ _ _ c.many_in_air-end.ensures))

pub loop-preserved : goal.loop-preserved
loop-preserved c =
    let e : refusal_in c.hand.result ≡ 0 = grind rules in
    handed-on _ _ _ _ c.loop.invariant c.hand.ensures c.hand.auto.lent e

pub returns : goal.returns
returns c =
    hands-as (handed-all _ _ _ _ c.loop.invariant _ c.loop-test.false (omega arith)) (λ cells marks sent. T.hand-turn _ _ _ _ c.many_in_air-end.ensures)
