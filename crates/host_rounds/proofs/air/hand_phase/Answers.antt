use mathlib.Core.Path.{◌≡◌, ap}
use Rattle.std.specs.Prelude.{ℕ, ◌*◌, Err}
use Rattle.std.proofs.Common.{rules, arith}
use Rattle.refusal.specs.Number.{refusal_in}
use Rattle.refusal.proofs.laws.Number.{positive}
use Rattle.field_words.proofs.Hands.{hands-as, none-handed, handed-on, handed-off, handed-all}
use Rattle.host_rounds.proofs.Turns.{hand-phase}
use Rattle.host_rounds.proofs.air.hand_phase.Goals as goal

pub loop-d-init : goal.loop-d-init
loop-d-init c = none-handed _ _ _ c.requires.0

pub returns-in_err-hand_turn : goal.returns-in_err-hand_turn
returns-in_err-hand_turn c =
    let x = c.in_err-hand_turn.field-0.0 in
    let e : c.hand_turn.result ≡ Err x = grind rules in
    let q : c.from_residual.result ≡ Err x = grind rules in
    rw q (hands-as (handed-off _ _ _ _ c.loop-d.invariant (rw e at c.hand_turn.ensures) _ c.loop-d-test.true (positive x))
    (λ cells marks sent. hand-phase _ _ _ (ap (λ (n : ℕ). 2 * n) c.links-d-end.ensures)))

pub loop-d-preserved : goal.loop-d-preserved
loop-d-preserved c =
    let e : refusal_in c.hand_turn.result ≡ 0 = grind rules in
    handed-on _ _ _ _ c.loop-d.invariant c.hand_turn.ensures c.hand_turn.auto.lent e

pub returns : goal.returns
returns c =
    hands-as (handed-all _ _ _ _ c.loop-d.invariant _ c.loop-d-test.false (omega arith))
    (λ cells marks sent. hand-phase _ _ _ (ap (λ (n : ℕ). 2 * n) c.links-d-end.ensures))
