use mathlib.Core.Path.{◌≡◌, refl}
use Rattle.std.specs.Prelude.{Err}
use Rattle.std.proofs.Common.{rules, arith}
use Rattle.refusal.specs.Number.{refusal_in}
use Rattle.refusal.proofs.laws.Number.{positive}
use Rattle.field_serve.proofs.Turns.{moves-at}
use Rattle.field_serve.proofs.Going.{not-gone, goes-rest, goes-on, goes-off}
use Rattle.host_rounds.proofs.Turns.{rest, no-rest}
use Rattle.host_rounds.proofs.round.rounds.Goals as goal

pub loop-init : goal.loop-init
loop-init c = (not-gone _ _ _ _ _ _ _ c.requires.0 refl, refl, c.requires.1)

pub returns-then-n-eq0 : goal.returns-then-n-eq0
returns-then-n-eq0 c =
    let i = c.loop.invariant in
    rw i.2 (record { runs = goes-rest _ _ _ _ _ _ _ _ i.0 _ (omega arith) (rest _ _ i.0.2.ready.laid c.if-n-eq0.true); plan = i.1 })

pub returns-in_err-round : goal.returns-in_err-round
returns-in_err-round c =
    let i = c.loop.invariant in
    let x = c.in_err-round.field-0.0 in
    let e : c.round.result ≡ Err x = grind rules in
    let q : c.from_residual.result ≡ Err x = grind rules in
    let a = moves-at (rw e at c.round.ensures) i.1 in
    rw (q, i.2) (record { runs = goes-off _ _ _ _ _ _ _ _ i.0 (no-rest _ _ i.0.2.ready.laid c.if-n-eq0.false) a.0 _ c.loop-test.true (positive x); plan = a.1 })

pub loop-preserved : goal.loop-preserved
loop-preserved c =
    let i = c.loop.invariant in
    let e : refusal_in c.round.result ≡ 0 = grind rules in
    let a = moves-at (rw e at c.round.ensures) i.1 in
    (goes-on _ _ _ _ _ _ _ _ i.0 (no-rest _ _ i.0.2.ready.laid c.if-n-eq0.false) a.0 (search rules) refl, a.1, omega arith)
