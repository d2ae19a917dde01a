-- host_rounds::round::round: a refused hand-over ends it, by `round-off`; else the modules serve, by `round-on`. The field stays ready, by `hands`.
use mathlib.Core.Path.{◌≡◌, refl, ◌∙◌}
use Rattle.std.specs.Prelude.{Err}
use Rattle.std.proofs.Common.{rules}
use Rattle.refusal.specs.Number.{refusal_in}
use Rattle.refusal.proofs.laws.Number.{positive}
use Rattle.field_calls.specs.Rounds.{hand_phase}
use Rattle.field_serve.specs.Lent.{standing}
use Rattle.field_serve.proofs.Ready.{hands}
use Rattle.field_serve.proofs.Turns.{advances-as}
use Rattle.host_rounds.proofs.Turns.{hand-phase-sound, round-on, round-off}
use Rattle.host_rounds.proofs.round.round.Goals as goal

pub returns-in_err-hand_phase : goal.returns-in_err-hand_phase
returns-in_err-hand_phase c =
    let r = c.requires in
    let b = standing c.args.n.now c.args.f.now in
    let x = c.in_err-hand_phase.field-0.0 in
    let e : c.hand_phase.result ≡ Err x = grind rules in
    let q : c.from_residual.result ≡ Err x = grind rules in
    let h = rw e at c.hand_phase.ensures in
    rw q (record { advances = advances-as (hands _ _ _ _ b r hand_phase (hand-phase-sound _ _ r.plan r.sound) h (search rules) refl) (round-off _ _ _ (h.is _ _ _) (positive x)); plan = refl })

pub serve_phase-requires : goal.serve_phase-requires
serve_phase-requires c =
    let r = c.requires in
    (hands _ _ _ _ (standing c.args.n.now c.args.f.now) r hand_phase (hand-phase-sound _ _ r.plan r.sound) c.hand_phase.ensures (search rules) refl).ready

pub returns : goal.returns
returns c =
    let e : refusal_in c.hand_phase.result ≡ 0 = grind rules in
    let s = c.serve_phase.ensures in
    record {
      advances = record { is = s.advances.is ∙ round-on _ _ _ (c.hand_phase.ensures.is _ _ _) e; ready = s.advances.ready };
      plan = s.plan;
    }
