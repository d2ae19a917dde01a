-- What the two calls leave: a start that is taken (`start-taken`, `start-state`) and one that is refused (`start-keeps`); a delivery that is heard (`delivery-heard`), idle
-- (`delivery-idle`), refused (`delivery-keeps`).
use Rattle.std.specs.Prelude.{ℕ, ◌≡◌, ◌≢◌, true, false, List, length}
use Rattle.std.proofs.Common.{ne_eqb}
use Rattle.plan.specs.Links.{modules_of}
use Rattle.field.specs.Held.{Held}
use Rattle.cue.specs.declared.Cue.{Cue}
use Rattle.cue.specs.Delivery.{Refused, Idle, Heard}
use Rattle.cue.specs.Record.{begun_cues}
use Rattle.cue.specs.Copies.{waits_on, arrival, delivered}
use Rattle.cue.specs.Calls.{start_refusal, start_cue, delivery_refusal, deliver_cue}
use Rattle.cue.proofs.laws.Refusals.{FieldReady, StartTaken, facts-start, start-facts}

module _ (h : Held) (cues : List Cue) where
  module _ (sender cue : ℕ) where
    pub start-taken : (start_cue h cues sender cue).refusal ≡ 0 → StartTaken h (length cues) sender
    unfolding start_cue
    start-taken e = start-facts h (length cues) sender e

    pub taken_start : StartTaken h (length cues) sender → (start_cue h cues sender cue).refusal ≡ 0
    unfolding start_cue
    taken_start s = facts-start h (length cues) sender s

    pub start-state : (start_cue h cues sender cue).refusal ≡ 0 → (start_cue h cues sender cue).state ≡ begun_cues (modules_of h.field.plan) sender cue cues
    unfolding start_cue
    start-state e = rw e

    pub start-keeps : (start_cue h cues sender cue).refusal ≢ 0 → (start_cue h cues sender cue).state ≡ cues
    unfolding start_cue
    start-keeps n = rw (ne_eqb (start_refusal h (length cues) sender) 0 n)

  module _ (d : ℕ) where
    pub delivery-keeps : delivery_refusal h (length cues) cues d ≢ 0
        → deliver_cue h cues d ≡ record { answer = Refused (delivery_refusal h (length cues) cues d); cues = cues }
    unfolding deliver_cue
    delivery-keeps n = rw (ne_eqb (delivery_refusal h (length cues) cues d) 0 n)

    module _ (z : delivery_refusal h (length cues) cues d ≡ 0) where
      pub delivery-heard : waits_on h.field.plan cues d ≡ true → deliver_cue h cues d ≡ record { answer = Heard; cues = arrival h.field.plan cues d }
      unfolding deliver_cue delivered
      delivery-heard w = rw (z, w)

      pub delivery-idle : waits_on h.field.plan cues d ≡ false → deliver_cue h cues d ≡ record { answer = Idle; cues = cues }
      unfolding deliver_cue delivered
      delivery-idle w = rw (z, w)

-- of a field that 31 and 71 let pass only the plan matters: it may go on between deliveries
pub delivery-by-plan : (h g : Held) → FieldReady h → FieldReady g → h.field.plan ≡ g.field.plan → (cues : List Cue) (d : ℕ) → deliver_cue h cues d ≡ deliver_cue g cues d
unfolding deliver_cue delivery_refusal
delivery-by-plan h g r s e cues d = rw (r.admitted, r.agreed, s.admitted, s.agreed, e)
