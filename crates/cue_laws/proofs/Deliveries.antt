-- Deliveries on a field that 31 and 71 let pass, from good records on: each is heard, idle or refused by 42 (`delivery-cases`); a list of them is a trail of
-- arrivals (`deliveries-trail`), and any trail is a list of them (`trail-deliveries`).
use Rattle.std.specs.Prelude.{ℕ, ◌*◌, ◌≤◌, ◌<◌, ◌≡◌, true, false, cond, length}
use Rattle.std.proofs.Common.{arith, sym, subst, ◌∙◌}
use Rattle.std.proofs.Math.Path.{refl, ap}
use mathlib.Core.List.{List, [], ◌∷◌, ◌++◌}
use Rattle.base.proofs.laws.Cond.{bool_cases, ltb-cases}
use Rattle.plan.specs.Links.{Plan, links_of}
use Rattle.field.specs.Held.{Held}
use Rattle.cue.specs.declared.Cue.{Cue}
use Rattle.cue.specs.Delivery.{Refused, Idle, Heard}
use Rattle.cue.specs.Copies.{waits_on, arrival, delivered}
use Rattle.cue.specs.Calls.{left_by_sending, delivery_refusal, Delivered, deliver_cue}
use Rattle.cue.specs.Claims.{deliveries, says_heard, heard_over}
use Rattle.cue.proofs.laws.Copies.{delivered-arrival, delivered-idle}
use Rattle.cue.proofs.laws.Refusals.{FieldReady, ready-accepted, delivery-42, facts-delivery}
use Rattle.cue.proofs.laws.Calls.{delivery-keeps, delivery-heard, delivery-idle}
use Rattle.cue_laws.proofs.Net.{Net}
use Rattle.cue_laws.proofs.NetOf.{net_of}
use Rattle.cue_laws.proofs.Good.{GoodCues}
use Rattle.cue_laws.proofs.Once.{arrival-good}
use Rattle.cue_laws.proofs.Rule.{good-test}
use Rattle.cue_laws.proofs.Trail.{Trail, rests, goes-on, trail-good}

module _ (h : Held) (ready : FieldReady h) where
  abbrev plan : Plan
  plan = h.field.plan

  pub ready_net : Net plan
  ready_net = net_of plan (ready-accepted h ready)

  module _ (cues : List Cue) (good : GoodCues plan cues) (d : ℕ) where
    left : left_by_sending plan cues ≡ true
    left = good-test plan ready_net cues good

    unrefused : d < 2 * links_of plan → delivery_refusal h (length cues) cues d ≡ 0
    unrefused l = facts-delivery h (length cues) cues d (record { ready = ready; enough = good.enough; left = left; below = l })

    by-42 : 2 * links_of plan ≤ d → delivery_refusal h (length cues) cues d ≡ 42
    by-42 l = delivery-42 h (length cues) cues d ready good.enough left l

    refused-by-42 : 2 * links_of plan ≤ d → deliver_cue h cues d ≡ record { answer = Refused 42; cues = cues }
    refused-by-42 l =
        delivery-keeps h cues d (λ e. omega (arith, by-42 l, e))
        ∙ ap (λ (r : ℕ). record { answer = Refused r; cues = cues }) (by-42 l)

    good-heard : d < 2 * links_of plan → waits_on plan cues d ≡ true → deliver_cue h cues d ≡ record { answer = Heard; cues = arrival plan cues d }
    good-heard l w = delivery-heard h cues d (unrefused l) w

    -- THE way to reason on a delivery
    pub delivery-cases : (P : Delivered → Type 0)
        → (d < 2 * links_of plan → waits_on plan cues d ≡ true → P (record { answer = Heard; cues = arrival plan cues d }))
        → (d < 2 * links_of plan → waits_on plan cues d ≡ false → P (record { answer = Idle; cues = cues }))
        → (2 * links_of plan ≤ d → P (record { answer = Refused 42; cues = cues }))
        → P (deliver_cue h cues d)
    delivery-cases P heard idle refused =
        ltb-cases d (2 * links_of plan) (λ b. P (deliver_cue h cues d))
        (λ l. bool_cases (waits_on plan cues d)
        (λ w. subst P (sym (good-heard l w)) (heard l w))
        (λ w. subst P (sym (delivery-idle h cues d (unrefused l) w)) (idle l w)))
        (λ l. subst P (sym (refused-by-42 l)) (refused l))

    pub delivery-leaves : d < 2 * links_of plan → (deliver_cue h cues d).cues ≡ delivered plan cues d
    delivery-leaves l = delivery-cases (λ x. x.cues ≡ delivered plan cues d)
        (λ m w. sym (delivered-arrival plan cues d w))
        (λ m w. sym (delivered-idle plan cues d w))
        (λ m. absurd (omega arith))

  -- LISTS OF DELIVERIES

  pub deliveries-trail : (ds : List ℕ) (cues : List Cue) → GoodCues plan cues → Trail plan cues (heard_over h ds cues) (deliveries h ds cues)
  unfolding deliveries heard_over
  deliveries-trail [] cues good = rests
  deliveries-trail (d ∷ ds) cues good = delivery-cases cues good d
      (λ x. Trail plan cues (cond (says_heard x.answer) (d ∷ heard_over h ds x.cues) (heard_over h ds x.cues)) (deliveries h ds x.cues))
      (λ l w. goes-on d l w (deliveries-trail ds (arrival plan cues d) (arrival-good plan ready_net cues good d l w)))
      (λ l w. deliveries-trail ds cues good)
      (λ l. deliveries-trail ds cues good)

  pub deliveries-good : (ds : List ℕ) (cues : List Cue) → GoodCues plan cues → GoodCues plan (deliveries h ds cues)
  deliveries-good ds cues good = trail-good plan ready_net good (deliveries-trail ds cues good)

  pub trail-deliveries : {cues end : List Cue} {ds : List ℕ} → GoodCues plan cues → Trail plan cues ds end → deliveries h ds cues ≡ end
  unfolding deliveries
  trail-deliveries good rests = refl
  trail-deliveries {cues} good (goes-on {ds} d l w t) =
      ap (λ x. deliveries h ds x.cues) (good-heard cues good d l w)
      ∙ trail-deliveries (arrival-good plan ready_net cues good d l w) t

pub deliveries-append : (h : Held) (ds es : List ℕ) (cues : List Cue) → deliveries h (ds ++ es) cues ≡ deliveries h es (deliveries h ds cues)
unfolding deliveries
deliveries-append h [] es cues = refl
deliveries-append h (d ∷ ds) es cues = deliveries-append h ds es (deliver_cue h cues d).cues
