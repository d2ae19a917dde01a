-- No step sends more than 191 messages, whatever the field (`most-191`): a module of an accepted plan has at most 191 links, and a response sends two messages, or
-- one over each link, at the most. So 191 places are always enough (`room-191`).
use Rattle.std.specs.Prelude.{ℕ, ◌≤◌, ◌<◌, ◌≡◌, ◌⊎◌, Bool, List, length}
use native.Mathlib.Omega.{arith}
use Rattle.std.proofs.Common.{sym, ap, ◌∙◌}
use Rattle.base.proofs.laws.Cond.{by-eq}
use Rattle.plan.specs.Links.{Plan, modules_of, links_of}
use Rattle.plan.proofs.laws.Accepted.{Accepted}
use Rattle.plan.proofs.laws.Weights.{earlier-trans, earlier-total}
use Rattle.node.specs.Work.{earliest, degree}
use Rattle.node.proofs.laws.First.{Earliest, Empty, first}
use Rattle.node.proofs.laws.Sends.{few-respond, few-wakes}
use Rattle.field.specs.Edges.{own_of, limit_of}
use Rattle.field.specs.State.{State}
use Rattle.field.specs.Held.{Held, state_of, step_alone}
use Rattle.field_calls.specs.Trail.{sends_at, step_taken}
use Rattle.field_laws.proofs.Cases.{FieldStep, wake-step, hand-step, serve-step}
use Rattle.field_laws.proofs.Degree.{degree-below}
use Rattle.field_laws.proofs.Laid.{alone-took, alone-plan}
use Rattle.field_laws.proofs.Sends.{length-posted}
use Rattle.preview.specs.Preview.{Preview, would_send, preview}
use Rattle.preview.proofs.laws.Outcomes.{preview-refused, preview-shown}

module _ (p : Plan) (a : Accepted p) (s : State) where
  wide : (v : ℕ) → v < modules_of p → degree (own_of p v) ≤ 191
  wide v l = omega (arith, degree-below p a v l, a.modules_ok)

  search : (v : ℕ) (f : ℕ → Bool) → Empty (own_of p v) f (links_of p) (earliest (own_of p v) f (links_of p)) ⊎ Earliest (own_of p v) f (links_of p) (earliest (own_of p v) f (links_of p))
  search v f = first (own_of p v) f (earlier-trans p) (earlier-total p) (omega (arith, a.links_ok)) (links_of p) (omega arith)

  few-sends : {kind number : ℕ} {s' : State} → FieldStep p s kind number s' → length (sends_at p (step_taken kind number s)) ≤ 191
  unfolding sends_at
  few-sends (wake-step {v} h) = (few-wakes (own_of p v) (limit_of p) 191 (omega arith) (wide v h.within) (search v) _ _).most
  few-sends (hand-step h) = omega arith
  few-sends (serve-step {v} h) = (few-respond (own_of p v) (limit_of p) 191 (omega arith) (wide v h.within) (search v) _ _ _ _).most

module _ (kind number : ℕ) (h : Held) where
  pub most-191 : (step_alone kind number h).refusal ≡ 0 → length (would_send kind number h) ≤ 191
  unfolding would_send
  most-191 e =
      omega (
        arith,
        length-posted h.field.plan number (sends_at h.field.plan (step_taken kind number (state_of h))),
        few-sends h.field.plan (alone-plan kind number h e) (state_of h) (alone-took kind number h e),
      )

  -- so 75 never comes where there are 191 places: the answer is the step's own
  pub room-191 : (buffer : List ℕ) → 191 ≤ length buffer → (preview kind number h buffer).answer.refusal ≡ (step_alone kind number h).refusal
  room-191 buffer l = by-eq (step_alone kind number h).refusal 0
      (λ e. ap (λ (x : Preview). x.answer.refusal) (preview-shown kind number h buffer e (omega (arith, most-191 e))) ∙ sym e)
      (λ n. ap (λ (x : Preview). x.answer.refusal) (preview-refused kind number h buffer n))
