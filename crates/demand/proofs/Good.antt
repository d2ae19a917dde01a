-- GOOD STATES of a field: those that the protocol reaches, seen without its ghosts. Setup is one (`good_start`), and what a response leaves (`good-after`).
use Rattle.std.specs.Prelude.{ℕ, ◌+◌, ◌<◌, ◌≡◌, refl, false, List, length, replicate}
use Rattle.std.proofs.Common.{sym, ap, ap₂, subst, ◌∙◌, true≢false}
use Rattle.base.proofs.laws.Cond.{by-eq}
use Rattle.plan.proofs.laws.Accepted.{Accepted}
use Rattle.plan.specs.Links.{Plan, modules_of}
use Rattle.node.specs.Work.{Own, Work}
use Rattle.field.specs.Edges.{is_own, own_of, marks_in}
use Rattle.field.specs.State.{State, node_at, mark_at}
use Rattle.field.specs.Held.{state_of, fresh}
use Rattle.protocol.specs.State.{ProtocolState, setup_state}
use Rattle.protocol.specs.Step.{Idle}
use Rattle.protocol_invariant.proofs.Reach.{Reach, reach-setup}
use Rattle.protocol_bridge.proofs.Real.{Real, real, own_p, place_in}
use Rattle.protocol_bridge.proofs.Fin.{Shows, mark-at}
use Rattle.protocol_bridge.proofs.Reached.{AfterResponse}
use Rattle.demand_view.proofs.Net.{net, own_same, net-ends-own}
use Rattle.demand_view.proofs.View.{nodes, chans, tables-show, view, nodes-in}
use Rattle.demand_view.proofs.Start.{view-start}

pub record Good (p : Plan) (a : Accepted p) (s : State) : Type 0 where
  -- a state of the protocol, between two responses, whose tables are the field's
  pub at : ProtocolState
  pub is : real at ≡ view p s
  pub idle : Idle at
  -- it has the invariant, and the messages sent are paid for
  pub reach : Reach (net p a) at s.sent

module _ (p : Plan) (a : Accepted p) where
  pub good_start : (lent : List ℕ) → Good p a (state_of (record { field = fresh p; words = replicate (length lent) 0 }))
  good_start lent = record { at = setup_state; is = sym (view-start p a lent); idle = (refl, refl, refl); reach = reach-setup (net p a) }

  module _ (s : State) (g : Good p a s) where
    -- the values of a module, the marks and the channels, read from the protocol's state
    pub node-shown : (v : ℕ) → v < modules_of p → Shows (real g.at) v (node_at s v)
    node-shown v l =
        subst (λ r. Shows r v (node_at s v)) (sym g.is)
        (subst (Shows (view p s) v) (nodes-in p s.cells v l) (tables-show (nodes p s.cells) (marks_in p s.marks) (chans p s.words) v))

    pub good-mark : (v : ℕ) → g.at.mark v ≡ mark_at p s v
    good-mark v = ap (λ (r : Real). r.mark v) (g.is)

    -- a rule of one node, applied there, is applied here
    pub rule-is : (v : ℕ) (f : Own → (ℕ → ℕ) → Work) → f (own_p (net p a) v) (g.at.mark v) ≡ f (own_of p v) (mark_at p s v)
    rule-is v f = ap₂ f (sym (own_same p a v)) (good-mark v)

    -- the protocol goes on to tables r with the response w placed at v
    module _ {v c : ℕ} {r : Real} {w : Work} (f : AfterResponse (net p a) r v c s.sent w) where
      -- marks are of own links only (marks)
      pub no-mark : (k : ℕ) → is_own p v k ≡ false → w.mark k ≡ 0
      no-mark k o = by-eq (w.mark k) 0 (λ e. e)
          (λ n. absurd (true≢false (sym (net-ends-own p a (f.reach.inv.markings.own v k (λ e. n (sym (mark-at {w = w} (record { is = f.is }) k) ∙ e))).1) ∙ o)))

      pub good-after : (s' : State) → s'.sent ≡ s.sent + length w.sends → view p s' ≡ place_in r v w → Good p a s'
      good-after s' e q = record { at = f.to; is = f.is ∙ sym q; idle = f.idle; reach = subst (Reach (net p a) (f.to)) (sym e) (f.reach) }
