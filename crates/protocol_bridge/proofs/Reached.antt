-- THE BRIDGE FROM SETUP ON: a response at a state that was reached after n messages leads to a state that is reached after n and its own messages
-- (`wake-after`, `respond-after`). So no response is refused by 32, and none by 33 (`after-fits`).
use Rattle.std.specs.Prelude.{ℕ, ◌+◌, ◌≤◌, ◌<◌, ◌≡◌, ◌⊎◌, List, ◌∷◌, ◌++◌, length}
use Rattle.std.proofs.Common.{arith, subst, inl, inr, ⊎_elim}
use Rattle.base.specs.Ceiling.{ceiling}
use Rattle.format_message.specs.Msg.{Msg}
use Rattle.node.specs.declared.Node.{Node}
use Rattle.node.specs.Work.{Work}
use Rattle.node.specs.Rules.{wakes}
use Rattle.protocol.proofs.Prelude.{Network, Edge, ProtocolState, Idle, pop}
use Rattle.protocol_invariant.proofs.Step.{inv-step}
use Rattle.protocol_invariant.proofs.Reach.{Reach, reach-steps, reach-ceiling}
use Rattle.protocol_bridge.proofs.Real.{Real, real, own_p, place_in}
use Rattle.protocol_bridge.proofs.Fin.{Shows, Fin, Keeps}
use Rattle.protocol_bridge.proofs.Bridge.{response, BackByStep, wakes-bridge, respond-bridge}

-- every small step keeps the invariant
pub keeps : (p : Network) → Keeps p
keeps p s s' t i = inv-step t i

-- after the response w of v, which answers c: the tables are r with w placed at v
pub record AfterResponse (p : Network) (r : Real) (v c n : ℕ) (w : Work) : Type 0 where
  pub to : ProtocolState
  pub reach : Reach p to (n + length w.sends)
  pub idle : Idle to
  pub answer : w.answer ≡ c
  pub is : real to ≡ place_in r v w

ends_at : {p : Network} {s : ProtocolState} {r : Real} {v c n : ℕ} {w : Work} → Reach p s n → Fin p r v c 0 w s → AfterResponse p r v c n w
ends_at {p} {n = n} {w = w} h f =
    let e : f.n ≡ length w.sends = omega (arith, f.count) in
    record { to = f.to; reach = subst (λ x. Reach p f.to (n + x)) e (reach-steps f.steps h); idle = f.idle; answer = f.answer; is = f.at.is }

-- not 33: the messages of the response are within M
pub after-fits : {p : Network} {r : Real} {v c n : ℕ} {w : Work} → AfterResponse p r v c n w → n + length w.sends ≤ ceiling p.N p.g.L
after-fits a = reach-ceiling a.reach

module _ {p : Network} {s : ProtocolState} {n : ℕ} (h : Reach p s n) (idle : Idle s) where
  -- a wake step
  pub wake-after : {x : Node} {v : ℕ} → Shows (real s) v x → v < p.N → s.st v ≡ 0 → AfterResponse p (real s) v 0 n (wakes (own_p p v) x (s.mark v))
  wake-after {x} {v} shows lt z = ends_at h (wakes-bridge p s x v shows idle lt z)

  -- a service of the first message of a channel: it is taken, or put back to any later place
  pub respond-after : {x : Node} {u v k : ℕ} {m : Msg} {rest : List Msg} → Shows (real s) v x → Edge p k u v → s.ch u k ≡ m ∷ rest
      → AfterResponse p (real (pop s u k rest)) v 0 n (response p s x v k m)
      ⊎ (BackByStep p s x u v k m rest × ((a b : List Msg) → rest ≡ a ++ b → AfterResponse p (real (pop s u k (a ++ (m ∷ b)))) v 1 n (response p s x v k m)))
  respond-after shows ends q =
      ⊎_elim (λ t. inl (ends_at h t.fin)) (λ t. inr (t, λ a b e. ends_at h (t.fin a b e))) (respond-bridge (keeps p) h.inv shows ends q idle)
