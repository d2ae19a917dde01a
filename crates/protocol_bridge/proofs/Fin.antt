-- A response that small steps carry out: what is placed so far (`At`), and the steps to its end (`Fin`; `fin-step`, `fin-last`).
use Rattle.std.specs.Prelude.{ℕ, ◌+◌, ◌≡◌, ◌≢◌, List, [], ◌∷◌, length}
use Rattle.std.proofs.Common.{arith, sym, ap, subst, ◌∙◌, length-append}
use Rattle.base.proofs.laws.Cond.{upd_same}
use Rattle.format_message.specs.Msg.{Msg}
use Rattle.node.specs.declared.Node.{Node}
use Rattle.node.specs.Work.{Work, Send, start, with_node, set_mark, set_status, set_best, set_test, set_count, set_halted, send}
use Rattle.node.specs.Rules.{copied, informed, woken}
use Rattle.protocol.specs.Network.{Network, Edge}
use Rattle.protocol.specs.State.{ProtocolState}
use Rattle.protocol.specs.Step.{SmallStep, Idle, pop}
use Rattle.protocol.specs.Run.{sends, Steps, done, then}
use Rattle.protocol.specs.Inv.{Inv}
use Rattle.protocol_bridge.proofs.Real.{Real, real, post, place_in}
use Rattle.protocol_bridge.proofs.Place.{to_status, to_best, to_test, to_count, to_halted, to_mark, to_chans, to_send, to_pop, to_told, to_woken, place-status, place-best, place-test, place-count, place-halted, place-mark, place-woken, place-told, place-send, place-copied, place-pop}

-- the tables x are r with the response w, as far as it has come, placed at v
pub record At (r : Real) (v : ℕ) (w : Work) (x : Real) : Type 0 where
  pub is : x ≡ place_in r v w

-- n has v's values in the tables r: a response that has done nothing changes none. (n may have values that no table has.)
abbrev pub Shows : Real → ℕ → Node → Type 0
Shows r v n = At r v (start n (r.mark v)) r

module _ {r : Real} {v : ℕ} {w : Work} {x : Real} (a : At r v w x) where
  -- ---- v's values in the tables are those of the response

  pub st-is : x.st v ≡ w.node.status
  st-is = ap (λ (y : Real). y.st v) (a.is) ∙ upd_same r.st v w.node.status

  pub lev-is : x.lev v ≡ w.node.level
  lev-is = ap (λ (y : Real). y.lev v) (a.is) ∙ upd_same r.lev v w.node.level

  pub id-is : x.id v ≡ w.node.identity
  id-is = ap (λ (y : Real). y.id v) (a.is) ∙ upd_same r.id v w.node.identity

  pub bw-is : x.bw v ≡ w.node.weight
  bw-is = ap (λ (y : Real). y.bw v) (a.is) ∙ upd_same r.bw v w.node.weight

  pub be-is : x.be v ≡ w.node.best
  be-is = ap (λ (y : Real). y.be v) (a.is) ∙ upd_same r.be v w.node.best

  pub te-is : x.te v ≡ w.node.test
  te-is = ap (λ (y : Real). y.te v) (a.is) ∙ upd_same r.te v w.node.test

  pub ib-is : x.ib v ≡ w.node.branch
  ib-is = ap (λ (y : Real). y.ib v) (a.is) ∙ upd_same r.ib v w.node.branch

  pub fc-is : x.fc v ≡ w.node.count
  fc-is = ap (λ (y : Real). y.fc v) (a.is) ∙ upd_same r.fc v w.node.count

  pub halt-is : x.halt v ≡ w.node.halted
  halt-is = ap (λ (y : Real). y.halt v) (a.is) ∙ upd_same r.halt v w.node.halted

  pub mark-is : x.mark v ≡ w.mark
  mark-is = ap (λ (y : Real). y.mark v) (a.is) ∙ upd_same r.mark v w.mark

  pub mark-at : (k : ℕ) → x.mark v k ≡ w.mark k
  mark-at k = ap (λ f. f k) mark-is

  pub ch-is : x.ch ≡ post r.ch v w.sends
  ch-is = ap (λ (y : Real). y.ch) (a.is)

  -- ---- an assignment in the tables is one in the response

  pub at-status : (b : ℕ) → At r v (with_node (set_status b w.node) w) (to_status v b x)
  at-status b = record { is = ap (to_status v b) (a.is) ∙ place-status r v w b }

  pub at-best : (e b : ℕ) → At r v (with_node (set_best e b w.node) w) (to_best v e b x)
  at-best e b = record { is = ap (to_best v e b) (a.is) ∙ place-best r v w e b }

  pub at_test : (b : ℕ) → At r v (with_node (set_test b w.node) w) (to_test v b x)
  at_test b = record { is = ap (to_test v b) (a.is) ∙ place-test r v w b }

  pub at_count : (b : ℕ) → At r v (with_node (set_count b w.node) w) (to_count v b x)
  at_count b = record { is = ap (to_count v b) (a.is) ∙ place-count r v w b }

  pub at-halted : (b : ℕ) → At r v (with_node (set_halted b w.node) w) (to_halted v b x)
  at-halted b = record { is = ap (to_halted v b) (a.is) ∙ place-halted r v w b }

  pub at_mark : (k c : ℕ) → At r v (set_mark k c w) (to_mark v k c x)
  at_mark k c = record { is = ap (to_mark v k c) (a.is) ∙ place-mark r v w k c }

  pub at-send : (k : ℕ) (m : Msg) → At r v (send k m w) (to_send v k m x)
  at-send k m = record { is = ap (to_send v k m) (a.is) ∙ place-send r v w k m }

  pub at-woken : (j : ℕ) → At r v (with_node (woken j w.node) w) (to_woken v (woken j w.node) x)
  at-woken j = record { is = ap (to_woken v (woken j w.node)) (a.is) ∙ place-woken r v w j }

  pub at_told : (l f b k : ℕ) → At r v (with_node (informed l f b k w.node) w) (to_told v (informed l f b k w.node) x)
  at_told l f b k = record { is = ap (to_told v (informed l f b k w.node)) (a.is) ∙ place-told r v w l f b k }

  pub at-copied : (cs : List Send) → At r v (copied cs w) (to_chans (post x.ch v cs) x)
  at-copied cs = record { is = ap (λ (y : Real). to_chans (post y.ch v cs) y) (a.is) ∙ place-copied r v w cs }

  -- a change of another node's channel
  pub at-pop : (u k : ℕ) (l : List Msg) → u ≢ v → At (to_pop u k l r) v w (to_pop u k l x)
  at-pop u k l d = record { is = ap (to_pop u k l) (a.is) ∙ place-pop r v w u k l d }

-- one message more
pub one_more : (w : Work) (k : ℕ) (m : Msg) → length w.sends + 1 ≡ length (send k m w).sends
one_more w k m = sym (length-append w.sends (record { edge = k; msg = m } ∷ []))

-- THE REST OF A RESPONSE: from s, where b messages are sent, small steps lead to an idle state whose tables are r with w placed at v;
-- the messages sent in all are w's; w's answer is c
pub record Fin (p : Network) (r : Real) (v c b : ℕ) (w : Work) (s : ProtocolState) : Type 0 where
  pub to : ProtocolState
  pub n : ℕ
  pub steps : Steps p s to n
  pub idle : Idle to
  pub answer : w.answer ≡ c
  pub at : At r v w (real to)
  pub count : b + n ≡ length w.sends

module _ {p : Network} {r : Real} {v c : ℕ} {w : Work} {s : ProtocolState} where
  -- nothing is left to do
  abbrev pub fin-over : Idle s → w.answer ≡ c → At r v w (real s) → Fin p r v c (length w.sends) w s
  fin-over idle z a = record { to = s; n = 0; steps = done; idle = idle; answer = z; at = a; count = omega arith }

  -- a step, then the rest
  pub fin-step : {s' : ProtocolState} {b d : ℕ} (t : SmallStep p s s') → b + sends t ≡ d → Fin p r v c d w s' → Fin p r v c b w s
  fin-step {b} t q f = record { to = f.to; n = sends t + f.n; steps = then t (f.steps); idle = f.idle; answer = f.answer; at = f.at; count = omega (arith, f.count) }

  -- the last step
  pub fin-last : {s' : ProtocolState} {b : ℕ} (t : SmallStep p s s') → b + sends t ≡ length w.sends → Idle s' → w.answer ≡ c → At r v w (real s') → Fin p r v c b w s
  fin-last {s'} t q idle z a = record { to = s'; n = sends t + 0; steps = then t done; idle = idle; answer = z; at = a; count = omega arith }

-- an equal response
pub fin-same : {p : Network} {r : Real} {v c b : ℕ} {w w' : Work} {s : ProtocolState} → w' ≡ w → Fin p r v c b w s → Fin p r v c b w' s
fin-same {p} {r} {v} {c} {b} {s = s} e f = subst (λ y. Fin p r v c b y s) (sym e) f

-- the first steps, then the rest
pub steps-app : {p : Network} {s s' s'' : ProtocolState} {n m : ℕ} → Steps p s s' n → Steps p s' s'' m → (k : ℕ) × (k ≡ n + m) × Steps p s s'' k
steps-app {m} done t = (m, omega arith, t)
steps-app (then t l) r = let q = steps-app l r in (sends t + q.0, omega (arith, q.1), then t q.2)

-- a response that was carried out so far, and the rest from there
pub resume : {p : Network} {r r' : Real} {v c c' b : ℕ} {w w' : Work} {s : ProtocolState} (f : Fin p r v c b w s) → Fin p r' v c' (length w.sends) w' f.to → Fin p r' v c' b w' s
resume f g =
    let t = steps-app f.steps g.steps in
    record { to = g.to; n = t.0; steps = t.2; idle = g.idle; answer = g.answer; at = g.at; count = omega (arith, t.1, f.count, g.count) }

-- every small step keeps the invariant
abbrev pub Keeps : Network → Type 0
Keeps p = (s s' : ProtocolState) → SmallStep p s s' → Inv p s → Inv p s'

pub keeps-steps : {p : Network} → Keeps p → {s s' : ProtocolState} {n : ℕ} → Steps p s s' n → Inv p s → Inv p s'
keeps-steps h done i = i
keeps-steps h (then {s} {s'} t l) i = keeps-steps h l (h s s' t i)

-- v, awake, serves the head m of the channel from u over k: w is its response before it looks at m, r the tables without m
pub record Serving (p : Network) (s : ProtocolState) (r : Real) (u v k : ℕ) (m : Msg) (rest : List Msg) (w : Work) : Type 0 where
  pub inv : Inv p s
  pub idle : Idle s
  pub ends : Edge p k u v
  pub awake : s.st v ≢ 0
  pub head : s.ch u k ≡ m ∷ rest
  pub at : At r v w (real (pop s u k rest))
  pub fresh : w.answer ≡ 0
