-- THE BRIDGE: the response that the rules define for a node, at any state with the invariant, is a sequence of small steps (`wakes-bridge`, `respond-bridge`),
-- and is never refused by 32 (`never-32`). For all kinds of messages and all corners of document 01.
use Rattle.std.specs.Prelude.{ℕ, ◌<◌, ◌≡◌, refl, ◌≢◌, ◌⊎◌, List, ◌∷◌, ◌++◌, length}
use Rattle.std.proofs.Common.{arith, sym, ◌∙◌, inl, inr, ⊎_elim}
use Rattle.std.proofs.Math.Path.{ap}
use Rattle.base.proofs.laws.Cond.{by-eq}
use Rattle.base.specs.Log.{log2}
use Rattle.format_message.specs.Msg.{Msg, none, connect, initiate, test, accept, reject, report, change}
use Rattle.node.specs.declared.Node.{Node}
use Rattle.node.specs.Work.{Own, Work, start, put_back, earliest, any_edge}
use Rattle.node.specs.Rules.{wakeup, wakes, respond, respond_to, on_connect, on_initiate, on_test, on_accept, on_reject, on_report, change_root}
use Rattle.node.proofs.laws.Rules.{wake-alone, wake-edge, awake-wakes, awake-is, asleep-not}
use Rattle.protocol.proofs.Prelude.{Network, Edge, flip, end_lt, ends-irr, ProtocolState, Idle, Blocked, Inv, Rouse, pop, pop-head}
use Rattle.protocol.specs.Step.{back}
use Rattle.protocol_invariant.proofs.Safe.{to-sleeper}
use Rattle.protocol_bridge.proofs.Real.{Real, real, own_p, place_in}
use Rattle.protocol_bridge.proofs.Place.{post-else}
use Rattle.protocol_bridge.proofs.Fin.{Shows, Fin, Keeps, Serving, keeps-steps, fin-over, fin-last, fin-same, resume, at-pop, st-is, ch-is}
use Rattle.protocol_bridge.proofs.Wake.{wake-fin}
use Rattle.protocol_bridge.proofs.Connect.{connect-fin}
use Rattle.protocol_bridge.proofs.Initiate.{initiate-fin}
use Rattle.protocol_bridge.proofs.Test.{asked-fin, reject-fin}
use Rattle.protocol_bridge.proofs.Report.{accept-fin, reported-fin, change-fin}

-- ---- the response of an awake node

abbrev pub on_awake : Own → ℕ → Msg → ℕ → Work → Work
on_awake o limit (connect l) j w = on_connect o limit l j w
on_awake o limit (initiate l f x) j w = on_initiate o l f x j w
on_awake o limit (test l f) j w = on_test o l f j w
on_awake o limit accept j w = on_accept o j w
on_awake o limit reject j w = on_reject o j w
on_awake o limit (report x) j w = on_report o x j w
on_awake o limit change j w = change_root w

module _ (o : Own) (limit j : ℕ) (w : Work) where
  pub respond-awake : (m : Msg) → w.node.status ≢ 0 → respond_to o limit m j w ≡ on_awake o limit m j w
  unfolding respond_to
  respond-awake (connect l) n = ap (on_connect o limit l j) (awake-is o j w n)
  respond-awake (initiate l f x) n = asleep-not w (on_initiate o l f x j w) n
  respond-awake (test l f) n = ap (on_test o l f j) (awake-is o j w n)
  respond-awake accept n = asleep-not w (on_accept o j w) n
  respond-awake reject n = asleep-not w (on_reject o j w) n
  respond-awake (report x) n = asleep-not w (on_report o x j w) n
  respond-awake change n = asleep-not w (change_root w) n

  -- a sleeper wakes first, for Connect and Test
  pub respond-asleep : (m : Msg) → Rouse m → w.node.status ≡ 0 → respond_to o limit m j w ≡ on_awake o limit m j (wakeup o j w)
  unfolding respond_to
  respond-asleep (connect l) h e = ap (on_connect o limit l j) (awake-wakes o j w e)
  respond-asleep (initiate l f x) h e = absurd h
  respond-asleep (test l f) h e = ap (on_test o l f j) (awake-wakes o j w e)
  respond-asleep accept h e = absurd h
  respond-asleep reject h e = absurd h
  respond-asleep (report x) h e = absurd h
  respond-asleep change h e = absurd h

-- who has woken is awake
woken-awake : (o : Own) (j : ℕ) (w : Work) → (wakeup o j w).node.status ≢ 0
woken-awake o j w e = let m = earliest o any_edge (o.edges) in by-eq m none
    (λ q. let z = ap (λ (x : Work). x.node.status) (wake-alone j m w q) in omega arith)
    (λ n. let z = ap (λ (x : Work). x.node.status) (wake-edge j m w n) in omega arith)

-- it is taken, by small steps, or put back, and then the small step `back` can be taken
served : {p : Network} → Keeps p → {s : ProtocolState} {r : Real} {u v k : ℕ} (m : Msg) {rest : List Msg} {w : Work} → Serving p s r u v k m rest w
    → Fin p r v 0 (length w.sends) (on_awake (own_p p v) (log2 p.N) m k w) s ⊎ ((on_awake (own_p p v) (log2 p.N) m k w ≡ put_back w) × Blocked s v k m)
served keeps (connect l) sv = connect-fin keeps sv
served keeps (initiate l f x) sv = inl (initiate-fin keeps sv)
served keeps (test l f) sv = asked-fin keeps sv
served keeps accept sv = inl (accept-fin keeps sv)
served keeps reject sv = inl (reject-fin keeps sv)
served keeps (report x) sv = reported-fin keeps sv
served keeps change sv = inl (change-fin keeps sv)

-- ---- the theorems

-- the response of v, a node n, to m, which came over k
abbrev pub response : Network → ProtocolState → Node → ℕ → ℕ → Msg → Work
response p s n v k m = respond (own_p p v) (log2 p.N) m k n (s.mark v)

-- (1) THE WAKE: a sleeper's response to a wake step is one small step. Its answer is 0: it is never refused.
pub wakes-bridge : (p : Network) (s : ProtocolState) (n : Node) (v : ℕ) → Shows (real s) v n → Idle s → v < p.N → s.st v ≡ 0 → Fin p (real s) v 0 0 (wakes (own_p p v) n (s.mark v)) s
wakes-bridge p s n v shows idle lt asleep = wake-fin p s none shows refl idle lt asleep

-- m, from u over k with `rest` behind it, is taken: small steps lead to the tables without m, with the response placed at v
pub record TakenBySteps (p : Network) (s : ProtocolState) (n : Node) (u v k : ℕ) (m : Msg) (rest : List Msg) : Type 0 where
  pub fin : Fin p (real (pop s u k rest)) v 0 0 (response p s n v k m) s

-- m is put back to any later place of its channel: by a wake if v sleeps, and the small step `back`
pub record BackByStep (p : Network) (s : ProtocolState) (n : Node) (u v k : ℕ) (m : Msg) (rest : List Msg) : Type 0 where
  pub answer : (response p s n v k m).answer ≡ 1
  pub fin : (a b : List Msg) → rest ≡ a ++ b → Fin p (real (pop s u k (a ++ (m ∷ b)))) v 1 0 (response p s n v k m) s
  -- an awake node is left as it is
  pub blocked : s.st v ≢ 0 → Blocked s v k m
  pub still : s.st v ≢ 0 → response p s n v k m ≡ put_back (start n (s.mark v))

module _ {p : Network} (keeps : Keeps p) {s : ProtocolState} (i : Inv p s) {n : Node} {u v k : ℕ} {m : Msg} {rest : List Msg} (shows : Shows (real s) v n) (ends : Edge p k u v) (q : s.ch u k ≡ m ∷ rest) where
  -- before it looks at m, v's response has come to w₁: it is awake
  module _ {w₁ : Work} (f : Fin p (real s) v 0 0 w₁ s) (up : w₁.node.status ≢ 0) (is : response p s n v k m ≡ on_awake (own_p p v) (log2 p.N) m k w₁)
      (unmoved : s.st v ≢ 0 → Blocked f.to v k m → Blocked s v k m × (w₁ ≡ start n (s.mark v))) where
    serving : Serving p f.to (real (pop s u k rest)) u v k m rest w₁
    serving =
        record {
          inv = keeps-steps keeps f.steps i;
          idle = f.idle;
          ends = ends;
          awake = λ e. up (sym (st-is f.at) ∙ e);
          head = ap (λ c. c u k) (ch-is f.at) ∙ (post-else s.ch u v k w₁.sends (ends-irr p ends) ∙ q);
          at = at-pop f.at u k rest (ends-irr p ends);
          fresh = f.answer;
        }

    put-back : response p s n v k m ≡ put_back w₁ → Blocked f.to v k m → BackByStep p s n u v k m rest
    put-back e h =
        record {
          answer = ap (λ (x : Work). x.answer) e;
          fin = λ a b c. fin-same e (resume f (fin-last (back a b f.idle ends serving.awake (serving.head ∙ ap (λ l. m ∷ l) c) h) (omega arith) f.idle refl (record { is = (at-pop f.at u k (a ++ (m ∷ b)) (ends-irr p ends)).is })));
          blocked = λ y. (unmoved y h).0;
          still = λ y. e ∙ ap put_back (unmoved y h).1;
        }

    outcome : TakenBySteps p s n u v k m rest ⊎ BackByStep p s n u v k m rest
    outcome = ⊎_elim (λ g. inl (record { fin = fin-same is (resume f g) })) (λ g. inr (put-back (is ∙ g.0) g.1)) (served keeps m serving)

  abbrev w₀ : Work
  w₀ = start n (s.mark v)

  module _ (idle : Idle s) where
    -- it is Connect or Test
    asleep : s.st v ≡ 0 → TakenBySteps p s n u v k m rest ⊎ BackByStep p s n u v k m rest
    asleep z =
        let rouses = to-sleeper i k u v m ends (pop-head s.ch u k q) z in
        outcome (wake-fin p s k shows refl idle (end_lt p (flip ends)) z) (woken-awake (own_p p v) k w₀) (respond-asleep (own_p p v) (log2 p.N) k w₀ m rouses (sym (st-is shows) ∙ z)) (λ y h. absurd (y z))

    awake : s.st v ≢ 0 → TakenBySteps p s n u v k m rest ⊎ BackByStep p s n u v k m rest
    awake y =
        let up : n.status ≢ 0 = λ e. y (st-is shows ∙ e) in
        outcome (fin-over {c = 0} {w = w₀} idle refl shows) up (respond-awake (own_p p v) (log2 p.N) k w₀ m up) (λ h b. (b, refl))

    -- THE RESPONSE to the first message of a channel is taken or put back
    pub respond-bridge : TakenBySteps p s n u v k m rest ⊎ BackByStep p s n u v k m rest
    respond-bridge = by-eq (s.st v) 0 asleep awake

    -- NEVER REFUSED: none of the conditions of refusal 32 is met
    pub never-32 : (response p s n v k m).answer ≢ 32
    never-32 e = ⊎_elim (λ t. omega (arith, t.fin.answer)) (λ t. omega (arith, t.answer)) respond-bridge

    pub answer-cases : ((response p s n v k m).answer ≡ 0) ⊎ ((response p s n v k m).answer ≡ 1)
    answer-cases = ⊎_elim (λ t. inl t.fin.answer) (λ t. inr t.answer) respond-bridge

-- a put-back at an awake node changes no table but the channel
pub waits-place : {p : Network} {s : ProtocolState} {n : Node} {u v k : ℕ} {m : Msg} {rest : List Msg} → Shows (real s) v n → u ≢ v → BackByStep p s n u v k m rest → s.st v ≢ 0
    → (l : List Msg) → place_in (real (pop s u k l)) v (response p s n v k m) ≡ real (pop s u k l)
waits-place {s} {u = u} {v} {k} shows d h y l = ap (place_in (real (pop s u k l)) v) (h.still y) ∙ sym (at-pop shows u k l d).is
