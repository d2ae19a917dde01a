-- WHATEVER SEQUENCE OF SMALL STEPS IS TAKEN FROM SETUP: the invariant holds (`from-setup`), and no more messages are sent than the ceiling (`reach-ceiling`).
use Rattle.protocol.proofs.Prelude.{ℕ, ◌+◌, ◌*◌, ◌≤◌, arith, ◌≡◌, subst, Network, Tree, ProtocolState, setup_state, Inv, sends, Steps, done, then}
use Rattle.protocol.proofs.Setup.{inv-setup}
use Rattle.base.specs.Log.{log2}
use Rattle.base.specs.Ceiling.{ceiling}
use Rattle.protocol_budget.proofs.Ceiling.{Sent, sent-setup, sent-step, sent-ceiling, sent-low}
use Rattle.protocol_invariant.proofs.Step.{inv-step}
use Rattle.protocol_invariant.proofs.Within.{Within, Carried, Unrefused, only-tree, inv-within, carried, unrefused}

-- a state of which the invariant holds, after n messages
pub record Reach (p : Network) (s : ProtocolState) (n : ℕ) : Type 0 where
  pub inv : Inv p s
  pub sent : Sent p s n

pub reach-setup : (p : Network) → Reach p setup_state 0
reach-setup p = record { inv = inv-setup p; sent = sent-setup p }

pub reach-steps : {p : Network} {s s' : ProtocolState} {n m : ℕ} → Steps p s s' m → Reach p s n → Reach p s' (n + m)
reach-steps {p} {n = n} (done {s}) h = let e : n ≡ n + 0 = omega arith in subst (λ x. Reach p s x) e h
reach-steps {p} {n = n} (then {s'' = z} {n = m} t w) h =
    let r = reach-steps w (record { inv = inv-step t (h.inv); sent = sent-step (h.inv) t (h.sent) }) in
    subst (λ x. Reach p z x) (assoc n (sends t) m) r
  where
    assoc : (a b c : ℕ) → (a + b) + c ≡ a + (b + c)
    assoc a b c = omega arith

-- EVERY SEQUENCE OF EVENTS FROM SETUP: s after n messages
pub from-setup : {p : Network} {s : ProtocolState} {n : ℕ} → Steps p setup_state s n → Reach p s n
from-setup {p} {s} {n} w = let e : 0 + n ≡ n = omega arith in subst (λ x. Reach p s x) e (reach-steps w (reach-setup p))

-- NO MORE THAN M
pub reach-ceiling : {p : Network} {s : ProtocolState} {n : ℕ} → Reach p s n → n ≤ ceiling p.N p.g.L
reach-ceiling h = sent-ceiling (h.inv) (h.sent)

-- the lower one, for two nodes or more
pub reach-low : {p : Network} {s : ProtocolState} {n : ℕ} → Reach p s n → 2 ≤ p.N → n + 2 * p.N ≤ p.N * (5 * log2 p.N) + 2 * p.g.L
reach-low h l = sent-low (h.inv) (h.sent) l

-- none for fewer
pub reach-none : {p : Network} {s : ProtocolState} {n : ℕ} → Reach p s n → p.N ≤ 1 → n ≡ 0
reach-none h l = h.sent.few l

-- ONLY TREE EDGES ARE BRANCH
pub reach-tree : {p : Network} {s : ProtocolState} {n : ℕ} → Reach p s n → (v k : ℕ) → s.mark v k ≡ 1 → Tree p k
reach-tree h v k m = only-tree (h.inv) v k m

-- VALUES AND MESSAGES ARE WITHIN THEIR LISTS, and no condition of refusal 32 is met
pub reach-within : {p : Network} {s : ProtocolState} {n : ℕ} → Reach p s n → Within p s × Carried p s × Unrefused p s
reach-within h = (inv-within (h.inv), carried (h.inv), unrefused (h.inv))
