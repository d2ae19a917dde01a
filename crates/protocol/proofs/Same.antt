-- Channels c' in which the Reports are as they were: what the clauses on Reports, counts and best weights say stays (`connects-same` to `reports-same`).
-- The results are about `set-ch s c'`; a step that also changes tables which a clause does not read has it by the same fields.
use Rattle.std.specs.Prelude.{ℕ, ◌≤◌, ◌≡◌, refl, ◌⊎◌, List}
use Rattle.std.proofs.Common.{arith, sym, subst, ◌∙◌, inl, inr, ⊎_elim}
use Rattle.base.specs.Pool.{sum_l}
use Rattle.format_message.specs.Msg.{Msg, connect, initiate, test, accept, reject, report}
use Rattle.protocol.specs.Network.{Network, Edge, rank}
use Rattle.protocol.specs.State.{ProtocolState, set-ch}
use Rattle.protocol.specs.Kind.{is_ci, is_t, is_a, is_r}
use Rattle.protocol.specs.Chan.{In, Bef}
use Rattle.protocol.specs.Notion.{Both, GL, Outst, Counting, Covered, CoreEnds}
use Rattle.protocol.specs.Traffic.{Connects, InitOk, Initiates, Testing, Answers, Reports, Owing, Bests}

-- ---- Reports to come, live best weights, what covers an edge

pub outst-ch : (s : ProtocolState) (c' : ℕ → ℕ → List Msg) (c k : ℕ) → (1 ≤ sum_l is_r (s.ch c k) → 1 ≤ sum_l is_r (c' c k)) → Outst s c k → Outst (set-ch s c') c k
outst-ch s c' c k h (inl t) = inl (t.0, ⊎_elim (λ f. inl f) (λ r. inr (h r)) t.1)
outst-ch s c' c k h (inr t) = inr t

pub counting-ch : (s : ProtocolState) (c' : ℕ → ℕ → List Msg) (x : ℕ) → (1 ≤ sum_l is_r (s.ch x (s.ib x)) → Counting (set-ch s c') x) → Counting s x → Counting (set-ch s c') x
counting-ch s c' x h (inl f) = inl f
counting-ch s c' x h (inr (inl g)) = inr (inl g)
counting-ch s c' x h (inr (inr r)) = h r

-- the last of the four cases of b2
pub last-case : {A B C D E : Type 0} → (D → E) → A ⊎ (B ⊎ (C ⊎ D)) → A ⊎ (B ⊎ (C ⊎ E))
last-case f (inl a) = inl a
last-case f (inr (inl b)) = inr (inl b)
last-case f (inr (inr (inl c))) = inr (inr (inl c))
last-case f (inr (inr (inr d))) = inr (inr (inr (f d)))

-- ---- as many Reports on each channel

module _ (p : Network) (s : ProtocolState) (c' : ℕ → ℕ → List Msg) (rep : (w j : ℕ) → sum_l is_r (c' w j) ≡ sum_l is_r (s.ch w j)) where
  pub counting-to : (x : ℕ) → Counting s x → Counting (set-ch s c') x
  counting-to x = counting-ch s c' x (λ r. inr (inr (omega (arith, rep x (s.ib x)))))

  pub covered-to : (u n : ℕ) → Covered p s u n → Covered p (set-ch s c') u n
  covered-to u n t = (t.0, t.1, t.2, t.3, counting-to t.0 t.4, t.5)

  pub owing-same : Owing p s → Owing p (set-ch s c')
  owing-same o = record {
    f4y = λ k v c e n. let t = o.f4y k v c e n in (t.0, t.1, t.2, outst-ch s c' c k (λ r. omega (arith, rep c k)) t.3);
    f4n = λ k v c e h j b t. o.f4n k v c e h j b (outst-ch (set-ch s c') s.ch c k (λ r. omega (arith, rep c k)) t);
  }

  pub bests-same : Bests p s → Bests p (set-ch s c')
  bests-same o = record {
    b1e = λ v h n d. let t = o.b1e v h n d in (t.0, t.1, t.2, t.3, t.4, t.5, t.6, t.7, rep t.0 (s.be v) ∙ t.8);
    b2 = λ k u w e m d g. last-case (covered-to u (rank p k)) (o.b2 k u w e m d g);
  }

-- ---- no new Connect, Initiate, answer

pub connects-same : (p : Network) (s : ProtocolState) (c' : ℕ → ℕ → List Msg) → ((w j l : ℕ) → In (connect l) (c' w j) → In (connect l) (s.ch w j))
    → Connects p s → Connects p (set-ch s c')
connects-same p s c' old o = record { c1m = λ k u v l e n. o.c1m k u v l e (old u k l n); c1 = λ k u v l e n m. o.c1 k u v l e (old u k l n) m }

pub initiates-same : (p : Network) (s : ProtocolState) (c' : ℕ → ℕ → List Msg) → ((w j l f x : ℕ) → In (initiate l f x) (c' w j) → In (initiate l f x) (s.ch w j))
    → Initiates p s → Initiates p (set-ch s c')
initiates-same p s c' old o = record { i1 = λ k u v l f x e n. o.i1 k u v l f x e (old u k l f x n) }

-- an Initiate stays in order where marks, inbound edges or dues change, but not for it
pub init-ok : {p : Network} {lev fr gl gc ub due ub' due' : ℕ → ℕ} {mark mark' : ℕ → ℕ → ℕ} {k u v l f x : ℕ} → InitOk p lev fr gl gc ub due mark k u v l f x
    → Both mark' k u v → ub' v ≡ k → due' v ≡ due v → InitOk p lev fr gl gc ub' due' mark' k u v l f x
init-ok t j u d = record {
  i1j = j;
  i1u = u;
  i1l = t.i1l;
  i1g = t.i1g;
  i1f = t.i1f;
  i1i = t.i1i;
  i1c = t.i1c;
  i1d = λ q. t.i1d q ∙ sym d;
  i1s = t.i1s;
  i1z = t.i1z;
}

pub answers-same : (p : Network) (s : ProtocolState) (c' : ℕ → ℕ → List Msg) → ((w j : ℕ) → In accept (c' w j) → In accept (s.ch w j))
    → ((w j : ℕ) → In reject (c' w j) → In reject (s.ch w j)) → Answers p s → Answers p (set-ch s c')
answers-same p s c' ya yr o = record { a1 = λ k u v e n. o.a1 k u v e (ya u k n); j1 = λ k u v e n. o.j1 k u v e (yr u k n) }

-- as many Tests and answers on each channel, and no new Test
pub testing-same : (p : Network) (s : ProtocolState) (c' : ℕ → ℕ → List Msg) → ((w j l f : ℕ) → In (test l f) (c' w j) → In (test l f) (s.ch w j))
    → ((w j : ℕ) → sum_l is_t (c' w j) ≡ sum_l is_t (s.ch w j)) → ((w j : ℕ) → sum_l is_a (c' w j) ≡ sum_l is_a (s.ch w j)) → Testing p s → Testing p (set-ch s c')
testing-same p s c' old t a o = record {
  e1 = λ k u v l f e n. o.e1 k u v l f e (old u k l f n);
  e1w = λ k u v l f e n. o.e1w k u v l f e (old u k l f n);
  e2w = λ k v u e y z. omega (arith, o.e2w k v u e y z, t v k, a u k);
  e2c = λ k v u e y z. omega (arith, o.e2c k v u e y z, t v k, a u k, t u k);
  m6t = λ k v u e y z. t u k ∙ o.m6t k v u e y z;
}

-- ---- the same Reports, with the same Connects and Initiates before and behind them

-- of a channel that was c and is l, with Report w on it
pub record Around (c l : List Msg) (w : ℕ) : Type 0 where
  pub was : In (report w) c
  pub call-sum : sum_l is_ci l ≡ sum_l is_ci c
  pub in-init : (n f x : ℕ) → In (initiate n f x) c → In (initiate n f x) l
  -- what stands behind it now: it did, or is neither
  pub behind : (n : Msg) → Bef (report w) n l → Bef (report w) n c ⊎ (is_ci n ≡ 0)
  -- and before it
  pub ahead : (n : Msg) → Bef n (report w) l → Bef n (report w) c ⊎ (is_ci n ≡ 0)

pub around-same : {c l : List Msg} {w : ℕ} → l ≡ c → In (report w) l → Around c l w
around-same {c} {w} q h = subst (λ x. Around c x w) (sym q)
    (record { was = subst (λ x. In (report w) x) q h; call-sum = refl; in-init = λ n f x i. i; behind = λ n b. inl b; ahead = λ n b. inl b })

abbrev pub Alike : Network → ProtocolState → (ℕ → ℕ → List Msg) → Type 0
Alike p s c' = (k u v w : ℕ) → Edge p k u v → In (report w) (c' u k) → Around (s.ch u k) (c' u k) w

module _ (p : Network) (s : ProtocolState) (c' : ℕ → ℕ → List Msg) where
  pub core-same : (u v k w : ℕ) → Around (s.ch u k) (c' u k) w → CoreEnds s u v k w → CoreEnds (set-ch s c') u v k w
  core-same u v k w h t = (
    t.0,
    t.1,
    t.2,
    t.3,
    t.4,
    λ n b. ⊎_elim (λ o. t.5 n o) (λ z. z) (h.behind n b),
    ⊎_elim (λ y. inl (y.0, h.call-sum ∙ y.1)) (λ y. inr (y.0, h.in-init (GL s v) k 1 y.1)) t.6,
  )

  pub reports-same : Alike p s c' → Reports p s → Reports p (set-ch s c')
  reports-same a o = record {
    r1r = λ k u v w e n. o.r1r k u v w e (a k u v w e n).was;
    r1j = λ k u v w e n. o.r1j k u v w e (a k u v w e n).was;
    r1 = λ k u v w e n. let h = a k u v w e n in ⊎_elim (λ t. inl (t.0, t.1, t.2, t.3, t.4, t.5, t.6, h.call-sum ∙ t.7))
        (⊎_elim (λ t. inr (inl (core-same u v k w h t)))
        (λ t. inr (inr (t.0, t.1, t.2, t.3, λ m b. ⊎_elim (λ y. t.4 m y) (λ z. z) (h.ahead m b), t.5)))) (o.r1 k u v w e (h.was));
    r1c = λ k u v w e n f d g. let h = a k u v w e n in core-same u v k w h (o.r1c k u v w e (h.was) f d g);
  }
