-- Procedure test sends a Test: v pays, or at the last level the edge (`paid-test-next`).
use Rattle.protocol.proofs.Prelude.{ℕ, suc, ◌+◌, ◌-◌, ◌≤◌, arith, ◌≡◌, refl, sym, ap, subst, ◌∙◌, ◌≢◌, ◌⊎◌, inl, inr, ⊎_elim, by-eq}
use Rattle.protocol.proofs.Prelude.{List, sum_l, upd, upd_same, upd_other, sum-upd, Msg, test}
use Rattle.protocol.proofs.Prelude.{Network, Edge, end_lt, joins-lt, flip, other-end, same-edge, ends-irr, ProtocolState, FirstBasic}
use Rattle.protocol.proofs.Prelude.{is_t, is_y, snoc, snoc-sum, snoc-here, snoc-else, GL, Inf, Waits, Inv}
use Rattle.protocol_budget.proofs.Paid.{Lt, Paid, lt-last, lt-else, lt-none, lt-le, lt_same}
use Rattle.protocol_budget.proofs.Height.{heights-send}
use Rattle.protocol.proofs.Prelude.{set-te, set-ot, send_over}
use Rattle.protocol_search.proofs.TestNext.{find, own-test, their-test, waits-next}

module _ {p : Network} {z n : ℕ} {s : ProtocolState} (i : Inv p s) (h : Paid p z s n) {v k u : ℕ} (ot : s.ot ≡ suc v) (op : s.op ≡ 0) (oo : s.oo ≡ 0) (ends : Edge p k v u) (first : FirstBasic p s v k) where
  abbrev m : Msg
  m = test (s.lev v) (s.id v)

  abbrev c' : ℕ → ℕ → List Msg
  c' = snoc s.ch v k m

  abbrev S' : ProtocolState
  S' = set-ot (set-te (send_over s v k m) (upd s.te v k)) 0

  inf : Inf s v
  inf = (i.finds.f1 v (find i ot op oo ends first)).f1i

  own : sum_l is_t (s.ch v k) ≡ 0
  own = own-test i ot op oo ends first

  waits {κ} : {C : Type κ} (j w : ℕ) → Waits S' w j → (v ≡ w → k ≡ j → C) → (v ≢ w → Waits s w j → C) → C
  waits j w a y d = waits-next i ot op oo ends first j w a y d

  -- the other end is not Rejected
  fair : s.mark u k ≢ 2
  fair e = (i.tests.m6 k u v (flip ends) e first.0).1 ot

  -- what the edge has
  have : 2 ≤ h.lk k + Lt z s.lev s.ch v k + Lt z s.lev s.ch u k
  have = (h.L).lk1 k v u ends first.0 fair

  off : (w j : ℕ) → (v ≢ w) ⊎ (k ≢ j) → sum_l is_t (c' w j) ≡ sum_l is_t (s.ch w j)
  off w j d = ap (sum_l is_t) (snoc-else s.ch v k m w j d)

  lt : (w j : ℕ) → (v ≢ w) ⊎ (k ≢ j) → Lt z s.lev c' w j ≡ Lt z s.lev s.ch w j
  lt w j d = lt_same z s.lev s.ch w j c' (off w j d)

  sent : sum_l is_t (c' v k) ≡ 1
  sent = omega (arith, snoc-here s.ch v k m is_t, own)

  yes : (w j : ℕ) → sum_l is_y (c' w j) ≡ sum_l is_y (s.ch w j)
  yes = snoc-sum s.ch v k m is_y refl

  -- ---- below the last level v pays

  low : s.lev v ≢ z → Paid p z S' (n + 1)
  low b = record {
    tb = h.tb;
    rp = h.rp;
    ts = upd (h.ts) v (h.ts v - 1);
    rt = h.rt;
    lk = h.lk;
    H = heights-send s.ch v k m refl (h.H);
    D = h.D;
    T = record {
      ts0 = λ w a c. by-eq v w (λ e. absurd (b (inf.1 ∙ ap (GL s) e ∙ c))) (λ d. omega (arith, upd_other (h.ts) v (h.ts v - 1) w d, (h.T).ts0 w a c));
      ts1 = λ w a c o. by-eq v w (λ e. absurd (omega (arith, inf.1, ap (GL s) e, ap s.lev e))) (λ d. omega (arith, upd_other (h.ts) v (h.ts v - 1) w d, (h.T).ts1 w a c o));
      ts2 = λ w o. absurd (omega arith);
    };
    L = record {
      ts3 = λ j w x e a c. waits j w a
          (λ o y. omega (arith, two, sent, ap (λ d. sum_l is_t (c' d j)) o, ap (λ d. sum_l is_t (c' v d)) y, upd_same (h.ts) v (h.ts v - 1), ap (upd (h.ts) v (h.ts v - 1)) o))
          (λ d o. omega (arith, upd_other (h.ts) v (h.ts v - 1) w d, (h.L).ts3 j w x e o c, off w j (inl d), yes x j));
      lk1 = λ j w x e a c. omega (arith, (h.L).lk1 j w x e a c, same w j, same x j);
      lk2 = λ j w x e a c. waits j w a
          (λ o y. subst (λ d. 2 ≤ h.lk j + Lt z s.lev c' w j + Lt z s.lev c' d j) (other-end ends e o y)
          (subst (λ d. 2 ≤ h.lk j + Lt z s.lev c' d j + Lt z s.lev c' u j) o (subst (λ d. 2 ≤ h.lk d + Lt z s.lev c' v d + Lt z s.lev c' u d) y (omega (arith, have, same v k, same u k)))))
          (λ d o. omega (arith, (h.L).lk2 j w x e o (omega (arith, off w j (inl d))), same w j, same x j));
    };
    bal = omega (arith, h.bal, two, sum-upd p.N v (h.ts v - 1) (h.ts) (end_lt p ends));
  }
    where
      two : 2 ≤ h.ts v
      two = (h.T).ts2 v ot

      same : (w j : ℕ) → Lt z s.lev c' w j ≡ Lt z s.lev s.ch w j
      same w j = by-eq v w (λ e. let d : s.lev w ≢ z = λ o. b (ap s.lev e ∙ o) in lt-else z s.lev c' w j d ∙ sym (lt-else z s.lev s.ch w j d)) (λ d. lt w j (inl d))

  -- ---- at the last level the edge pays

  high : s.lev v ≡ z → Paid p z S' (n + 1)
  high b = record {
    tb = h.tb;
    rp = h.rp;
    ts = h.ts;
    rt = h.rt;
    lk = upd (h.lk) k (h.lk k - 1);
    H = heights-send s.ch v k m refl (h.H);
    D = h.D;
    T = record { ts0 = (h.T).ts0; ts1 = (h.T).ts1; ts2 = λ w o. absurd (omega arith) };
    L = record {
      ts3 = λ j w x e a c. waits j w a (λ o y. absurd (c (ap s.lev (sym o) ∙ b))) (λ d o. omega (arith, (h.L).ts3 j w x e o c, off w j (inl d), yes x j));
      lk1 = λ j w x e a c. by-eq k j (λ y. on-k j w x e y) (λ d. omega (arith, upd_other (h.lk) k (h.lk k - 1) j d, (h.L).lk1 j w x e a c, lt w j (inr d), lt x j (inr d)));
      lk2 = λ j w x e a c. by-eq k j (λ y. on-k j w x e y)
          (λ d. waits j w a (λ o y. absurd (d y)) (λ f o. omega (arith, upd_other (h.lk) k (h.lk k - 1) j d, (h.L).lk2 j w x e o (omega (arith, off w j (inr d))), lt w j (inr d), lt x j (inr d))));
    };
    bal = omega (arith, h.bal, some, sum-upd p.g.L k (h.lk k - 1) (h.lk) (joins-lt ends));
  }
    where
      -- at most one Test comes from u
      theirs : Lt z s.lev s.ch u k ≤ 1
      theirs = by-eq (s.te u) k
          (λ e. omega (arith, lt-le z s.lev s.ch u k, i.testing.e2c k u v (flip ends) (e, λ o. v≢u (omega arith)) (inr ot)))
          (λ e. omega (arith, lt-le z s.lev s.ch u k, their-test i ot op oo ends first e))
        where
          v≢u : v ≢ u
          v≢u = ends-irr p ends

      some : 1 ≤ h.lk k
      some = omega (arith, have, lt-none z s.lev s.ch v k own, theirs)

      full : 2 ≤ upd (h.lk) k (h.lk k - 1) k + Lt z s.lev c' v k + Lt z s.lev c' u k
      full = omega (arith, upd_same (h.lk) k (h.lk k - 1), have, some, lt-none z s.lev s.ch v k own, lt-last z s.lev c' v k b, sent, lt u k (inl (ends-irr p ends)))

      on-k : (j w x : ℕ) → Edge p j w x → k ≡ j → 2 ≤ upd (h.lk) k (h.lk k - 1) j + Lt z s.lev c' w j + Lt z s.lev c' x j
      on-k j w x e y = subst (λ d. 2 ≤ upd (h.lk) k (h.lk k - 1) d + Lt z s.lev c' w d + Lt z s.lev c' x d) y
          (⊎_elim
          (λ o. subst (λ d. 2 ≤ upd (h.lk) k (h.lk k - 1) k + Lt z s.lev c' w k + Lt z s.lev c' d k) o.1
          (subst (λ d. 2 ≤ upd (h.lk) k (h.lk k - 1) k + Lt z s.lev c' d k + Lt z s.lev c' u k) o.0 full))
          (λ o. subst (λ d. 2 ≤ upd (h.lk) k (h.lk k - 1) k + Lt z s.lev c' w k + Lt z s.lev c' d k) o.0
          (subst (λ d. 2 ≤ upd (h.lk) k (h.lk k - 1) k + Lt z s.lev c' d k + Lt z s.lev c' v k) o.1 (omega (arith, full))))
          (same-edge ends e y))

  pub paid-test-next : Paid p z S' (n + 1)
  paid-test-next = by-eq (s.lev v) z high low
