-- A rejected Test: the edge pays for Test and Reject, and the sender may test again (`paid-reject-test`).
use Rattle.protocol.proofs.Prelude.{ℕ, ◌+◌, ◌*◌, ◌≤◌, arith, ◌≡◌, refl, sym, ap, ◌∙◌, ◌≢◌, ◌⊎◌, inl, inr, ⊎_elim, by-eq}
use Rattle.protocol.proofs.Prelude.{List, ◌∷◌, sum_l, upd, upd-elim, upd_other, upd2, sum-upd, Msg, test, reject}
use Rattle.protocol.proofs.Prelude.{Network, Edge, end_lt, joins-lt, same-edge, ProtocolState, Idle, Strike, send_over, pop, remarked}
use Rattle.protocol.proofs.Prelude.{is_t, is_a, is_y, In, pop-head, pop-sum, here-new, snoc, snoc-sum, Inf, Waits, Inv}
use Rattle.protocol_budget.proofs.Paid.{Lt, Links, Paid, lt-last, lt-else, lt-none, lt_same, yes_le}
use Rattle.protocol_budget.proofs.Height.{heights-pop, heights-send, tb-inf}
use Rattle.protocol_search.proofs.RejectTest as R
use Rattle.protocol_search.proofs.Own.{branch-v, inf-tester}
use Rattle.protocol_search.proofs.Answer.{tests-answer, tests-here}
use Rattle.protocol_search.proofs.Strike.{struck, up2-strike, dn0-strike, dn-other-strike}

module _ {p : Network} {z n : ℕ} {s : ProtocolState} (i : Inv p s) (h : Paid p z s n) {u v k l f c : ℕ} {r : List Msg} (idle : Idle s) (ends : Edge p k u v)
    (awake : s.st v ≢ 0) (q : s.ch u k ≡ test l f ∷ r) (low : l ≤ s.lev v) (same : s.id v ≡ f) (other : s.te v ≢ k) (strike : Strike s v k c) where
  abbrev c₁ : ℕ → ℕ → List Msg
  c₁ = upd2 s.ch u k r

  abbrev c' : ℕ → ℕ → List Msg
  c' = snoc c₁ v k reject

  abbrev m' : ℕ → ℕ → ℕ
  m' = struck p s v k c strike

  head : In (test l f) (s.ch u k)
  head = pop-head s.ch u k q

  waits : Waits s u k
  waits = R.waits-reject i idle ends awake q low same other strike

  alone : sum_l is_t (s.ch u k) + sum_l is_a (s.ch v k) + sum_l is_t (s.ch v k) ≡ 1
  alone = R.alone i idle ends awake q low same other strike

  one : 1 ≤ sum_l is_t (s.ch u k)
  one = R.one i idle ends awake q low same other strike

  inf : Inf s u
  inf = inf-tester i ends head low same

  -- what u and the edge still have
  have : 3 ≤ h.ts u + h.lk k
  have =
      let b = (h.L).lk2 k u v ends waits one in
      let o = lt-none z s.lev s.ch v k (R.no_own i idle ends awake q low same other strike) in
      by-eq (s.lev u) z
      (λ e. omega (arith, b, o, lt-last z s.lev s.ch u k e, alone, (h.T).ts0 u (tb-inf i (h.H) u inf) (sym inf.1 ∙ e)))
      (λ e. omega (arith, b, o, lt-else z s.lev s.ch u k e, (h.L).ts3 k u v ends waits e, alone, yes_le (s.ch v k), one))

  ts' : ℕ → ℕ
  ts' = upd (h.ts) u 2

  lk' : ℕ → ℕ
  lk' = upd (h.lk) k 0

  -- at least 2, or as before
  ts_at : (w : ℕ) → 2 ≤ h.ts w → 2 ≤ ts' w
  unfolding ts'
  ts_at w a = upd-elim (λ x. 2 ≤ x) (h.ts) u 2 w (λ e. omega arith) (λ d. a)

  -- the end beyond k
  beyond : (j w x : ℕ) → Edge p j w x → k ≡ j → ((u ≡ w) × (v ≡ x)) ⊎ ((v ≡ w) × (u ≡ x))
  beyond j w x e y = ⊎_elim (λ t. inl t) (λ t. inr (t.1, t.0)) (same-edge ends e y)

  -- k is no longer open
  shut : (j w x : ℕ) → Edge p j w x → m' w j ≡ 0 → m' x j ≢ 2 → k ≢ j
  shut j w x e a b y = ⊎_elim
      (λ t.
      let o : s.mark u k ≡ 0 = ap (λ d. s.mark d k) t.0 ∙ ap (s.mark w) y ∙ dn0-strike p s v k c strike w j a in
      b (ap (λ d. m' d j) (sym t.1) ∙ ap (m' v) (sym y) ∙ here-new s.mark v k c ∙ basic o))
      (λ t. ⊎_elim (λ d. d t.0) (λ d. d y) (dn-other-strike p s v k c strike w j a))
      (beyond j w x e y)
    where
      basic : s.mark u k ≡ 0 → c ≡ 2
      basic o = ⊎_elim (λ t. t.1)
          (λ t. absurd (omega (arith, branch-v i ends head low same (omega (arith, i.ranges.mark-le v k, R.open-v i idle ends awake q low same other strike, t.0))))) strike

  lt : (w j : ℕ) → k ≢ j → Lt z s.lev c' w j ≡ Lt z s.lev s.ch w j
  lt w j d = lt_same z s.lev s.ch w j c' (tests-answer p s ends q reject refl refl w j (inr d))

  L' : Links p z s.lev s.te m' c' s.ot ts' lk'
  unfolding ts' lk'
  L' = record {
    ts3 = λ j w x e a b. upd-elim (λ y. 2 ≤ y + sum_l is_t (c' w j) + 2 * sum_l is_y (c' x j)) (h.ts) u 2 w (λ o. omega arith)
        (λ d. omega (arith, (h.L).ts3 j w x e a b, tests-answer p s ends q reject refl refl w j (inl d), snoc-sum c₁ v k reject is_y refl x j, pop-sum s.ch u k q is_y refl x j));
    lk1 = λ j w x e a b. let d = shut j w x e a b in
        omega (arith, upd_other (h.lk) k 0 j d, (h.L).lk1 j w x e (dn0-strike p s v k c strike w j a) (λ o. b (up2-strike p s v k c strike x j o)), lt w j d, lt x j d);
    lk2 = λ j w x e a b. by-eq k j (λ y. absurd (gone j w x e a b y))
        (λ d. omega (arith, upd_other (h.lk) k 0 j d, (h.L).lk2 j w x e a (omega (arith, tests-answer p s ends q reject refl refl w j (inr d))), lt w j d, lt x j d));
  }
    where
      -- no Test is left on k
      gone : (j w x : ℕ) → Edge p j w x → Waits s w j → 1 ≤ sum_l is_t (c' w j) → k ≡ j → ⊥
      gone j w x e a b y = ⊎_elim
          (λ t. omega (arith, tests-here p s ends q reject refl refl, alone, ap (λ d. sum_l is_t (c' d j)) t.0, ap (λ d. sum_l is_t (c' u d)) y))
          (λ t. other (ap s.te t.0 ∙ a.0 ∙ sym y))
          (beyond j w x e y)

  pub paid-reject-test : Paid p z (send_over (remarked (pop s u k r) v k c) v k reject) (n + 1)
  unfolding ts' lk'
  paid-reject-test = record {
    tb = h.tb;
    rp = h.rp;
    ts = ts';
    rt = h.rt;
    lk = lk';
    H = heights-send c₁ v k reject refl (heights-pop s.ch u k q refl (h.H));
    D = h.D;
    T = record { ts0 = λ w a b. ts_at w ((h.T).ts0 w a b); ts1 = λ w a b d. ts_at w ((h.T).ts1 w a b d); ts2 = λ w o. ts_at w ((h.T).ts2 w o) };
    L = L';
    bal = omega (arith, h.bal, have, sum-upd p.N u 2 (h.ts) (end_lt p ends), sum-upd p.g.L k 0 (h.lk) (joins-lt ends));
  }
