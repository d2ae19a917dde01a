-- A Reject, and a Test that crossed: nothing is sent. Where both ends had sent a Test, the edge pays back both (`paid-rejected`, `paid-crossed-test`, `paid-both`).
use Rattle.protocol.proofs.Prelude.{ℕ, suc, ◌+◌, ◌≤◌, arith, ◌≡◌, refl, sym, ap, subst, ◌∙◌, ◌≢◌, ◌⊎◌, inl, inr, ⊎_elim, by-eq}
use Rattle.protocol.proofs.Prelude.{List, ◌∷◌, sum_l, upd, upd-elim, upd_same, upd_other, upd2, upd2-elim, sum-upd, Msg, test, reject}
use Rattle.protocol.proofs.Prelude.{Network, Edge, end_lt, joins-lt, flip, other-end, same-edge, ends-irr, ProtocolState, Idle, Strike, set-ot, pop, remarked}
use Rattle.protocol.proofs.Prelude.{is_i, is_t, is_a, is_y, In, pop-head, pop-sum, else_same, here-new, at2, Inf, Waits, Inv, waits-find}
use Rattle.protocol_budget.proofs.Paid.{Lt, Paid, lt-else, lt_same, yes_le}
use Rattle.protocol_budget.proofs.Height.{heights-pop, tb-inf}
use Rattle.protocol_search.proofs.CrossedTest as C
use Rattle.protocol_search.proofs.Rejected.{alone, reject-ok}
use Rattle.protocol_search.proofs.Own.{inf-tested, inf-tester, tester-inside}
use Rattle.protocol_search.proofs.Strike.{struck, up2-strike, dn0-strike, dn-other-strike}

module _ {p : Network} {z n : ℕ} {s : ProtocolState} (i : Inv p s) (h : Paid p z s n) {u v k c : ℕ} {m : Msg} {r : List Msg} (idle : Idle s) (ends : Edge p k u v)
    (q : s.ch u k ≡ m ∷ r) (no-init : is_i m ≡ 0) (no-yes : is_y m ≡ 0) (wait : Waits s v k) (strike : Strike s v k c) where
  abbrev c' : ℕ → ℕ → List Msg
  c' = upd2 s.ch u k r

  abbrev m' : ℕ → ℕ → ℕ
  m' = struck p s v k c strike

  abbrev S' : ProtocolState
  S' = set-ot (remarked (pop s u k r) v k c) (suc v)

  waits : (j w : ℕ) → Waits S' w j → (v ≢ w) × Waits s w j
  waits j w a = ((λ e. a.1 (ap suc e)), (a.0, λ o. omega (arith, idle.0)))

  yes : (w j : ℕ) → sum_l is_y (c' w j) ≡ sum_l is_y (s.ch w j)
  yes = pop-sum s.ch u k q is_y no-yes

  off : (w j : ℕ) → (u ≢ w) ⊎ (k ≢ j) → sum_l is_t (c' w j) ≡ sum_l is_t (s.ch w j)
  off w j d = ap (sum_l is_t) (else_same s.ch u k r w j d)

  lt : (w j : ℕ) → (u ≢ w) ⊎ (k ≢ j) → Lt z s.lev c' w j ≡ Lt z s.lev s.ch w j
  lt w j d = lt_same z s.lev s.ch w j c' (off w j d)

  -- beyond an edge of another than v: not u's channel over k
  apart : (j w x : ℕ) → Edge p j w x → v ≢ w → (u ≢ x) ⊎ (k ≢ j)
  apart j w x e d = by-eq k j
      (λ y. inl (λ o. d (other-end ends (flip e) o y))) (λ y. inr y)

  -- ---- nothing is paid: v has its 2 already, and u's Tests are as they were, or u does not wait

  pub paid_kept : 2 ≤ h.ts v → (sum_l is_t (c' u k) ≡ sum_l is_t (s.ch u k)) ⊎ ((s.te u ≢ k) × (s.mark u k ≢ 0)) → Paid p z S' n
  paid_kept two tests = record {
    tb = h.tb;
    rp = h.rp;
    ts = h.ts;
    rt = h.rt;
    lk = h.lk;
    H = heights-pop s.ch u k q no-init (h.H);
    D = h.D;
    T = record { ts0 = (h.T).ts0; ts1 = (h.T).ts1; ts2 = λ w o. subst (λ x. 2 ≤ h.ts x) (omega arith) two };
    L = record {
      ts3 = λ j w x e a b. let t = waits j w a in omega (arith, (h.L).ts3 j w x e t.1 b, own j w t.1, yes x j);
      lk1 = λ j w x e a b. let o = open-lt j w x e a in omega (arith, (h.L).lk1 j w x e (dn0-strike p s v k c strike w j a) (λ y. b (up2-strike p s v k c strike x j y)), o.0, o.1);
      lk2 = λ j w x e a b. let t = waits j w a in
          omega (arith, (h.L).lk2 j w x e t.1 (omega (arith, own j w t.1)), lt_same z s.lev s.ch w j c' (own j w t.1), lt x j (apart j w x e t.0));
    };
    bal = h.bal;
  }
    where
      at : (w j : ℕ) → u ≡ w → k ≡ j → sum_l is_t (c' u k) ≡ sum_l is_t (s.ch u k) → sum_l is_t (c' w j) ≡ sum_l is_t (s.ch w j)
      at w j a b e = ap (sum_l is_t) (sym (at2 c' a b)) ∙ e ∙ ap (sum_l is_t) (at2 s.ch a b)

      -- Tests of one who waits
      own : (j w : ℕ) → Waits s w j → sum_l is_t (c' w j) ≡ sum_l is_t (s.ch w j)
      own j w a = by-eq u w
          (λ o. by-eq k j (λ y. ⊎_elim (λ t. at w j o y t) (λ t. absurd (t.0 (ap s.te o ∙ a.0 ∙ sym y))) tests) (λ y. off w j (inr y))) (λ o. off w j (inl o))

      -- of an edge that is still Basic at w
      open-lt : (j w x : ℕ) → Edge p j w x → m' w j ≡ 0 → (Lt z s.lev c' w j ≡ Lt z s.lev s.ch w j) × (Lt z s.lev c' x j ≡ Lt z s.lev s.ch x j)
      open-lt j w x e a = by-eq k j
          (λ y. ⊎_elim
          (λ t. (each w j t, each x j t))
          (λ t. absurd (⊎_elim (λ d. ⊎_elim (λ o. t.1 (ap (λ b. s.mark b k) o.0 ∙ ap (s.mark w) y ∙ dn0-strike p s v k c strike w j a)) (λ o. d o.1) (same-edge ends e y))
          (λ d. d y) (dn-other-strike p s v k c strike w j a))) tests)
          (λ y. (lt w j (inr y), lt x j (inr y)))
        where
          each : (w j : ℕ) → sum_l is_t (c' u k) ≡ sum_l is_t (s.ch u k) → Lt z s.lev c' w j ≡ Lt z s.lev s.ch w j
          each w j t = by-eq u w (λ o. by-eq k j (λ y. lt_same z s.lev s.ch w j c' (at w j o y t)) (λ y. lt w j (inr y))) (λ o. lt w j (inl o))

  -- ---- both had sent a Test: the edge pays both back

  pub paid-both : Waits s u k → s.mark v k ≡ 0 → sum_l is_t r ≡ 0 → 4 ≤ h.ts u + h.ts v + h.lk k → Paid p z S' n
  paid-both theirs basic no_test have = record {
    tb = h.tb;
    rp = h.rp;
    ts = ts';
    rt = h.rt;
    lk = lk';
    H = heights-pop s.ch u k q no-init (h.H);
    D = h.D;
    T = record { ts0 = λ w a b. ts_at w ((h.T).ts0 w a b); ts1 = λ w a b d. ts_at w ((h.T).ts1 w a b d); ts2 = λ w o. ts-v w (omega arith) };
    L = record {
      ts3 = λ j w x e a b. let t = waits j w a in by-eq u w
          (λ o. omega (arith, upd_other (upd (h.ts) u 2) v 2 w t.0, ap (upd (h.ts) u 2) o, upd_same (h.ts) u 2))
          (λ o. omega (arith, upd_other (upd (h.ts) u 2) v 2 w t.0, upd_other (h.ts) u 2 w o, (h.L).ts3 j w x e t.1 b, off w j (inl o), yes x j));
      lk1 = λ j w x e a b. let d = shut j w x e a b in
          omega (arith, upd_other (h.lk) k 0 j d, (h.L).lk1 j w x e (dn0-strike p s v k c strike w j a) (λ y. b (up2-strike p s v k c strike x j y)), lt w j (inr d), lt x j (inr d));
      lk2 = λ j w x e a b. let t = waits j w a in by-eq k j
          (λ y. absurd (⊎_elim
          (λ o. omega (arith, no_test, ap (sum_l is_t) (sym (at2 c' o.0 y) ∙ here-new s.ch u k r)))
          (λ o. t.0 o.1) (same-edge ends e y)))
          (λ d. omega (arith, upd_other (h.lk) k 0 j d, (h.L).lk2 j w x e t.1 (omega (arith, off w j (inr d))), lt w j (inr d), lt x j (inr d)));
    };
    bal = omega (arith, h.bal, have, sum-upd p.N v 2 (upd (h.ts) u 2) (end_lt p (flip ends)), upd_other (h.ts) u 2 v (ends-irr p ends), sum-upd p.N u 2 (h.ts) (end_lt p ends), sum-upd p.g.L k 0 (h.lk) (joins-lt ends));
  }
    where
      ts' : ℕ → ℕ
      ts' = upd (upd (h.ts) u 2) v 2

      lk' : ℕ → ℕ
      lk' = upd (h.lk) k 0

      ts_at : (w : ℕ) → 2 ≤ h.ts w → 2 ≤ upd (upd (h.ts) u 2) v 2 w
      ts_at w a = upd-elim (λ x. 2 ≤ x) (upd (h.ts) u 2) v 2 w (λ e. omega arith) (λ d. upd-elim (λ x. 2 ≤ x) (h.ts) u 2 w (λ e. omega arith) (λ d. a))

      ts-v : (w : ℕ) → v ≡ w → 2 ≤ upd (upd (h.ts) u 2) v 2 w
      ts-v w e = upd-elim (λ x. 2 ≤ x) (upd (h.ts) u 2) v 2 w (λ o. omega arith) (λ d. absurd (d e))

      struck-to : m' v k ≡ 2
      struck-to = upd2-elim (λ x. x ≡ 2) s.mark v k c v k (λ a b. ⊎_elim (λ t. t.1) (λ t. absurd (t.0 basic)) strike) (λ d. absurd (⊎_elim (λ f. f refl) (λ f. f refl) d))

      -- k is Rejected at v now
      shut : (j w x : ℕ) → Edge p j w x → m' w j ≡ 0 → m' x j ≢ 2 → k ≢ j
      shut j w x e a b y = ⊎_elim
          (λ o. b (ap (λ d. m' d j) (sym o.1) ∙ ap (m' v) (sym y) ∙ struck-to))
          (λ o. omega (arith, a, struck-to, ap (λ d. m' d j) o.1, ap (m' v) y)) (same-edge ends e y)

-- v, informed and waiting for an answer on k with no Test of its own there, has its 2
two-of : {p : Network} {z n : ℕ} {s : ProtocolState} (i : Inv p s) (h : Paid p z s n) {u v k : ℕ} → Edge p k v u → Inf s v → Waits s v k → sum_l is_t (s.ch v k) ≡ 0 → sum_l is_y (s.ch u k) ≡ 0 → 2 ≤ h.ts v
two-of {z = z} {s = s} i h {u} {v} {k} e f w t y = by-eq (s.lev v) z
    (λ o. (h.T).ts0 v (tb-inf i (h.H) v f) (sym f.1 ∙ o))
    (λ o. omega (arith, (h.L).ts3 k v u e w o))

module _ {p : Network} {z n : ℕ} {s : ProtocolState} (i : Inv p s) (h : Paid p z s n) {u v k c : ℕ} {r : List Msg} (idle : Idle s) (ends : Edge p k u v) where
  pub paid-rejected : (q : s.ch u k ≡ reject ∷ r) (strike : Strike s v k c) → Paid p z (set-ot (remarked (pop s u k r) v k c) (suc v)) n
  paid-rejected q strike =
      let said = reject-ok i idle ends q strike in
      let a = alone i idle ends q strike in
      let f = (i.finds.f1 v (waits-find i k v u (flip ends) said.j1w)).f1i in
      paid_kept i h idle ends q refl refl said.j1w strike
      (two-of i h (flip ends) f said.j1w (omega (arith, a, ap (sum_l is_a) q)) (omega (arith, a, ap (sum_l is_a) q, ap (sum_l is_y) q, yes_le r)))
      (inl (pop-sum s.ch u k q is_t refl u k))

  pub paid-crossed-test : {l f : ℕ} (awake : s.st v ≢ 0) (q : s.ch u k ≡ test l f ∷ r) (low : l ≤ s.lev v) (same : s.id v ≡ f) (edge : s.te v ≡ k) (strike : Strike s v k c)
      → Paid p z (set-ot (remarked (pop s u k r) v k c) (suc v)) n
  paid-crossed-test {l} {f} awake q low same edge strike = ⊎_elim
      (λ t.
      let a = i.testing.e2w k u v ends t.0 wait in
      let b = i.testing.e2w k v u (flip ends) wait t.0 in
      let y = (h.L).lk1 k v u (flip ends) basic t.1 in
      let d : s.lev u ≡ s.lev v = fu.1 ∙ ap s.gl (tester-inside i ends head low same) ∙ sym fv.1 in
      paid-both i h idle ends q refl refl wait strike t.0 basic (omega (arith, ap (sum_l is_t) q, a))
      (by-eq (s.lev v) z
      (λ o. omega (arith, (h.T).ts0 v (tb-inf i (h.H) v fv) (sym fv.1 ∙ o), (h.T).ts0 u (tb-inf i (h.H) u fu) (sym fu.1 ∙ d ∙ o)))
      (λ o. omega (
        arith,
        y,
        lt-else z s.lev s.ch v k o,
        lt-else z s.lev s.ch u k (λ x. o (sym d ∙ x)),
        (h.L).ts3 k v u (flip ends) wait o,
        (h.L).ts3 k u v ends t.0 (λ x. o (sym d ∙ x)),
        a,
        b,
        yes_le (s.ch u k),
        yes_le (s.ch v k),
        one,
        unanswered,
      ))))
      (λ t. paid_kept i h idle ends q refl refl wait strike
      (two-of i h (flip ends) fv wait (i.testing.m6t k u v ends t.1 basic) (omega (arith, yes_le (s.ch u k), unanswered)))
      (inr (t.0, λ o. omega (arith, t.1))))
      (C.crossed-meets i idle ends awake q low same edge strike)
    where
      head : In (test l f) (s.ch u k)
      head = pop-head s.ch u k q

      wait : Waits s v k
      wait = C.wait i idle ends awake q low same edge strike

      basic : s.mark v k ≡ 0
      basic = C.crossed-basic i idle ends awake q low same edge strike

      one : 1 ≤ sum_l is_t (s.ch u k)
      one = C.one i idle ends awake q low same edge strike

      unanswered : sum_l is_a (s.ch u k) ≡ 0
      unanswered = C.unanswered i idle ends awake q low same edge strike

      fu : Inf s u
      fu = inf-tester i ends head low same

      fv : Inf s v
      fv = inf-tested i ends head low same
