-- An accepted Test: its sender pays for Test and Accept (`paid-accept-test`).
use Rattle.protocol.proofs.Prelude.{ℕ, ◌+◌, ◌-◌, ◌≤◌, arith, ◌≡◌, refl, sym, ap, ◌∙◌, ◌≢◌, inl, inr, by-eq}
use Rattle.protocol.proofs.Prelude.{List, ◌∷◌, sum_l, upd, upd_other, upd2, sum-upd, Msg, test, accept}
use Rattle.protocol.proofs.Prelude.{Network, Edge, end_lt, flip, other-end, ProtocolState, Idle, send_over, pop}
use Rattle.protocol.proofs.Prelude.{is_t, is_a, is_y, pop-head, pop-sum, pop-le, snoc, snoc-sum, snoc-here, snoc-else, GL, Inf, Waits, Inv}
use Rattle.base.specs.Log.{log2}
use Rattle.graph.proofs.laws.Size.{level-two}
use Rattle.protocol_budget.proofs.Paid.{Lt, Tries, Links, Paid, lt-else, lt_same, yes_le}
use Rattle.protocol_budget.proofs.Height.{heights-pop, heights-send}
use Rattle.protocol_search.proofs.AcceptTest as A
use Rattle.protocol_search.proofs.Answer.{tests-answer}

module _ {p : Network} {z n : ℕ} (last : log2 p.N ≤ z) {s : ProtocolState} (i : Inv p s) (h : Paid p z s n) {u v k l f : ℕ} {r : List Msg} (idle : Idle s) (ends : Edge p k u v)
    (awake : s.st v ≢ 0) (q : s.ch u k ≡ test l f ∷ r) (low : l ≤ s.lev v) (differ : s.id v ≢ f) where
  abbrev c₁ : ℕ → ℕ → List Msg
  c₁ = upd2 s.ch u k r

  abbrev c' : ℕ → ℕ → List Msg
  c' = snoc c₁ v k accept

  waits : Waits s u k
  waits = A.waits-accept i idle ends awake q low differ

  inf : Inf s u
  inf = A.tester-inf i idle ends awake q low differ

  -- of two fragments the lower level is not the last
  below : s.lev u ≢ z
  below e =
      let a = (i.testing.e1 k u v l f ends (pop-head s.ch u k q)).0 in
      omega (
        arith,
        inf.1,
        level-two p.N s.fr (s.fr u) (s.fr v) (GL s u) (GL s v) (A.tester-apart i idle ends awake q low differ) (i.sizes.g4 u (end_lt p ends)) (i.sizes.g4 v (end_lt p (flip ends)))
            (omega (arith, inf.1, i.levels.g2 v, a)),
      )

  unanswered : sum_l is_a (s.ch v k) ≡ 0
  unanswered = A.unanswered i idle ends awake q low differ

  only : sum_l is_t (s.ch u k) ≤ 1
  only = by-eq (s.te v) k
      (λ e. omega (arith, i.testing.e2w k u v ends waits (e, λ o. omega (arith, idle.0))))
      (λ e. omega (arith, i.testing.e2c k u v ends waits (inl e)))

  spare : 1 ≤ h.ts u
  spare = omega (arith, (h.L).ts3 k u v ends waits below, only, yes_le (s.ch v k), unanswered)

  -- a Test of the last level is another's
  lt : (w j : ℕ) → Lt z s.lev c' w j ≡ Lt z s.lev s.ch w j
  lt w j = by-eq u w
      (λ e. let b : s.lev w ≢ z = λ o. below (ap s.lev e ∙ o) in lt-else z s.lev c' w j b ∙ sym (lt-else z s.lev s.ch w j b))
      (λ d. lt_same z s.lev s.ch w j c' (tests-answer p s ends q accept refl refl w j (inl d)))

  yes : (w j : ℕ) → sum_l is_y (s.ch w j) ≤ sum_l is_y (c' w j)
  yes w j = by-eq v w
      (λ a. by-eq k j
      (λ b. omega (arith, snoc-here c₁ v k accept is_y, ap (λ x. sum_l is_y (c' x j)) a, ap (λ x. sum_l is_y (c' v x)) b, ap (λ x. sum_l is_y (c₁ x j)) a, ap (λ x. sum_l is_y (c₁ v x)) b, pop-sum s.ch u k q is_y refl w j))
      (λ d. omega (arith, ap (sum_l is_y) (snoc-else c₁ v k accept w j (inr d)), pop-sum s.ch u k q is_y refl w j)))
      (λ d. omega (arith, ap (sum_l is_y) (snoc-else c₁ v k accept w j (inl d)), pop-sum s.ch u k q is_y refl w j))

  ts' : ℕ → ℕ
  ts' = upd (h.ts) u (h.ts u - 1)

  other : (w : ℕ) → u ≢ w → ts' w ≡ h.ts w
  unfolding ts'
  other w d = upd_other (h.ts) u (h.ts u - 1) w d

  T' : Tries z s.lev s.fr s.gl s.due (h.tb) ts' s.ot
  T' = record {
    ts0 = λ w a b. by-eq u w (λ e. absurd (below (inf.1 ∙ ap (GL s) e ∙ b))) (λ d. omega (arith, other w d, (h.T).ts0 w a b));
    ts1 = λ w a b c. by-eq u w (λ e. absurd (omega (arith, inf.1, ap (GL s) e, ap s.lev e))) (λ d. omega (arith, other w d, (h.T).ts1 w a b c));
    ts2 = λ w o. absurd (omega (arith, idle.0));
  }

  L' : Links p z s.lev s.te s.mark c' s.ot ts' (h.lk)
  L' = record {
    ts3 = λ j w x e a b. by-eq u w
        (λ o.
        let y : k ≡ j = sym waits.0 ∙ ap s.te o ∙ a.0 in
        let t = other-end ends e o y in
        omega (arith, snoc-here c₁ v k accept is_y, ap (λ m. sum_l is_y (c' m j)) t, ap (λ m. sum_l is_y (c' v m)) y))
        (λ d. omega (arith, other w d, (h.L).ts3 j w x e a b, tests-answer p s ends q accept refl refl w j (inl d), yes x j));
    lk1 = λ j w x e a b. omega (arith, (h.L).lk1 j w x e a b, lt w j, lt x j);
    lk2 = λ j w x e a b. omega (arith, (h.L).lk2 j w x e a (omega (arith, snoc-sum c₁ v k accept is_t refl w j, pop-le s.ch u k q is_t w j)), lt w j, lt x j);
  }

  pub paid-accept-test : Paid p z (send_over (pop s u k r) v k accept) (n + 1)
  unfolding ts'
  paid-accept-test = record {
    tb = h.tb;
    rp = h.rp;
    ts = ts';
    rt = h.rt;
    lk = h.lk;
    H = heights-send c₁ v k accept refl (heights-pop s.ch u k q refl (h.H));
    D = h.D;
    T = T';
    L = L';
    bal = omega (arith, h.bal, sum-upd p.N u (h.ts u - 1) (h.ts) (end_lt p ends), spare);
  }
