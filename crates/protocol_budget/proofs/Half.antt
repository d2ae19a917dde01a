-- A Connect is paid from rt, at waking and by procedure change-root; fragments that merge reach a level that none of their nodes has or is about to
-- have (`paid-half`, `paid-merge`).
use Rattle.protocol.proofs.Prelude.{ℕ, suc, ◌+◌, ◌≤◌, arith, ◌≡◌, refl, sym, ap, subst, ◌∙◌, ◌≢◌, inl, inr, ⊎_elim, by-eq}
use Rattle.protocol.proofs.Prelude.{upd, upd-elim, upd_same, upd_other, upd2, upd2-elim, sum-upd, none, connect, initiate}
use Rattle.protocol.proofs.Prelude.{Network, Edge, end_lt, flip, other-end, ends-two, edge-some, ProtocolState}
use Rattle.protocol.proofs.Prelude.{top, top-none, In, all_in, at2, GL, DK, Inf, Inv}
use Rattle.protocol.specs.Decisions.{HalfOk, RootOk}
use Rattle.protocol_budget.proofs.Paid.{Dues, Paid}
use Rattle.protocol_budget.proofs.Height.{paid-keep, Neutral, heights-send, links-send, dues-decide, tb-inf, tb-le}
use Rattle.protocol.proofs.Prelude.{bulk, bulk-in, bulk-out, set-st, set-oo, halved, merged, woken_up, woken-same, sleep-lev, sleep-ub, no-initiate}

-- v, whose fragment is half, needs no more for its Connect
dues-drop : {lev fr gl due dk dn dep tb rp rt : ℕ → ℕ} (v : ℕ) → dk (fr v) ≡ 3 → Dues lev fr gl due dk dn dep tb rp rt → Dues lev fr gl due dk dn dep tb rp (upd rt v 0)
dues-drop {fr = fr} {dk = dk} {rt = rt} v d h = record {
  rp1 = h.rp1;
  rt0 = λ w a b. ⊎_elim (λ o. omega (arith, at w (λ e. omega (arith, d, ap (λ x. dk (fr x)) e)), h.rt0 w a b)) (λ o. omega (arith, at w (λ e. omega (arith, d, ap (λ x. dk (fr x)) e)), h.rt0 w a b)) b;
  rt1 = λ w a b c. omega (arith, at w (λ e. omega (arith, d, ap (λ x. dk (fr x)) e)), h.rt1 w a b c);
  rt2 = λ w a b c. omega (arith, at w (λ e. omega (arith, d, ap (λ x. dk (fr x)) e)), h.rt2 w a b c);
  rt3 = λ w a b c. omega (arith, at w (λ e. omega (arith, d, ap (λ x. dk (fr x)) e)), h.rt3 w a b c);
}
  where
    at : (w : ℕ) → v ≢ w → upd rt v 0 w ≡ rt w
    at w n = upd_other rt v 0 w n

-- v sends Connect over k, which is not Rejected at v; no Initiate is on its way to v
module _ {p : Network} {z n : ℕ} {s : ProtocolState} (i : Inv p s) (h : Paid p z s n) {v k y : ℕ} (l : ℕ) (ends : Edge p k v y) (one : 1 ≤ h.rt v) (here : h.tb v ≡ s.lev v)
    (quiet : (a f x : ℕ) → ¬ In (initiate a f x) (s.ch y k)) (fair : s.mark v k ≢ 2) where
  a-connect : Neutral (connect l)
  a-connect = record { no-init = refl; no_test = refl; no-yes = refl }

  pub paid-half : Paid p z (halved s v k l) (n + 1)
  paid-half = record {
    tb = h.tb;
    rp = h.rp;
    ts = h.ts;
    rt = upd (h.rt) v 0;
    lk = h.lk;
    H = heights-send s.ch v k (connect l) refl (record {
      tb0 = λ w. upd-elim (λ a. a ≡ none → h.tb w ≡ s.lev w) s.ub v k w (λ e b. absurd (edge-some p ends b)) (λ d b. (h.H).tb0 w b);
      tb1 = λ j x w e. upd-elim (λ a. a ≡ j → h.tb w ≡ top (s.lev w) (s.ch x j)) s.ub v k w
          (λ o b.
          let t = other-end ends (flip e) o b in
          ap (h.tb) (sym o) ∙ here ∙ ap s.lev o ∙ sym (top-none (s.lev w) (s.ch x j) (λ a f g m. quiet a f g (subst (λ d. In (initiate a f g) d) (sym (at2 s.ch t b)) m))))
          (λ d b. (h.H).tb1 j x w e b);
    });
    D = dues-drop v (upd_same s.dk (s.fr v) 3)
        (dues-decide (h.D) (s.fr v) 3 v (λ w a b c. absurd (⊎_elim three0 three4 c)) (λ w a b c m. absurd (omega arith)) (λ w a b c m. absurd (omega arith)) (λ w a b c m. absurd (omega arith)));
    T = h.T;
    L = links-send s.ch v k (connect l) a-connect (record {
      ts3 = (h.L).ts3;
      lk1 = λ j w x e a b. (h.L).lk1 j w x e (basic w j a) (λ o. b (rejected x j o));
      lk2 = (h.L).lk2;
    });
    bal = omega (arith, h.bal, one, sum-upd p.N v 0 (h.rt) (end_lt p ends));
  }
    where
      three0 : ◌≡◌ {A = ℕ} 3 0 → ⊥
      three0 o = omega arith

      three4 : ◌≡◌ {A = ℕ} 3 4 → ⊥
      three4 o = omega arith

      basic : (w j : ℕ) → upd2 s.mark v k 1 w j ≡ 0 → s.mark w j ≡ 0
      basic w j = upd2-elim (λ a. a ≡ 0 → s.mark w j ≡ 0) s.mark v k 1 w j (λ a b o. absurd (omega arith)) (λ d o. o)

      rejected : (w j : ℕ) → s.mark w j ≡ 2 → upd2 s.mark v k 1 w j ≡ 2
      rejected w j o = upd2-elim (λ a. a ≡ 2) s.mark v k 1 w j (λ a b. absurd (fair (at2 s.mark a b ∙ o))) (λ d. o)

-- two fragments of one level become one of the next
module _ {p : Network} {z n : ℕ} {s : ProtocolState} (h : Paid p z s n) {v y : ℕ} (k : ℕ) (below : (w : ℕ) → h.tb w ≤ GL s w) (alike : GL s y ≡ GL s v) where
  abbrev S' : ProtocolState
  S' = merged s v y k

  -- those of the two reach a level above
  inner : (w : ℕ) → s.fr v ≡ S'.fr w → h.tb w ≢ GL S' w
  inner w e o = omega (arith, ap S'.gl (sym e), upd_same s.gl (s.fr v) (suc (s.gl (s.fr v))), old)
    where
      old : h.tb w ≤ GL s v
      old = by-eq (s.fr w) (s.fr y) (λ a. omega (arith, below w, ap s.gl a))
          (λ a. omega (arith, below w, ap s.gl (e ∙ bulk-out s.fr (s.fr y) (s.fr v) s.fr w a)))

  -- the others are as they were
  same : (w : ℕ) → s.fr v ≢ S'.fr w → (s.fr w ≢ s.fr y) × (S'.fr w ≡ s.fr w)
  same w d = by-eq (s.fr w) (s.fr y) (λ a. absurd (d (sym (bulk-in s.fr (s.fr y) (s.fr v) s.fr w a)))) (λ a. (a, bulk-out s.fr (s.fr y) (s.fr v) s.fr w a))

  -- by the label
  cases : {C : Type 0} (w : ℕ) → h.tb w ≡ GL S' w → ((S'.fr w ≡ s.fr w) → (GL S' w ≡ GL s w) → (DK S' w ≡ DK s w) → (S'.due w ≡ s.due w) → C) → C
  cases w q f = by-eq (s.fr v) (S'.fr w) (λ e. absurd (inner w e q))
      (λ d.
      let t = same w d in
      f t.1
      (upd_other s.gl (s.fr v) (suc (s.gl (s.fr v))) (S'.fr w) d ∙ ap s.gl t.1)
      (upd_other s.dk (s.fr v) 0 (S'.fr w) d ∙ ap s.dk t.1)
      (bulk-out s.fr (s.fr y) 1 (bulk s.fr (s.fr v) 1 s.due) w t.0 ∙ bulk-out s.fr (s.fr v) 1 s.due w (λ e. d (sym e ∙ sym t.1))))

  pub paid-merge : Paid p z S' n
  paid-merge = paid-keep h S' (h.H)
      (record {
        rp1 = λ w q. cases w q (λ a b c d. omega (arith, d, (h.D).rp1 w (q ∙ b)));
        rt0 = λ w q o. cases w q (λ a b c d. (h.D).rt0 w (q ∙ b) (⊎_elim (λ e. inl (sym c ∙ e)) (λ e. inr (sym c ∙ e)) o));
        rt1 = λ w q o l. cases w q (λ a b c d. (h.D).rt1 w (q ∙ b) (omega (arith, c)) (omega (arith, b)));
        rt2 = λ w q o l. cases w q (λ a b c d. (h.D).rt2 w (q ∙ b) (sym c ∙ o) (omega (arith, ap (λ x. s.dep (s.dn x)) a)));
        rt3 = λ w q o l. cases w q (λ a b c d. (h.D).rt3 w (q ∙ b) (sym c ∙ o) (omega (arith, ap (λ x. s.dep (s.dn x)) a)));
      })
      (record {
        ts0 = λ w q o. cases w q (λ a b c d. (h.T).ts0 w (q ∙ b) (sym b ∙ o));
        ts1 = λ w q o l. cases w q (λ a b c d. (h.T).ts1 w (q ∙ b) (omega (arith, b)) (sym d ∙ l));
        ts2 = (h.T).ts2;
      })
      (h.L)

-- ---- waking

module _ {p : Network} {z n : ℕ} {s : ProtocolState} (i : Inv p s) (h : Paid p z s n) {v k y : ℕ} (ends : Edge p k v y) (asleep : s.st v ≡ 0) where
  level : GL s v ≡ 0
  level = (i.sleepers.g6 v asleep).g6g

  here : h.tb v ≡ s.lev v
  here = (h.H).tb0 v (sleep-ub i v asleep)

  woken-half : Paid p z (halved s v k 0) (n + 1)
  woken-half = paid-half i h 0 ends
      ((h.D).rt0 v (omega (arith, here, sleep-lev i v asleep, level)) (inl (i.sleepers.g6 v asleep).g6d)) here
      (λ a f x m. all_in (i.hush.g6i k y v (flip ends) asleep) m) (λ o. omega (arith, i.sleepers.g6m v k asleep))

  pub paid-wake-half : Paid p z (halved (woken_up s v) v k 0) (n + 1)
  paid-wake-half = subst (λ x. Paid p z (halved x v k 0) (n + 1)) (sym (woken-same i v asleep))
      (let h' = woken-half in paid-keep h' (halved (set-st s (upd s.st v 2)) v k 0) (h'.H) (h'.D) (h'.T) (h'.L))

  pub paid-wake-merge : s.mark y k ≡ 1 → Paid p z (merged (halved (woken_up s v) v k 0) v y k) (n + 1)
  unfolding woken-half paid-half
  paid-wake-merge m = subst (λ x. Paid p z (merged (halved x v k 0) v y k) (n + 1)) (sym (woken-same i v asleep))
      (let a : GL s y ≡ GL s v = omega (arith, level, o.d1g, sleep-lev i v asleep) in
      let h' = paid-merge {s = halved s v k 0} woken-half {v = v} {y = y} k (tb-le i (h.H)) a in
      paid-keep h' (merged (halved (set-st s (upd s.st v 2)) v k 0) v y k) (h'.H) (h'.D) (h'.T) (h'.L))
    where
      o : HalfOk p s.fr s.gl s.lev s.ub s.mark k y v
      o = i.halves.d1 k y v (flip ends) (i.halves.m2 k y v (flip ends) m (λ a. omega (arith, i.sleepers.g6m v k asleep)))

-- ---- procedure change-root, over a best edge that is no branch

module _ {p : Network} {z n : ℕ} {s : ProtocolState} (i : Inv p s) (h : Paid p z s n) {v k y : ℕ} (oo : s.oo ≡ suc v) (ends : Edge p k v y) (best : s.be v ≡ k) (branch : s.mark v k ≢ 1) where
  rooting : RootOk p s.fr s.gl s.lev s.ib s.ub s.bw s.mark v
  rooting = i.rootings.d3 v (i.rootings.f5r v oo)

  inf : Inf s v
  inf = rooting.d3i

  -- the best edge is the best weight, and leaves the fragment to a node of no lower level
  weight : s.bw v ≡ k
  weight = by-eq (s.be v) (s.bw v) (λ e. sym e ∙ best)
      (λ d. let t = i.bests.b1e v inf rooting.d3w d in absurd (branch (ap (s.mark v) (sym best) ∙ t.2.0)))

  outer : (s.fr y ≢ s.fr v) × (GL s v ≤ s.lev y)
  outer =
      let t = i.weights.b1 v inf rooting.d3w in
      ⊎_elim (λ o. ((λ e. t.4 (ap s.fr (sym o.1) ∙ e)), omega (arith, t.5, ap s.lev o.1)))
      (λ o. absurd (t.4 (ap s.fr (sym o.0)))) (ends-two ends (subst (λ x. Edge p x t.0 t.1) weight t.2))

  root-sends : Paid p z (halved s v k (s.lev v)) (n + 1)
  root-sends =
      let r = i.rootings.f5r v oo in
      paid-half i h (s.lev v) ends ((h.D).rt2 v (tb-inf i (h.H) v inf) r.0 (omega (arith, ap s.dep r.1))) (tb-inf i (h.H) v inf ∙ sym inf.1)
      (λ a f x m. no-initiate i k y v a f x (flip ends) inf m) (λ o. outer.0 (sym (i.markings.m1 k v y ends o).0))

  pub paid-root-half : Paid p z (set-oo (halved s v k (s.lev v)) 0) (n + 1)
  paid-root-half = let h' = root-sends in paid-keep h' (set-oo (halved s v k (s.lev v)) 0) (h'.H) (h'.D) (h'.T) (h'.L)

  pub paid-root-merge : s.mark y k ≡ 1 → Paid p z (set-oo (merged (halved s v k (s.lev v)) v y k) 0) (n + 1)
  unfolding root-sends paid-half
  paid-root-merge m =
      let o = i.halves.d1 k y v (flip ends) (i.halves.m2 k y v (flip ends) m branch) in
      let a : GL s y ≡ GL s v = omega (arith, o.d1g, o.d1l, inf.1, outer.1) in
      let h' = paid-merge {s = halved s v k (s.lev v)} root-sends {v = v} {y = y} k (tb-le i (h.H)) a in
      paid-keep h' (set-oo (merged (halved s v k (s.lev v)) v y k) 0) (h'.H) (h'.D) (h'.T) (h'.L)
