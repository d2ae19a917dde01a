-- An Initiate in answer to a Connect: its receiver u will have a higher level, which pays for the Initiate and for all that u may send at that level
-- (`raise`, `paid-core-reply`).
use Rattle.protocol.proofs.Prelude.{ℕ, ◌+◌, ◌*◌, ◌≤◌, ◌<◌, arith, ◌≡◌, refl, sym, ap, subst, ◌∙◌, ◌≢◌, ◌⊎◌, inl, inr, ⊎_elim, by-eq}
use Rattle.protocol.proofs.Prelude.{List, [], ◌∷◌, ◌++◌, sum_l, upd, upd-elim, upd_same, upd_other, upd2, sum-upd, Msg, connect, initiate}
use Rattle.protocol.proofs.Prelude.{Network, Edge, end_lt, flip, ends_same, other-end, edge-some, ProtocolState}
use Rattle.protocol.proofs.Prelude.{is_t, is_y, top, top-app, pop-top, In, snoc, snoc-sum, snoc-else, snoc-elim, pop-head, pop-sum, at2, GL, GC, Jn, Inv}
use Rattle.protocol_budget.proofs.Paid.{Heights, Links, Paid, links-same}
use Rattle.protocol_budget.proofs.Height.{tb-none}
use Rattle.protocol.proofs.Prelude.{send_over, pop, in_sum, is_c}

-- what is known of the new tables
pub record Raised (p : Network) (z : ℕ) (s : ProtocolState) (n u : ℕ) (tb : ℕ → ℕ) : Type 0 where
  pub paid : Paid p z s n
  pub one-rp : 1 ≤ paid.rp u
  pub two-ts : 2 ≤ paid.ts u
  pub one-rt : 1 ≤ paid.rt u
  pub else-tb : (w : ℕ) → u ≢ w → paid.tb w ≡ tb w

-- Connect from u at v over k is answered by Initiate (b, f, x), which is above the level that u was to have
module _ {p : Network} {z n : ℕ} {s : ProtocolState} (i : Inv p s) (h : Paid p z s n) {u v k l : ℕ} {r : List Msg} (b f x : ℕ) (ends : Edge p k u v) (q : s.ch u k ≡ connect l ∷ r)
    (inbound : s.ub u ≡ k) (above : h.tb u < b) where
  abbrev c₁ : ℕ → ℕ → List Msg
  c₁ = upd2 s.ch u k r

  abbrev m : Msg
  m = initiate b f x

  abbrev c' : ℕ → ℕ → List Msg
  c' = snoc c₁ v k m

  -- at u the new values, elsewhere the old ones
  at_least : (g : ℕ → ℕ) (a c w : ℕ) → c ≤ a → (u ≢ w → c ≤ g w) → c ≤ upd g u a w
  at_least g a c w l d = upd-elim (λ y. c ≤ y) g u a w (λ e. l) d

  H' : Heights p s.lev s.ub c' (upd (h.tb) u b)
  H' = record {
    tb0 = λ w o. upd-elim (λ y. y ≡ s.lev w) (h.tb) u b w (λ e. absurd (edge-some p ends (sym inbound ∙ ap s.ub e ∙ o))) (λ d. (h.H).tb0 w o);
    tb1 = λ j y w e o. upd-elim (λ a. a ≡ top (s.lev w) (c' y j)) (h.tb) u b w
        (λ d.
        let g : k ≡ j = sym inbound ∙ ap s.ub d ∙ o in
        let t = other-end ends (flip e) d g in
        sym (ap (top (s.lev w)) (sym (at2 c' t g) ∙ new) ∙ top-app (s.lev w) b f x (c₁ v k)))
        (λ d. (h.H).tb1 j y w e o ∙ sym (ap (top (s.lev w)) (snoc-else c₁ v k m y j (apart j y w e d)) ∙ pop-top s.ch u k (connect l) refl q (s.lev w) y j));
  }
    where
      new : c' v k ≡ c₁ v k ++ (m ∷ [])
      new = snoc-elim c₁ v k m (λ a. a ≡ c₁ v k ++ (m ∷ [])) v k (λ a b. refl) (λ d. absurd (⊎_elim (λ g. g refl) (λ g. g refl) d))

      -- the channel to another than u
      apart : (j y w : ℕ) → Edge p j y w → u ≢ w → (v ≢ y) ⊎ (k ≢ j)
      apart j y w e d = by-eq k j
          (λ g. inl (λ a. d (other-end (flip ends) e a g))) (λ g. inr g)

  pub raise : Raised p z (send_over (pop s u k r) v k m) (n + 1) u (h.tb)
  raise = record {
    paid = record {
      tb = upd (h.tb) u b;
      rp = upd (h.rp) u 1;
      ts = upd (h.ts) u 2;
      rt = upd (h.rt) u 1;
      lk = h.lk;
      H = H';
      D = record {
        rp1 = λ w a. upd-elim (λ y. s.due w ≤ y) (h.rp) u 1 w (λ e. i.ranges.due-le w) (λ d. (h.D).rp1 w (old w d a));
        rt0 = λ w a o. at_least (h.rt) 1 1 w (omega arith) (λ d. (h.D).rt0 w (old w d a) o);
        rt1 = λ w a o c. at_least (h.rt) 1 1 w (omega arith) (λ d. (h.D).rt1 w (old w d a) o c);
        rt2 = λ w a o c. at_least (h.rt) 1 1 w (omega arith) (λ d. (h.D).rt2 w (old w d a) o c);
        rt3 = λ w a o c. at_least (h.rt) 1 1 w (omega arith) (λ d. (h.D).rt3 w (old w d a) o c);
      };
      T = record {
        ts0 = λ w a o. at_least (h.ts) 2 2 w (omega arith) (λ d. (h.T).ts0 w (old w d a) o);
        ts1 = λ w a o c. at_least (h.ts) 2 2 w (omega arith) (λ d. (h.T).ts1 w (old w d a) o c);
        ts2 = λ w o. at_least (h.ts) 2 2 w (omega arith) (λ d. (h.T).ts2 w o);
      };
      L = record {
        ts3 = λ j w y e a o. upd-elim (λ t. 2 ≤ t + sum_l is_t (c' w j) + 2 * sum_l is_y (c' y j)) (h.ts) u 2 w (λ d. omega arith) (λ d. new-links.ts3 j w y e a o);
        lk1 = new-links.lk1;
        lk2 = new-links.lk2;
      };
      bal = omega (arith, h.bal, above, sum-upd p.N u b (h.tb) (end_lt p ends), sum-upd p.N u 1 (h.rp) (end_lt p ends), sum-upd p.N u 2 (h.ts) (end_lt p ends), sum-upd p.N u 1 (h.rt) (end_lt p ends));
    };
    one-rp = omega (arith, upd_same (h.rp) u 1);
    two-ts = omega (arith, upd_same (h.ts) u 2);
    one-rt = omega (arith, upd_same (h.rt) u 1);
    else-tb = λ w d. upd_other (h.tb) u b w d;
  }
    where
      old : (w : ℕ) → u ≢ w → upd (h.tb) u b w ≡ GL s w → h.tb w ≡ GL s w
      old w d a = sym (upd_other (h.tb) u b w d) ∙ a

      new-links : Links p z s.lev s.te s.mark c' s.ot (h.ts) (h.lk)
      new-links = links-same c' (λ w j. snoc-sum c₁ v k m is_t refl w j ∙ pop-sum s.ch u k q is_t refl w j) (λ w j. snoc-sum c₁ v k m is_y refl w j ∙ pop-sum s.ch u k q is_y refl w j) (h.L)

-- ---- over the core

module _ {p : Network} {z n : ℕ} {s : ProtocolState} (i : Inv p s) (h : Paid p z s n) {u v k l : ℕ} {r : List Msg} (ends : Edge p k u v) (q : s.ch u k ≡ connect l ∷ r) where
  head : In (connect l) (s.ch u k)
  head = pop-head s.ch u k q

  branch : s.mark u k ≡ 1
  branch = i.connects.c1m k u v l ends head

  counts : 1 ≤ sum_l is_c (s.ch u k)
  counts = in_sum is_c head

  pub paid-core-reply : s.mark v k ≢ 0 → Paid p z (send_over (pop s u k r) v k (initiate (s.lev v + 1) k 1)) (n + 1)
  paid-core-reply m =
      let o : s.mark v k ≡ 1 = omega (arith, i.ranges.mark-le v k, no2) in
      let j : Jn s k u v = (branch, o) in
      let c = i.connects.c1 k u v l ends head o in
      let t = i.telling.t4n k u v ends j c.0 counts in
      let y = i.kids.t4u k u v ends j c.0 t.0 in
      let none-up : (a d e : ℕ) → ¬ In (initiate a d e) (s.ch v k) = λ a d e g. no-up j c.0 t.0 t.1 (y.t4l) (y.t4d) a d e g in
      let e : h.tb u ≡ s.lev u = tb-none i (h.H) u (λ a b d f g w x o₁. none-up d f g (moved a b d f g w (sym (y.t4b) ∙ x) o₁)) in
      (raise i h (s.lev v + 1) k 1 ends q (y.t4b) (omega (arith, e, y.t4l, c.1, c.2))).paid
    where
      -- the channel by which Initiates come to u
      moved : (a b d f g : ℕ) → Edge p a b u → k ≡ a → In (initiate d f g) (s.ch b a) → In (initiate d f g) (s.ch v k)
      moved a b d f g w e o = subst (λ c. In (initiate d f g) c) (sym (at2 s.ch (ends_same ends (subst (λ c. Edge p c u b) (sym e) (flip w))) e)) o

      no2 : s.mark v k ≢ 2
      no2 e = (i.markings.m1 k v u (flip ends) e).1 branch

      -- an Initiate to u would be that of the core
      no-up : Jn s k u v → GC s u ≡ k → s.lev u < GL s u → ¬ In (initiate (GL s u) k 1) (s.ch v k) → s.lev u + 1 ≡ GL s u → s.due u ≡ 1 → (a d e : ℕ) → ¬ In (initiate a d e) (s.ch v k)
      no-up j g low n lev due a d e o =
          let t = i.initiates.i1 k v u a d e (flip ends) o in
          let b : a ≡ GL s u = omega (arith, t.i1l, t.i1g) in
          n (subst (λ x. In (initiate x k 1) (s.ch v k)) b
          (subst (λ x. In (initiate a x 1) (s.ch v k)) (t.i1c b ∙ g) (subst (λ x. In (initiate a d x) (s.ch v k)) (t.i1d b ∙ due) o)))
