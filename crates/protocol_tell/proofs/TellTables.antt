-- v serves Initiate (l, f, x) from u over k: the clauses on tables, `ranges-tell`, `values-tell` and so on, each by its name.
use Rattle.protocol.proofs.Prelude.{ℕ, suc, ◌+◌, ◌*◌, ◌≤◌, ◌<◌, arith, ◌≡◌, refl, sym, ap, subst, ◌∙◌, ◌≢◌, ◌⊎◌, inl, inr, ⊎_elim, List, upd_same}
use Rattle.protocol.proofs.Prelude.{upd_other, upd-elim, by-eq, bit, sum, sum-eq, Msg, none, Network, Edge, key, flip, other-end, ends-irr, edge-some, ProtocolState}
use Rattle.protocol.proofs.Prelude.{fill-elim, fill-else, sum-fill, Bounding, GL, GC, Inf, Jn, Inv, no-root}
use Rattle.protocol.specs.Fragments.{Ranges, Values, Levels, Sleepers, Inbounds}
use Rattle.protocol.specs.Decisions.{Halves, ChangeRoots, Rootings, Finishes}
use Rattle.protocol.specs.Search.{Parents, Kids, FindOk, Finds, Pending, FindCounts, Tests, Weights}
use Rattle.protocol_tell.proofs.Laws.{three}
use Rattle.protocol_tell.proofs.Heard.{Tells}
use Rattle.protocol_tell.proofs.Heard as F

module _ {p : Network} {s : ProtocolState} (i : Inv p s) {u v k l f x a b d e : ℕ} {r : List Msg} (act : Tells p s u v k l f x a b d e r) where
  open F.tell-names i act use {S', ok, kid}

  -- the number of copies, and v's find-count then
  abbrev kid_count : ℕ
  kid_count = sum p.g.L (λ j. bit (kid j))

  abbrev count : ℕ
  count = s.fc v + x * kid_count

  pub ranges-tell : Ranges S'.st s.halt s.due s.dk s.mark
  ranges-tell = record {
    st-le = λ w. upd-elim (λ y. y ≤ 2) s.st v a w (λ z. ⊎_elim (λ t. omega (arith, t.1)) (λ t. omega (arith, t.1)) act.mode) (λ n. i.ranges.st-le w);
    halt-le = i.ranges.halt-le;
    due-le = i.ranges.due-le;
    dk-le = i.ranges.dk-le;
    mark-le = i.ranges.mark-le;
  }

  pub values-tell : Values p S'.bw S'.be
  values-tell = record {
    w1w = λ w. upd-elim (λ y. y ≢ none → y < p.g.L) s.bw v none w (λ z h. absurd (h refl)) (λ n. i.values.w1w w);
    w1e = λ w. upd-elim (λ y. y ≢ none → (z : ℕ) × Edge p y w z) s.be v none w (λ z h. absurd (h refl)) (λ n. i.values.w1e w);
  }

  pub levels-tell : Levels p S'.lev S'.id s.fr s.gl s.gc
  levels-tell = record {
    g2 = λ w. upd-elim (λ y. y ≤ GL s w) s.lev v l w (λ z. omega (arith, ok.i1g, ap (λ n. GL s n) z)) (λ n. i.levels.g2 w);
    g2i = λ w h. F.inf-tell i act w h
        (λ z g. sym (ap S'.id z) ∙ upd_same s.id v f ∙ ok.i1c g ∙ ap (λ n. GC s n) z)
        (λ n g. upd_other s.id v f w n ∙ i.levels.g2i w g);
    g3z = λ w. at w (λ y z g. y ≡ 0 → z ≡ none) (λ h. absurd (omega (arith, ok.i1l))) (i.levels.g3z w);
    g3r = λ w. at w (λ y z g. y ≢ 0 → z < p.g.L) (λ h. ok.i1f) (i.levels.g3r w);
    g3 = λ w y z. at w (λ m n g. m ≢ 0 → Edge p n y z → s.fr y ≡ g) (λ h g. ok.i1i y z g) (i.levels.g3 w y z);
  }
    where
      -- level, identity and label of w: those told to v, or as before
      at : (w : ℕ) (P : ℕ → ℕ → ℕ → Type 0) → P l f (s.fr v) → P (s.lev w) (s.id w) (s.fr w) → P (S'.lev w) (S'.id w) (s.fr w)
      at w P h g = by-eq v w
          (λ z. three P (sym (F.lev-v i act) ∙ ap S'.lev z) (sym (upd_same s.id v f) ∙ ap S'.id z) (ap s.fr z) h)
          (λ n. three P (sym (F.lev-else i act w n)) (sym (upd_other s.id v f w n)) refl g)

  pub sleepers-tell : Sleepers p S'.st s.fr s.gl s.dk s.due S'.bw S'.be s.ub s.halt s.mark
  sleepers-tell = record {
    g6 = λ w h. let t = F.asleep-tell i act w h in
        let o = i.sleepers.g6 w t.1 in
        record { g6g = o.g6g; g6d = o.g6d; g6u = o.g6u; g6w = F.bw-else i act w t.0 ∙ o.g6w; g6e = F.be-else i act w t.0 ∙ o.g6e };
    g6m = λ w j h. i.sleepers.g6m w j (F.asleep-tell i act w h).1;
    u1a = λ j w y g h. i.sleepers.u1a j w y g (F.rouse i act w h);
    g7 = λ j w y g h. i.sleepers.g7 j w y g (F.rouse i act w h);
    g7n = λ w h. i.sleepers.g7n w (F.rouse i act w h);
  }

  pub inbounds-tell : Inbounds p s.ub S'.ib s.mark
  inbounds-tell = record {
    u1o = i.inbounds.u1o;
    u1 = i.inbounds.u1;
    u1r = λ w. upd-elim (λ y. y ≢ none → (z : ℕ) × Edge p y w z) s.ib v k w (λ z h. (u, subst (λ n. Edge p k n u) z (flip act.ends))) (λ n. i.inbounds.u1r w);
    u1i = λ j w y g. upd-elim (λ z. z ≡ j → Jn s j w y) s.ib v k w
        (λ z h. three (λ j w y. Jn s j w y) h z (other-end (flip act.ends) g z h) ((ok.i1j).1, (ok.i1j).0)) (λ n. i.inbounds.u1i j w y g);
    m3u = i.inbounds.m3u;
  }

  -- ---- decisions: their nodes are informed, so not v

  pub halves-tell : Halves p s.dk s.dn s.de s.fr s.gl S'.lev s.ub s.mark
  halves-tell = record {
    m2 = i.halves.m2;
    d1f = i.halves.d1f;
    d1e = i.halves.d1e;
    d1 = λ j z y g h. let t = i.halves.d1 j z y g h in
        record {
          d1m = t.d1m;
          d1y = t.d1y;
          d1o = t.d1o;
          d1g = omega (arith, t.d1g, F.lev-up i act y);
          d1l = F.lev-else i act z (λ n. omega (arith, t.d1l, F.low i act, ap s.lev n, ap (λ m. GL s m) n)) ∙ t.d1l;
          d1u = t.d1u;
          d1b = t.d1b;
        };
  }

  pub change_roots-tell : ChangeRoots p s.dk s.dn s.de s.fr s.gl s.gc S'.lev S'.ib s.ub S'.bw s.mark
  change_roots-tell = record {
    d2f = i.change_roots.d2f;
    d2e = i.change_roots.d2e;
    d2 = λ j z y g h. let t = i.change_roots.d2 j z y g h in
        let n = F.inf-else i act y (t.d2x) in
        let o = F.bw-else i act y n in
        record {
          d2j = t.d2j;
          d2g = t.d2g;
          d2i = F.inf-stay i act z (t.d2i);
          d2x = F.inf-stay i act y (t.d2x);
          d2b = F.ib-else i act y n ∙ t.d2b;
          d2u = t.d2u;
          d2v = t.d2v;
          d2w = λ z. t.d2w (sym o ∙ z);
          d2n = subst (λ c. Bounding p s.fr s.mark (key p c) y) (sym o) (t.d2n);
        };
  }

  pub rootings-tell : Rootings p s.dk s.dn s.fr s.gl S'.lev S'.ib s.ub S'.bw s.mark s.oo
  rootings-tell = record { d3f = i.rootings.d3f; d3o = i.rootings.d3o; f5r = i.rootings.f5r; d3 = λ w h. absurd (no-root i w (act.idle).2 h.0) }

  pub finishes-tell : Finishes p s.dk s.fr s.gl s.gc S'.lev S'.bw s.halt s.due s.mark
  finishes-tell = record {
    d4 = i.finishes.d4;
    d4i = λ j w y g c h n. let t = i.finishes.d4i j w y g c h n in (F.inf-stay i act w t.0, upd-elim (λ z. z ≡ none) s.bw v none w (λ z. refl) (λ z. t.1));
    d5 = i.finishes.d5;
    d6 = i.finishes.d6;
    d6c = i.finishes.d6c;
  }

  -- ---- the tree and the search

  pub parents-tell : Parents p S'.lev s.fr s.gl s.gc S'.ib s.ub S'.dep S'.side s.dk
  parents-tell = record {
    t1 = λ w h. F.inf-tell i act w h (λ z o n. edge-some p act.ends (sym (F.ib-v-tell i act) ∙ ap S'.ib z ∙ n)) (λ n o m. i.parents.t1 w o (sym (F.ib-else i act w n) ∙ m));
    t1d = λ w h c. F.inf-tell i act w h
        (λ z o. subst (λ n. (S'.dep n ≡ 0) × (S'.side n ≡ n)) z (top (sym (F.ib-v-tell i act) ∙ ap S'.ib z ∙ c ∙ ap (λ n. GC s n) (sym z))))
        (λ n o. let t = i.parents.t1d w o (sym (F.ib-else i act w n) ∙ c) in (upd_other s.dep v d w n ∙ t.0, upd_other s.side v e w n ∙ t.1));
    t1p = λ j w y g h c o. F.inf-tell i act w h
        (λ z n. let y = sym (F.ib-v-tell i act) ∙ ap S'.ib z ∙ c in
        three (λ j w y. Inf S' y × (S'.dep w ≡ suc (S'.dep y)) × (S'.side w ≡ S'.side y)) y z (other-end (flip act.ends) g z y) (below n (λ t. o (ap (λ n. GC s n) (sym z) ∙ t ∙ y))))
        (λ n z. let t = i.parents.t1p j w y g z (sym (F.ib-else i act w n) ∙ c) o in
        let m = F.inf-else i act y t.0 in (
          F.inf-stay i act y t.0,
          upd_other s.dep v d w n ∙ t.1 ∙ ap suc (sym (upd_other s.dep v d y m)),
          upd_other s.side v e w n ∙ t.2 ∙ sym (upd_other s.side v e y m),
        ));
    t1e = λ j w y g h c. F.inf-tell i act w h
        (λ z o. sym (ap S'.ib z) ∙ F.ib-v-tell i act ∙ (F.core-k i act j y (subst (λ n. Edge p j n y) (sym z) g) (ap (λ n. GC s n) z ∙ c)).0)
        (λ n o. F.ib-else i act w n ∙ i.parents.t1e j w y g o c);
    t1u = λ w h c. F.inf-tell i act w h (λ z o. sym (ap s.ub z) ∙ ok.i1u ∙ sym (F.ib-v-tell i act) ∙ ap S'.ib z) (λ n o. i.parents.t1u w o c ∙ sym (F.ib-else i act w n));
  }
    where
      top : k ≡ GC s v → (S'.dep v ≡ 0) × (S'.side v ≡ v)
      top z = ⊎_elim (λ t. (upd_same s.dep v d ∙ t.1, upd_same s.side v e ∙ t.2)) (λ t. absurd (t.0 z)) act.place

      below : l ≡ GL s v → GC s v ≢ k → Inf S' u × (S'.dep v ≡ suc (S'.dep u)) × (S'.side v ≡ S'.side u)
      below z n =
          let m : v ≢ u = λ o. F.u≢v i act (sym o) in
          ⊎_elim (λ t. absurd (n (sym t.0)))
          (λ t. (
            F.inf-stay i act u (ok.i1s z n),
            upd_same s.dep v d ∙ t.1 ∙ ap suc (sym (upd_other s.dep v d u m)),
            upd_same s.side v e ∙ t.2 ∙ sym (upd_other s.side v e u m),
          ))
          act.place

  pub kids-tell : Kids p S'.lev s.fr s.gl s.gc S'.ib s.ub s.due s.mark
  kids-tell = record {
    t2 = λ j w c g h y n z. F.inf-tell i act w y
        (λ o m. F.inf-tell i act c z
        (λ y t. absurd (ends-irr p g (sym o ∙ y)))
        (λ y t. absurd (omega (
          arith,
          t.1,
          F.kid-low i act j c (subst (λ n. Edge p j n c) (sym o) g) (λ e. n (sym (ap S'.ib o) ∙ F.ib-v-tell i act ∙ e)) (ap (λ n. s.mark n j) o ∙ h.0),
        ))))
        (λ o m. F.inf-tell i act c z
        (λ y t. sym (ap S'.ib y) ∙ F.ib-v-tell i act ∙ sym (ok.i1u)
        ∙ told j w (subst (λ n. Edge p j w n) (sym y) g) (subst (λ n. Jn s j w n) (sym y) h) m (λ e. n (F.ib-else i act w o ∙ e)))
        (λ y t. F.ib-else i act c y ∙ i.kids.t2 j w c g h m (λ e. n (F.ib-else i act w o ∙ e)) t));
    t3 = λ j y z g h m n. i.kids.t3 j y z g h (F.was-low i act y m) (F.was-low i act z n);
    t4u = λ j w y g h c n.
        let t = i.kids.t4u j w y g h c (F.was-low i act w n) in
        let o : v ≢ w = λ z. omega (arith, n, F.lev-v i act, ap S'.lev z, ap (λ m. GL s m) z, F.core-full i act j y (subst (λ m. Edge p j m y) (sym z) g) (ap (λ m. GC s m) z ∙ c)) in
        record { t4d = t.t4d; t4l = ap (λ m. m + 1) (F.lev-else i act w o) ∙ t.t4l; t4b = t.t4b; t4i = λ z. t.t4i (sym (F.ib-else i act w o) ∙ z) };
  }
    where
      -- beyond a branch of an informed node that is not its in-branch, v has that branch inbound
      told : (j w : ℕ) → Edge p j w v → Jn s j w v → Inf s w → s.ib w ≢ j → s.ub v ≡ j
      told j w g h m n = (i.initiates.i1 j w v (GL s w) (GC s w) (s.due v) g (i.telling.t2i j w v g h m n (F.low i act))).i1u

  pub finds-tell : Finds S'.st S'.lev s.fr s.gl s.dk s.due
  finds-tell = record {
    f1 = λ w. upd-elim (λ y. y ≡ 1 → FindOk S'.lev s.fr s.gl s.dk s.due w) s.st v a w
        (λ z h. let n : x ≢ 0 = λ o. omega (arith, h, (F.found_of i act o).0) in
        subst (λ y. FindOk S'.lev s.fr s.gl s.dk s.due y) z (record { f1i = F.inf-v-tell i act (F.full i act n); f1k = F.undecided i act n; f1u = F.due-v i act n }))
        (λ n h. let t = i.finds.f1 w h in record { f1i = F.inf-stay i act w (t.f1i); f1k = t.f1k; f1u = t.f1u });
    f1d = λ w h c. F.inf-tell i act w h
        (λ z o. sym (ap S'.st z) ∙ F.st-v i act ∙ (F.find-of i act (λ y. omega (arith, ok.i1d o, c, ap s.due z))).0)
        (λ n o. F.st-else i act w n ∙ i.finds.f1d w o c);
  }

  pub pending-tell : Pending S'.st s.te S'.fc b s.op
  pending-tell = record {
    f2 = λ w. upd-elim (λ y. y ≡ 1 → (S'.fc w ≢ 0) ⊎ ((s.te w ≢ none) ⊎ ((b ≡ suc w) ⊎ (s.op ≡ suc w)))) s.st v a w
        (λ z h. inr (inr (inl ((F.find-of i act (λ o. omega (arith, h, (F.found_of i act o).0))).1 ∙ ap suc z))))
        (λ n h. ⊎_elim (λ y. inl (λ z. y (sym (fc-else w n) ∙ z))) (⊎_elim (λ y. inr (inl y)) (⊎_elim (λ y. absurd (omega (arith, (act.idle).0))) (λ y. inr (inr (inr y))))) (i.pending.f2 w h));
    f3t = λ w. upd-elim (λ y. y ≢ 1 → s.te w ≡ none) s.st v a w (λ z h. sym (ap s.te z) ∙ F.te-none i act) (λ n. i.pending.f3t w);
    f3c = λ w. upd-elim (λ y. y ≢ 1 → S'.fc w ≡ 0) s.st v a w (λ z h. sym (ap S'.fc z) ∙ upd_same s.fc v count ∙ idle-count h) (λ n h. fc-else w n ∙ i.pending.f3c w h);
    f5t = λ w h. ⊎_elim (λ t. let z : v ≡ w = omega (arith, t.2) in sym (ap S'.st z) ∙ F.st-v i act ∙ t.1) (λ t. absurd (omega (arith, t.2))) act.mode;
    f5p = λ w h. absurd (omega (arith, (act.idle).1));
  }
    where
      fc-else : (w : ℕ) → v ≢ w → S'.fc w ≡ s.fc w
      fc-else w n = upd_other s.fc v count w n

      idle-count : a ≢ 1 → count ≡ 0
      idle-count h = let z : x ≡ 0 = by-eq x 0 (λ z. z) (λ n. absurd (h (F.find-of i act n).0)) in
          omega (arith, F.fc-none i act, ap (λ y. y * kid_count) z)

  pub find_counts-tell : FindCounts p S'.fc S'.owe
  find_counts-tell = record {
    f4 = λ w. upd-elim (λ y. y ≡ sum p.g.L (S'.owe w)) s.fc v count w
        (λ z. subst (λ n. count ≡ sum p.g.L (S'.owe n)) z (omega (arith, F.fc-none i act, sum-fill p.g.L v x s.owe kid none-owed)))
        (λ n. i.find_counts.f4 w ∙ sum-eq p.g.L (s.owe w) (S'.owe w) (λ j h. sym (fill-else s.owe v kid x w j n)));
    f4l = λ w j. fill-elim (λ y. y ≤ 1) s.owe v kid x w j (λ z h. F.bit-le-tell i act) (λ n. i.find_counts.f4l w j);
    f4o = λ w j. fill-elim (λ y. y ≢ 0 → (c : ℕ) × Edge p j w c) s.owe v kid x w j
        (λ z h n. subst (λ y. (c : ℕ) × Edge p j y c) z (i.markings.own v j (λ o. omega (arith, o, (F.kid-yes i act j h).1)))) (λ n. i.find_counts.f4o w j);
  }
    where
      none-owed : sum p.g.L (s.owe v) ≡ 0
      none-owed = sym (i.find_counts.f4 v) ∙ F.fc-none i act

  pub tests-tell : Tests p s.te S'.ib s.mark b
  tests-tell = record {
    e2o = i.tests.e2o;
    e2b = λ j w y h z g c o n. i.tests.e2b j w y h z g (F.waits-old i act j w c) o n;
    e2r = λ j w y g c. i.tests.e2r j w y g (F.waits-old i act j w c);
    e2i = λ j w y g c h.
        let o = F.waits-old i act j w c in
        let t = i.tests.e2i j w y g o h in
        (λ z. t.0 (sym (F.ib-else i act w (F.waits-else i act j w y g o)) ∙ z), t.1);
    m6 = λ j w y g h n. F.waits-new i act j y w (flip g) (i.tests.m6 j w y g h n);
  }

  pub weights-tell : Weights p S'.lev s.fr s.gl S'.bw S'.be S'.side
  weights-tell = record {
    b1n = λ w h. F.inf-tell i act w h (λ z o n. sym (ap S'.be z) ∙ upd_same s.be v none) (λ n o c. F.be-else i act w n ∙ i.weights.b1n w o (sym (F.bw-else i act w n) ∙ c));
    b1m = λ w h. F.inf-tell i act w h (λ z o n. sym (ap S'.bw z) ∙ F.bw-v i act) (λ n o c. F.bw-else i act w n ∙ i.weights.b1m w o (sym (F.be-else i act w n) ∙ c));
    b1 = λ w h c. F.inf-tell i act w h
        (λ z o. absurd (c (sym (ap S'.bw z) ∙ F.bw-v i act)))
        (λ n o. let t = i.weights.b1 w o (λ z. c (F.bw-else i act w n ∙ z)) in (
          t.0,
          t.1,
          subst (λ y. Edge p y t.0 t.1) (sym (F.bw-else i act w n)) t.2,
          t.3,
          t.4,
          omega (arith, t.5, F.lev-up i act t.1),
          F.inf-stay i act t.0 t.6,
          upd_other s.side v e t.0 (F.inf-else i act t.0 t.6) ∙ t.7 ∙ sym (upd_other s.side v e w n),
        ));
  }
