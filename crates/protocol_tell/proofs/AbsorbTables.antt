-- v absorbs the fragment D of u over k: the clauses on tables, `ranges-absorb`, `levels-absorb` and so on, each by its name.
use Rattle.protocol.proofs.Prelude.{ℕ, ◌+◌, ◌^◌, ◌≤◌, ◌<◌, arith, ◌≡◌, refl, sym, ap, subst, ◌∙◌, ◌≢◌, inl, inr, ⊎_elim}
use Rattle.protocol.proofs.Prelude.{List, upd-elim, upd2-elim, by-eq, sum, size_mono}
use Rattle.protocol.proofs.Prelude.{Msg, none}
use Rattle.protocol.proofs.Prelude.{Network, Edge, Tree, key, rank, joins-lt, flip, other-end, end_lt, same-edge, Way, way-append, edge-way, wider, ProtocolState, absorbed, pop}
use Rattle.protocol.proofs.Prelude.{bulk-elim, sum_row, row-else, both-joined}
use Rattle.protocol.proofs.Prelude.{at2}
use Rattle.protocol.proofs.Prelude.{Both, JoinedEdge, members, GL, Inv}
use Rattle.protocol.proofs.Prelude.{waits-find, no-waits}
use Rattle.protocol.specs.Fragments.{Ranges, Levels, Sizes, Cores, Sleepers, Markings, Inbounds}
use Rattle.protocol.specs.Decisions.{Halves, ChangeRoots, Rootings, Finishes}
use Rattle.protocol.specs.Search.{Parents, Kids, Finds, Pending, FindCounts, Tests, Weights}
use Rattle.protocol_tell.proofs.Sunk.{Absorbs}
use Rattle.protocol_tell.proofs.Sunk as F

module _ {p : Network} {s : ProtocolState} (i : Inv p s) {u v k l x : ℕ} {r : List Msg} (act : Absorbs p s u v k l x r) where
  abbrev S' : ProtocolState
  S' = absorbed (pop s u k r) u v k x

  pub ranges-absorb : Ranges s.st s.halt S'.due s.dk S'.mark
  ranges-absorb = record {
    st-le = i.ranges.st-le;
    halt-le = i.ranges.halt-le;
    due-le = λ w. bulk-elim (λ y. y ≤ 1) s.fr (s.fr u) (s.due v) s.due w (λ e. i.ranges.due-le v) (λ n. i.ranges.due-le w);
    dk-le = i.ranges.dk-le;
    mark-le = λ w j. upd2-elim (λ y. y ≤ 2) s.mark v k 1 w j (λ a b. omega arith) (λ n. i.ranges.mark-le w j);
  }

  pub levels-absorb : Levels p s.lev s.id S'.fr s.gl s.gc
  levels-absorb = record {
    g2 = λ w. by-eq (s.fr w) (s.fr u) (λ e. omega (arith, F.low i act w e)) (λ n. omega (arith, i.levels.g2 w, ap s.gl (F.fr-out-absorb i act w n)));
    g2i = λ w h. i.levels.g2i w (F.inf-old-absorb i act w h) ∙ ap s.gc (sym (F.fr-out-absorb i act w (F.inf-out-absorb i act w h)));
    g3z = i.levels.g3z;
    g3r = i.levels.g3r;
    g3 = λ w a b n e. F.fr-keep i act a w (i.levels.g3 w a b n e);
  }

  pub sizes-absorb : Sizes p S'.fr s.gl
  sizes-absorb = record {
    g4 = λ w n. lab' w n;
    g4s = λ w z h e. F.fr-cases i act z w e
        (λ y. i.sizes.g4s w z (omega (arith, h, single w h)) y)
        (λ y y'. absurd (omega (arith, h, single w h, ap s.gl y', F.rise i act)))
        (λ y y'. absurd (omega (arith, h, ap s.gl (F.fr-in-absorb i act w y'), F.rise i act)));
  }
    where
      single : (w : ℕ) → GL S' w ≡ 0 → GL s w ≡ GL S' w
      single w h = by-eq (s.fr w) (s.fr u) (λ e. absurd (omega (arith, h, ap s.gl (F.fr-in-absorb i act w e), F.rise i act))) (λ n. ap s.gl (sym (F.fr-out-absorb i act w n)))

      more : (z : ℕ) → s.fr z ≢ s.fr u → members p s.fr (s.fr z) ≤ members p S'.fr (s.fr z)
      more z n = size_mono p.N s.fr S'.fr (s.fr z) (s.fr z) (λ w l e. F.fr-out-absorb i act w (λ y. n (sym e ∙ y)) ∙ e)

      lab' : (w : ℕ) → w < p.N → 2 ^ s.gl (S'.fr w) ≤ members p S'.fr (S'.fr w)
      lab' w n = bulk-elim (λ a. 2 ^ s.gl a ≤ members p S'.fr a) s.fr (s.fr u) (s.fr v) s.fr w
          (λ e. omega (arith, i.sizes.g4 v (end_lt p (flip act.ends)), more v (F.apart-absorb i act))) (λ m. omega (arith, i.sizes.g4 w n, more w m))

  pub cores-absorb : Cores p S'.fr s.gl s.gc S'.mark
  cores-absorb = record {
    g5r = λ w. F.lab i act (λ a. 1 ≤ s.gl a → s.gc a < p.g.L) w (λ z n. i.cores.g5r z);
    g5 = λ w a b. F.lab i act (λ y. 1 ≤ s.gl y → Edge p (s.gc y) a b → Both S'.mark (s.gc y) a b × (S'.fr a ≡ y)) w
        (λ z n h e. let t = i.cores.g5 z a b h e in (F.up-both-absorb i act (s.gc (s.fr z)) a b t.0, F.fr-out-absorb i act a (λ y. n (sym t.1 ∙ y)) ∙ t.1));
  }

  pub sleepers-absorb : Sleepers p s.st S'.fr s.gl s.dk S'.due s.bw s.be s.ub s.halt S'.mark
  sleepers-absorb = record {
    g6 = λ w z. let t = i.sleepers.g6 w z in
        let n = F.dk-out-absorb i act w (λ d. omega (arith, t.g6d)) in
        record { g6g = ap s.gl (F.fr-out-absorb i act w n) ∙ t.g6g; g6d = ap s.dk (F.fr-out-absorb i act w n) ∙ t.g6d; g6u = F.due-out-absorb i act w n ∙ t.g6u; g6w = t.g6w; g6e = t.g6e };
    g6m = λ w j z. F.mark-off-absorb i act w j (inl (λ e. act.awake (ap s.st e ∙ z))) ∙ i.sleepers.g6m w j z;
    u1a = i.sleepers.u1a;
    g7 = λ j w y e a. by-eq (s.fr w) (s.fr u) (λ d h. absurd (omega (arith, h, ap s.gl (F.fr-in-absorb i act w d), F.rise i act)))
        (λ n. subst (λ b. s.gl b ≡ 0 → s.dk b ≡ 3) (sym (F.fr-out-absorb i act w n)) (i.sleepers.g7 j w y e a));
    g7n = λ w a. by-eq (s.fr w) (s.fr u) (λ d h. absurd (omega (arith, h, ap s.gl (F.fr-in-absorb i act w d), F.rise i act)))
        (λ n. subst (λ b. s.gl b ≡ 0 → ((j y : ℕ) → Edge p j w y → ⊥) → (s.dk b ≡ 4) × (s.halt w ≡ 1)) (sym (F.fr-out-absorb i act w n)) (i.sleepers.g7n w a));
  }

  pub markings-absorb : Markings p S'.fr S'.mark
  markings-absorb = record {
    own = λ w j. upd2-elim (λ y. y ≢ 0 → (z : ℕ) × Edge p j w z) s.mark v k 1 w j
        (λ a b n. (u, subst (λ y. Edge p y w u) b (subst (λ y. Edge p k y u) a (flip act.ends)))) (λ m n. i.markings.own w j n);
    m1 = λ j w y e h. let t = i.markings.m1 j w y e (F.dn2-absorb i act w j h) in (
      F.fr-keep i act w y t.0,
      upd2-elim (λ z. z ≢ 1) s.mark v k 1 y j
          (λ a b z. absurd (omega (arith, F.dn2-absorb i act w j h, F.mark-u i act, at j w y e a b))) (λ n. t.1),
    );
    m3 = λ j w y e h. F.jn-absorb i act j w y e h
        (λ a b z. sym (ap S'.fr a) ∙ F.fr-out-absorb i act v (F.apart-absorb i act) ∙ sym (F.fr-in-absorb i act u refl) ∙ ap S'.fr b)
        (λ a b z. sym (ap S'.fr a) ∙ F.fr-in-absorb i act u refl ∙ sym (F.fr-out-absorb i act v (F.apart-absorb i act)) ∙ ap S'.fr b)
        (λ n o. F.fr-keep i act w y (i.markings.m3 j w y e o));
    m4 = λ a b e. F.fr-cases i act a b e
        (λ y. wide (i.markings.m4 a b y))
        (λ y y'. way-append (wide (i.markings.m4 a u y)) (way-append (edge-way act.ends (both-joined p S'.mark act.ends ((F.joined-absorb i act).1, (F.joined-absorb i act).0))) (wide (i.markings.m4 v b (sym y')))))
        (λ y y'. way-append (wide (i.markings.m4 a v y)) (way-append (edge-way (flip act.ends) (both-joined p S'.mark (flip act.ends) (F.joined-absorb i act))) (wide (i.markings.m4 u b (sym y')))));
    m5 = λ j w y e. upd2-elim (λ z. z ≡ 1 → Tree p j) s.mark v k 1 w j
        (λ a b h. subst (λ z. Tree p z) b (i.markings.m5 k u v act.ends (F.mark-u i act))) (λ n h. i.markings.m5 j w y e h);
  }
    where
      at : (j w y : ℕ) → Edge p j w y → v ≡ y → k ≡ j → s.mark w j ≡ s.mark u k
      at j w y e a b = sym (at2 s.mark (other-end (flip act.ends) (flip e) a b) b)

      wide : {a b : ℕ} → Way p.g (JoinedEdge p s.mark) a b → Way p.g (JoinedEdge p S'.mark) a b
      wide = wider (λ e l h. F.up-both-absorb i act e (p.g.lo e) (p.g.hi e) h)

  pub inbounds-absorb : Inbounds p s.ub s.ib S'.mark
  inbounds-absorb = record {
    u1o = i.inbounds.u1o;
    u1 = λ j w y e h. F.up1-absorb i act w j (i.inbounds.u1 j w y e h);
    u1r = i.inbounds.u1r;
    u1i = λ j w y e h. F.up-both-absorb i act j w y (i.inbounds.u1i j w y e h);
    m3u = λ j w y e h. F.jn-absorb i act j w y e h (λ a b z. inr (sym (ap s.ub b) ∙ (F.ok i act).d1u ∙ z)) (λ a b z. inl (sym (ap s.ub a) ∙ (F.ok i act).d1u ∙ z)) (λ n o. i.inbounds.m3u j w y e o);
  }

  -- ---- decisions

  pub halves-absorb : Halves p s.dk s.dn s.de S'.fr s.gl s.lev s.ub S'.mark
  halves-absorb = record {
    m2 = λ j w y e h n. by-eq k j
        (λ z. absurd (n (⊎_elim (λ t. sym (at2 S'.mark t.1 z) ∙ (F.joined-absorb i act).0) (λ t. sym (at2 S'.mark t.0 z) ∙ (F.joined-absorb i act).1) (same-edge act.ends e z))))
        (λ d. let t = i.halves.m2 j w y e (sym (F.mark-off-absorb i act w j (inr d)) ∙ h) (λ m. n (F.up1-absorb i act y j m)) in
        F.dec-new i act 3 w j (λ a. d (sym (F.half i act).2 ∙ ap s.de (sym a) ∙ t.2)) t);
    d1f = λ w. F.lab i act (λ a. s.dk a ≡ 3 → S'.fr (s.dn a) ≡ a) w (λ z n h. F.fr-out-absorb i act (s.dn (s.fr z)) (λ y. n (sym (i.halves.d1f z h) ∙ y)) ∙ i.halves.d1f z h);
    d1e = λ w. F.lab i act (λ a. s.dk a ≡ 3 → (y : ℕ) × Edge p (s.de a) (s.dn a) y) w (λ z n. i.halves.d1e z);
    d1 = λ j z y e h.
        let n = F.half_out i act z j h in
        let t = i.halves.d1 j z y e (F.half-old i act z j h) in
        record {
          d1m = F.up1-absorb i act z j (t.d1m);
          d1y = F.mark-off-absorb i act y j (by-eq v y (λ a. inr (λ b. n (ap s.fr (sym (other-end (flip act.ends) (flip e) a b))))) (λ a. inl a)) ∙ t.d1y;
          d1o = λ a. F.fr-cases i act y z a t.d1o (λ b b'. omega (arith, t.d1g, ap s.gl b', F.rise i act, i.levels.g2 y, ap s.gl b)) (λ b b'. n b');
          d1g = omega (arith, t.d1g, ap s.gl (F.fr-out-absorb i act z n));
          d1l = t.d1l ∙ ap s.gl (sym (F.fr-out-absorb i act z n));
          d1u = t.d1u;
          d1b = F.bounds-absorb i act (rank p j) z n (t.d1b);
        };
  }

  pub change_roots-absorb : ChangeRoots p s.dk s.dn s.de S'.fr s.gl s.gc s.lev s.ib s.ub s.bw S'.mark
  change_roots-absorb = record {
    d2f = λ w. F.lab i act (λ a. s.dk a ≡ 2 → S'.fr (s.dn a) ≡ a) w (λ z n h. F.fr-out-absorb i act (s.dn (s.fr z)) (λ y. n (sym (i.change_roots.d2f z h) ∙ y)) ∙ i.change_roots.d2f z h);
    d2e = λ w. F.lab i act (λ a. s.dk a ≡ 2 → (y : ℕ) × Edge p (s.de a) (s.dn a) y) w (λ z n. i.change_roots.d2e z);
    d2 = λ j a y e h.
        let n = F.changing-out i act a j h in
        let t = i.change_roots.d2 j a y e (F.changing-old i act a j h) in
        let m : s.fr y ≢ s.fr u = λ d. n (i.markings.m3 j a y e (t.d2j) ∙ d) in
        record {
          d2j = F.up-both-absorb i act j a y (t.d2j);
          d2g = λ d. t.d2g (ap s.gc (sym (F.fr-out-absorb i act a n)) ∙ d);
          d2i = F.inf-new-absorb i act a n (t.d2i);
          d2x = F.inf-new-absorb i act y m (t.d2x);
          d2b = t.d2b;
          d2u = t.d2u;
          d2v = t.d2v;
          d2w = t.d2w;
          d2n = F.bounds-absorb i act (key p (s.bw y)) y m (t.d2n);
        };
  }

  pub rootings-absorb : Rootings p s.dk s.dn S'.fr s.gl s.lev s.ib s.ub s.bw S'.mark s.oo
  rootings-absorb = record {
    d3f = λ w h. absurd (F.no-roots i act w h);
    d3o = λ w h. absurd (F.no-roots i act w h);
    f5r = λ w h. absurd (omega (arith, (act.idle).2));
    d3 = λ w h. absurd (F.no-roots i act w h.0);
  }

  pub finishes-absorb : Finishes p s.dk S'.fr s.gl s.gc s.lev s.bw s.halt S'.due S'.mark
  finishes-absorb = record {
    d4 = λ j w y e h m. i.finishes.d4 j w y e (ap s.dk (sym (F.fr-out-absorb i act w (F.no-four i act w h))) ∙ h) (F.dn0-absorb i act w j m);
    d4i = λ j a b e g h.
        let n = F.no-four i act a h in
        subst (λ y. s.gc y ≡ j → s.dk y ≡ 4 → 1 ≤ s.gl y → ((1 ≤ s.gl y) × (s.lev a ≡ s.gl y)) × (s.bw a ≡ none)) (sym (F.fr-out-absorb i act a n)) (i.finishes.d4i j a b e) g h;
    d5 = λ w. by-eq (s.fr w) (s.fr u)
        (λ e h. F.due-in-absorb i act w e ∙ i.finishes.d5 v (λ d. h (ap s.dk (F.fr-in-absorb i act w e) ∙ d)))
        (λ n h. F.due-out-absorb i act w n ∙ i.finishes.d5 w (λ d. h (ap s.dk (F.fr-out-absorb i act w n) ∙ d)));
    d6 = λ w h. let d = i.finishes.d6 w h in ap s.dk (F.fr-out-absorb i act w (F.dk-out-absorb i act w (λ e. omega arith))) ∙ d;
    d6c = λ j w y e h. let d = i.finishes.d6 w h in subst (λ a. (z : ℕ) × Edge p (s.gc a) w z) (sym (F.fr-out-absorb i act w (F.dk-out-absorb i act w (λ e. omega arith)))) (i.finishes.d6c j w y e h);
  }

  -- ---- the tree and the search

  pub parents-absorb : Parents p s.lev S'.fr s.gl s.gc s.ib s.ub s.dep s.side s.dk
  parents-absorb = record {
    t1 = λ w h. i.parents.t1 w (F.inf-old-absorb i act w h);
    t1d = λ w h e. i.parents.t1d w (F.inf-old-absorb i act w h) (e ∙ ap s.gc (F.fr-out-absorb i act w (F.inf-out-absorb i act w h)));
    t1p = λ j w y e h b g.
        let n = F.inf-out-absorb i act w h in
        let t = i.parents.t1p j w y e (F.inf-old-absorb i act w h) b (λ z. g (ap s.gc (F.fr-out-absorb i act w n) ∙ z)) in
        (F.inf-new-absorb i act y (λ z. n (i.markings.m3 j w y e (i.inbounds.u1i j w y e b) ∙ z)) t.0, t.1, t.2);
    t1e = λ j w y e h g. i.parents.t1e j w y e (F.inf-old-absorb i act w h) (ap s.gc (sym (F.fr-out-absorb i act w (F.inf-out-absorb i act w h))) ∙ g);
    t1u = λ w h d. i.parents.t1u w (F.inf-old-absorb i act w h) (ap s.dk (sym (F.fr-out-absorb i act w (F.inf-out-absorb i act w h))) ∙ d);
  }

  pub kids-absorb : Kids p s.lev S'.fr s.gl s.gc s.ib s.ub S'.due S'.mark
  kids-absorb = record {
    t2 = λ j w c e b h n g. F.jn-absorb i act j w c e b
        (λ y z o. absurd (F.inf-out-absorb i act c g (ap s.fr (sym z))))
        (λ y z o. absurd (F.inf-out-absorb i act w h (ap s.fr (sym y))))
        (λ d o. i.kids.t2 j w c e o (F.inf-old-absorb i act w h) n (F.inf-old-absorb i act c g));
    t3 = λ j a b e h m n. F.jn-absorb i act j a b e h
        (λ y z o. sym (ap S'.due y) ∙ F.due-out-absorb i act v (F.apart-absorb i act) ∙ sym (F.due-in-absorb i act u refl) ∙ ap S'.due z)
        (λ y z o. sym (ap S'.due y) ∙ F.due-in-absorb i act u refl ∙ sym (F.due-out-absorb i act v (F.apart-absorb i act)) ∙ ap S'.due z)
        (λ d o. let f = i.markings.m3 j a b e o in
        by-eq (s.fr a) (s.fr u)
        (λ z. F.due-in-absorb i act a z ∙ sym (F.due-in-absorb i act b (sym f ∙ z)))
        (λ z. let z' : s.fr b ≢ s.fr u = λ y. z (f ∙ y) in
        F.due-out-absorb i act a z ∙ i.kids.t3 j a b e o (omega (arith, ap s.gl (F.fr-out-absorb i act a z))) (omega (arith, ap s.gl (F.fr-out-absorb i act b z'))) ∙ sym (F.due-out-absorb i act b z')));
    t4u = λ j a b e h g m.
        let c = F.core-out i act j a b e h g in
        let o = F.fr-out-absorb i act a c.0 in
        let t = i.kids.t4u j a b e c.2 (ap s.gc (sym o) ∙ g) (omega (arith, ap s.gl o)) in
        record { t4d = F.due-out-absorb i act a c.0 ∙ t.t4d; t4l = t.t4l ∙ ap s.gl (sym o); t4b = t.t4b; t4i = t.t4i };
  }

  pub finds-absorb : Finds s.st s.lev S'.fr s.gl s.dk S'.due
  finds-absorb = record {
    f1 = λ w f. let t = i.finds.f1 w f in
        let n = F.find-out-absorb i act w f in
        record { f1i = F.inf-new-absorb i act w n (t.f1i); f1k = ap s.dk (F.fr-out-absorb i act w n) ∙ t.f1k; f1u = F.due-out-absorb i act w n ∙ t.f1u };
    f1d = λ w h d. i.finds.f1d w (F.inf-old-absorb i act w h) (sym (F.due-out-absorb i act w (F.inf-out-absorb i act w h)) ∙ d);
  }

  pub pending-absorb : Pending s.st s.te S'.fc s.ot s.op
  pending-absorb = record {
    f2 = λ w f. ⊎_elim (λ n. inl (upd-elim (λ y. y ≢ 0) s.fc v (s.fc v + x) w (λ e z. n (sym (ap s.fc e) ∙ omega arith)) (λ d. n))) (λ t. inr t) (i.pending.f2 w f);
    f3t = i.pending.f3t;
    f3c = λ w n. upd-elim (λ y. y ≡ 0) s.fc v (s.fc v + x) w
        (λ e. let m : s.st v ≢ 1 = λ f. n (sym (ap s.st e) ∙ f) in
        ⊎_elim (λ t. absurd (m t.0)) (λ t. omega (arith, i.pending.f3c v m, t.1)) act.flag)
        (λ d. i.pending.f3c w n);
    f5t = i.pending.f5t;
    f5p = i.pending.f5p;
  }

  pub find_counts-absorb : FindCounts p S'.fc S'.owe
  find_counts-absorb = record {
    f4 = λ w. upd-elim (λ y. y ≡ sum p.g.L (S'.owe w)) s.fc v (s.fc v + x) w
        (λ e. subst (λ y. s.fc v + x ≡ sum p.g.L (S'.owe y)) e (omega (arith, i.find_counts.f4 v, sum_row p.g.L v k x s.owe (joins-lt act.ends), F.owe-v i act)))
        (λ n. i.find_counts.f4 w ∙ ap (sum p.g.L) (sym (row-else v k x s.owe w n)));
    f4l = λ w j. upd2-elim (λ y. y ≤ 1) s.owe v k x w j (λ a b. F.bit-le-absorb i act) (λ n. i.find_counts.f4l w j);
    f4o = λ w j. upd2-elim (λ y. y ≢ 0 → (c : ℕ) × Edge p j w c) s.owe v k x w j
        (λ a b n. (u, subst (λ y. Edge p y w u) b (subst (λ y. Edge p k y u) a (flip act.ends)))) (λ m n. i.find_counts.f4o w j n);
  }

  pub tests-absorb : Tests p s.te s.ib S'.mark s.ot
  tests-absorb = record {
    e2o = i.tests.e2o;
    e2b = λ j w y h z e a f g. i.tests.e2b j w y h z e a f (F.dn0-absorb i act w h g);
    e2r = λ j w y e a m. i.tests.e2r j w y e a (F.dn2-absorb i act w j m);
    e2i = λ j w y e a b. F.jn-absorb i act j w y e b
        (λ c d o. (
          λ z. F.no-ib i act (ap s.ib c ∙ z ∙ sym o),
          λ z. no-waits i j y w (flip e) (λ f. F.find-out-absorb i act y f (ap s.fr (sym d))) (z, λ m. omega (arith, (act.idle).0)),
        ))
        (λ c d o. absurd (F.find-out-absorb i act w (waits-find i j w y e a) (ap s.fr (sym c))))
        (λ n o. i.tests.e2i j w y e a o);
    m6 = λ j w y e m n. i.tests.m6 j w y e (F.dn2-absorb i act w j m) (F.dn0-absorb i act y j n);
  }

  pub weights-absorb : Weights p s.lev S'.fr s.gl s.bw s.be s.side
  weights-absorb = record {
    b1n = λ w h. i.weights.b1n w (F.inf-old-absorb i act w h);
    b1m = λ w h. i.weights.b1m w (F.inf-old-absorb i act w h);
    b1 = λ w h m.
        let t = i.weights.b1 w (F.inf-old-absorb i act w h) m in
        let n = F.inf-out-absorb i act w h in (
          t.0,
          t.1,
          t.2,
          F.fr-keep i act t.0 w t.3,
          λ a. F.fr-cases i act t.1 w a t.4 (λ b b'. omega (arith, t.5, i.levels.g2 t.1, ap s.gl b, ap s.gl b', F.rise i act)) (λ b b'. n b'),
          omega (arith, t.5, ap s.gl (F.fr-out-absorb i act w n)),
          F.inf-new-absorb i act t.0 (λ z. n (sym t.3 ∙ z)) t.6,
          t.7,
        );
  }
