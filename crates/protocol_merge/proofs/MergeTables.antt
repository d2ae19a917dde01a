-- Merge keeps the clauses that speak of tables: `ranges-merge`, `levels-merge` and so on, each by the clause's name.
use Rattle.protocol.proofs.Prelude.{ℕ, suc, ◌^◌, ◌≤◌, arith, ◌≡◌, sym, ap, subst, ◌∙◌, ◌≢◌, inl, inr, ⊎_elim}
use Rattle.protocol.proofs.Prelude.{upd, upd-elim, upd2-elim, at2, relabel-cases}
use Rattle.protocol.proofs.Prelude.{Network, Edge, Tree, key, rank, Way, go, way-append, both-joined, joins-lt, flip, same-edge, other-end, end_lt, ProtocolState}
use Rattle.protocol.proofs.Prelude.{Both, Decision, GL, GC, DK, Half, waits-find}
use Rattle.graph.proofs.laws.Size.{part_size, size_mono, level-merge}
use Rattle.protocol.specs.Fragments.{Ranges, Levels, Sizes, Cores, Sleepers, Markings, Inbounds}
use Rattle.protocol.specs.Decisions.{Halves, ChangeRoots, Rootings, Finishes}
use Rattle.protocol.specs.Search.{Parents, LowOk, Kids, Finds, Tests, Weights}
use Rattle.protocol_merge.proofs.Move as M
use Rattle.protocol_merge.proofs.Unite as U
use Rattle.protocol_merge.proofs.Unite.{MergeReady}

module _ {p : Network} {s : ProtocolState} {v k y l : ℕ} (r : MergeReady p s v k y l) where
  abbrev S' : ProtocolState
  S' = U.S' r

  -- ---- k afterwards

  mark-v : S'.mark v k ≡ 1
  mark-v = M.mark-new (r.inv) (r.turn) (U.move-merge r)

  pub mark-y : S'.mark y k ≡ 1
  mark-y = M.up1-move (r.inv) (r.turn) (U.move-merge r) y k (r.branch)

  -- an edge that is k: joined, and inside
  at-core : (j a b : ℕ) → k ≡ j → Edge p j a b → Both S'.mark j a b × U.InEither r a
  at-core j a b z e = ⊎_elim
      (λ q. ((sym (at2 S'.mark q.0 z) ∙ mark-v, sym (at2 S'.mark q.1 z) ∙ mark-y), inl (ap s.fr (sym q.0))))
      (λ q. ((sym (at2 S'.mark q.1 z) ∙ mark-y, sym (at2 S'.mark q.0 z) ∙ mark-v), inr (ap s.fr (sym q.1))))
      (same-edge (r.leave.ends) e z)

  -- beyond a joined edge one is inside too
  in-beyond : (j a b : ℕ) → Edge p j a b → U.InEither r a → Both S'.mark j a b → U.InEither r b
  in-beyond j a b e n x = U.joined-merge r j a b e x (λ q c z. inr (ap s.fr (sym c))) (λ q c z. inl (ap s.fr (sym c)))
      (λ f. let q = sym (r.inv.markings.m3 j a b e f) in ⊎_elim (λ c. inl (q ∙ c)) (λ c. inr (q ∙ c)) n)

  -- ---- values, levels, sizes, cores, sleepers

  pub ranges-merge : Ranges S'.st s.halt S'.due S'.dk S'.mark
  ranges-merge = record {
    st-le = λ w. upd-elim (λ x. x ≤ 2) s.st v 2 w (λ q. omega arith) (λ n. r.inv.ranges.st-le w);
    halt-le = r.inv.ranges.halt-le;
    due-le = λ w. U.sort r w (λ e. omega (arith, U.due-in-merge r w e)) (λ o. omega (arith, U.due-out-merge r w o, r.inv.ranges.due-le w));
    dk-le = λ a. upd-elim (λ x. x ≤ 4) (upd s.dk (s.fr v) 3) (s.fr v) 0 a (λ q. omega arith)
        (λ n. upd-elim (λ x. x ≤ 4) s.dk (s.fr v) 3 a (λ q. omega arith) (λ n. r.inv.ranges.dk-le a));
    mark-le = λ w j. upd2-elim (λ x. x ≤ 2) s.mark v k 1 w j (λ a b. omega arith) (λ n. r.inv.ranges.mark-le w j);
  }

  pub levels-merge : Levels p s.lev s.id S'.fr S'.gl S'.gc
  levels-merge = record {
    g2 = λ w. U.sort r w (λ e. omega (arith, U.low-in r w e)) (λ o. omega (arith, U.gl-out r w o, r.inv.levels.g2 w));
    g2i = λ w f. r.inv.levels.g2i w (U.inf-old-merge r w f) ∙ sym (U.gc-out r w (U.inf-out-merge r w f));
    g3z = r.inv.levels.g3z;
    g3r = r.inv.levels.g3r;
    g3 = λ w a b n e. U.keep-merge r a w (r.inv.levels.g3 w a b n e);
  }

  -- of level 0 are only those outside
  zero-out : (w : ℕ) → GL S' w ≡ 0 → U.Outside r w × (GL s w ≡ 0)
  zero-out w g = U.sort r w (λ e. absurd (omega (arith, U.gl-in r w e))) (λ o. (o, sym (U.gl-out r w o) ∙ g))

  pub sizes-merge : Sizes p S'.fr S'.gl
  sizes-merge = record {
    g4 = λ w n. U.sort r w
        (λ e. subst (λ a. 2 ^ GL S' w ≤ part_size p.N S'.fr a) (sym (U.fr-in-merge r w e)) (subst (λ a. 2 ^ a ≤ part_size p.N S'.fr (s.fr v)) (sym (U.gl-in r w e)) whole))
        (λ o. omega (arith, ap (λ a. 2 ^ a) (U.gl-out r w o), r.inv.sizes.g4 w n, size_mono p.N s.fr S'.fr (s.fr w) (S'.fr w) (λ x b q. U.keep-merge r x w q)));
    g4s = λ w u g q. let o = zero-out w g in r.inv.sizes.g4s w u o.1 (U.apart-merge r w u o.0 q);
  }
    where
      whole : 2 ^ suc (GL s v) ≤ part_size p.N S'.fr (s.fr v)
      whole = level-merge p.N s.fr S'.fr (s.fr v) (s.fr y) (s.fr v) (GL s v) (λ q. r.leave.out (sym q)) (λ x b q. U.fr-in-merge r x (inl q)) (λ x b q. U.fr-in-merge r x (inr q))
          (r.inv.sizes.g4 v (end_lt p (r.leave.ends)))
          (subst (λ n. 2 ^ n ≤ part_size p.N s.fr (s.fr y)) (U.even-y r) (r.inv.sizes.g4 y (end_lt p (flip (r.leave.ends)))))

  pub cores-merge : Cores p S'.fr S'.gl S'.gc S'.mark
  cores-merge = record {
    g5r = λ w n. U.sort r w (λ e. omega (arith, U.gc-in r w e, joins-lt (r.leave.ends)))
        (λ o. omega (arith, U.gc-out r w o, r.inv.cores.g5r w (omega (arith, U.gl-out r w o))));
    g5 = λ w a b n e. U.sort r w
        (λ c. let x = at-core (GC S' w) a b (sym (U.gc-in r w c)) e in (x.0, U.fr-in-merge r a x.1 ∙ sym (U.fr-in-merge r w c)))
        (λ o. let g = U.gc-out r w o in
        let x = r.inv.cores.g5 w a b (omega (arith, U.gl-out r w o)) (subst (λ j. Edge p j a b) g e) in
        (subst (λ j. Both S'.mark j a b) (sym g) (M.both-up (r.inv) (r.turn) (U.move-merge r) (GC s w) a b x.0), U.keep-merge r a w x.1));
  }

  pub sleepers-merge : Sleepers p S'.st S'.fr S'.gl S'.dk S'.due s.bw s.be S'.ub s.halt S'.mark
  sleepers-merge = record {
    g6 = λ w z.
        let a = M.st-asleep (r.inv) (r.turn) (U.move-merge r) w z in
        let o = U.asleep-out r w a.0 a.1 in
        let b = r.inv.sleepers.g6 w a.1 in
        record { g6g = U.gl-out r w o ∙ b.g6g; g6d = U.dk-out-merge r w o ∙ b.g6d; g6u = U.due-out-merge r w o ∙ b.g6u; g6w = b.g6w; g6e = b.g6e };
    g6m = M.sleep-mark (r.inv) (r.turn) (U.move-merge r);
    u1a = M.awake-ub (r.inv) (r.turn) (U.move-merge r);
    g7 = λ j w u e n g. let o = zero-out w g in U.dk-out-merge r w o.0 ∙ r.inv.sleepers.g7 j w u e (was w o.0 n) o.1;
    g7n = λ w n g e. let o = zero-out w g in let x = r.inv.sleepers.g7n w (was w o.0 n) o.1 e in (U.dk-out-merge r w o.0 ∙ x.0, x.1);
  }
    where
      was : (w : ℕ) → U.Outside r w → S'.st w ≢ 0 → s.st w ≢ 0
      was w o n = M.st-awake (r.inv) (r.turn) (U.move-merge r) w (U.out-v r w o) n

  -- ---- marks, inbound edges

  pub markings-merge : Markings p S'.fr S'.mark
  markings-merge = record {
    own = M.marked-own (r.inv) (r.turn) (U.move-merge r);
    m1 = λ j w u e z. let a = M.beyond-move (r.inv) (r.turn) (U.move-merge r) j w u e z in (U.keep-merge r w u a.0, a.1);
    m3 = λ j w u e b. U.joined-merge r j w u e b
        (λ q c z. U.fr-in-merge r w (inl (ap s.fr (sym q))) ∙ sym (U.fr-in-merge r u (inr (ap s.fr (sym c)))))
        (λ q c z. U.fr-in-merge r w (inr (ap s.fr (sym q))) ∙ sym (U.fr-in-merge r u (inl (ap s.fr (sym c)))))
        (λ f. U.keep-merge r w u (r.inv.markings.m3 j w u e f));
    m4 = λ a b q. relabel-cases s.fr (s.fr y) (s.fr v) a b q
        (λ c. wide a b c)
        (λ c d. way-append (wide a y c) (go k (flip (r.leave.ends)) core (wide v b (sym d))))
        (λ c d. way-append (wide a v c) (go k (r.leave.ends) core (wide y b (sym d))));
    m5 = λ j w u e z. M.dn1-move (r.inv) (r.turn) (U.move-merge r) w j z
        (λ q c. subst (λ n. Tree p n) c (r.inv.markings.m5 k y v (flip (r.leave.ends)) (r.branch))) (λ f. r.inv.markings.m5 j w u e f);
  }
    where
      core : Both S'.mark k (p.g.lo k) (p.g.hi k)
      core = both-joined p S'.mark (r.leave.ends) (mark-v, mark-y)

      wide : (a b : ℕ) → s.fr a ≡ s.fr b → Way p.g (λ j. Both S'.mark j (p.g.lo j) (p.g.hi j)) a b
      wide = M.ways-stay (r.inv) (r.turn) (U.move-merge r)

  pub inbounds-merge : Inbounds p S'.ub s.ib S'.mark
  inbounds-merge = M.inbounds (r.inv) (r.turn) (U.move-merge r) (λ j w u e b. U.joined-merge r j w u e b
      (λ q c z. inl (ap S'.ub (sym q) ∙ M.ub-new (r.inv) (r.turn) (U.move-merge r) ∙ z))
      (λ q c z. inr (ap S'.ub (sym c) ∙ M.ub-new (r.inv) (r.turn) (U.move-merge r) ∙ z))
      (λ f. M.joined-ub (r.inv) (r.turn) (U.move-merge r) j w u e f))

  -- ---- decisions: those of other fragments

  pub old-decision : (d z j : ℕ) → U.Outside r z → Decision d S'.dk S'.dn S'.de S'.fr z j → Decision d s.dk s.dn s.de s.fr z j
  old-decision d z j o a = (sym (U.dk-out-merge r z o) ∙ a.0, sym (U.dn-out r z o) ∙ a.1, sym (U.de-out r z o) ∙ a.2)

  pub new-decision : (d z j : ℕ) → U.Outside r z → Decision d s.dk s.dn s.de s.fr z j → Decision d S'.dk S'.dn S'.de S'.fr z j
  new-decision d z j o a = (U.dk-out-merge r z o ∙ a.0, U.dn-out r z o ∙ a.1, U.de-out r z o ∙ a.2)

  decision-node : (w : ℕ) → U.Outside r w → s.fr (s.dn (s.fr w)) ≡ s.fr w → S'.fr (S'.dn (S'.fr w)) ≡ S'.fr w
  decision-node w o q = ap S'.fr (U.dn-out r w o) ∙ U.keep-merge r (s.dn (s.fr w)) w q

  decision-edge : (w : ℕ) → U.Outside r w → (x : ℕ) × Edge p (s.de (s.fr w)) (s.dn (s.fr w)) x → (x : ℕ) × Edge p (S'.de (S'.fr w)) (S'.dn (S'.fr w)) x
  decision-edge w o x = (x.0, subst (λ n. Edge p (S'.de (S'.fr w)) n x.0) (sym (U.dn-out r w o)) (subst (λ n. Edge p n (s.dn (s.fr w)) x.0) (sym (U.de-out r w o)) x.1))

  -- an edge that is half afterwards is another fragment's
  half_out : (j w u : ℕ) → Edge p j w u → Half s w j → S'.mark u j ≢ 1 → U.Outside r w
  half_out j w u e x n = U.sort r w
      (λ c. absurd (⊎_elim (λ q. omega (arith, x.0, ap s.dk q, r.turn.fresh))
      (λ q. let f = U.half-y r in
      let a : y ≡ w = sym f.1 ∙ ap s.dn (sym q) ∙ x.1 in
      let b : k ≡ j = sym f.2 ∙ ap s.de (sym q) ∙ x.2 in
      n (sym (at2 S'.mark (other-end (flip (r.leave.ends)) e a b) b) ∙ mark-v)) c))
      (λ o. o)

  pub halves-merge : Halves p S'.dk S'.dn S'.de S'.fr S'.gl s.lev S'.ub S'.mark
  halves-merge = record {
    m2 = λ j w u e a b. M.dn1-move (r.inv) (r.turn) (U.move-merge r) w j a
        (λ q z. absurd (b (sym (at2 S'.mark (M.far-end (r.inv) (r.turn) (U.move-merge r) j w u e q z) z) ∙ mark-y)))
        (λ m. let x = r.inv.halves.m2 j w u e m (λ f. b (M.up1-move (r.inv) (r.turn) (U.move-merge r) u j f)) in new-decision 3 w j (half_out j w u e x b) x);
    d1f = λ w z. let o = U.dk-old r 3 w (λ q. omega arith) z in decision-node w o.0 (r.inv.halves.d1f w o.1);
    d1e = λ w z. let o = U.dk-old r 3 w (λ q. omega arith) z in decision-edge w o.0 (r.inv.halves.d1e w o.1);
    d1 = λ j z x e a.
        let o = (U.dk-old r 3 z (λ q. omega arith) a.0).0 in
        let b = r.inv.halves.d1 j z x e (old-decision 3 z j o a) in
        record {
          d1m = M.up1-move (r.inv) (r.turn) (U.move-merge r) z j (b.d1m);
          d1y = upd2-elim (λ n. n ≡ 0) s.mark v k 1 x j (λ q c. absurd (o.1 (ap s.fr (sym (M.far-end (r.inv) (r.turn) (U.move-merge r) j x z (flip e) q c))))) (λ n. b.d1y);
          d1o = λ q. b.d1o (U.apart-merge r z x o q);
          d1g = omega (arith, U.gl-out r z o, b.d1g);
          d1l = b.d1l ∙ sym (U.gl-out r z o);
          d1u = U.ub-out r z o ∙ b.d1u;
          d1b = U.bounds-merge r (rank p j) z o (b.d1b);
        };
  }

  pub change_roots-merge : ChangeRoots p S'.dk S'.dn S'.de S'.fr S'.gl S'.gc s.lev s.ib S'.ub s.bw S'.mark
  change_roots-merge = record {
    d2f = λ w z. let o = U.dk-old r 2 w (λ q. omega arith) z in decision-node w o.0 (r.inv.change_roots.d2f w o.1);
    d2e = λ w z. let o = U.dk-old r 2 w (λ q. omega arith) z in decision-edge w o.0 (r.inv.change_roots.d2e w o.1);
    d2 = λ j u x e a.
        let o = (U.dk-old r 2 u (λ q. omega arith) a.0).0 in
        let b = r.inv.change_roots.d2 j u x e (old-decision 2 u j o a) in
        let c = U.beyond-merge r j u x e o (b.d2j) in
        record {
          d2j = M.both-up (r.inv) (r.turn) (U.move-merge r) j u x (b.d2j);
          d2g = λ z. b.d2g (sym (U.gc-out r u o) ∙ z);
          d2i = U.inf-new-merge r u o (b.d2i);
          d2x = U.inf-new-merge r x c (b.d2x);
          d2b = b.d2b;
          d2u = U.ub-out r u o ∙ b.d2u;
          d2v = U.ub-out r x c ∙ b.d2v;
          d2w = b.d2w;
          d2n = U.bounds-merge r (key p (s.bw x)) x c (b.d2n);
        };
  }

  -- nobody is at its root
  pub no-root-merge : (w : ℕ) → DK S' w ≢ 1
  no-root-merge w z = let o = U.dk-old r 1 w (λ q. omega arith) z in o.0.0 (r.turn.roots w o.1)

  pub rootings-merge : Rootings p S'.dk S'.dn S'.fr S'.gl s.lev s.ib S'.ub s.bw S'.mark 0
  rootings-merge = record { d3f = λ w z. absurd (no-root-merge w z); d3o = λ w z. absurd (no-root-merge w z); f5r = λ w z. absurd (omega arith); d3 = λ w z. absurd (no-root-merge w z.0) }

  pub finishes-merge : Finishes p S'.dk S'.fr S'.gl S'.gc s.lev s.bw s.halt S'.due S'.mark
  finishes-merge = record {
    d4 = λ j w u e z f. r.inv.finishes.d4 j w u e (U.dk-old r 4 w (λ q. omega arith) z).1 (M.dn0-move (r.inv) (r.turn) (U.move-merge r) w j f);
    d4i = λ j a b e g z n. let o = U.dk-old r 4 a (λ q. omega arith) z in
        let x = r.inv.finishes.d4i j a b e (sym (U.gc-out r a o.0) ∙ g) o.1 (omega (arith, U.gl-out r a o.0)) in
        (U.inf-new-merge r a o.0 x.0, x.1);
    d5 = λ w n. let o = U.dk-decided r w n in U.due-out-merge r w o ∙ r.inv.finishes.d5 w (λ z. n (U.dk-out-merge r w o ∙ z));
    d6 = λ w n. U.dk-out-merge r w (halted w n) ∙ r.inv.finishes.d6 w n;
    d6c = λ j w u e n. let x = r.inv.finishes.d6c j w u e n in (x.0, subst (λ c. Edge p c w x.0) (sym (U.gc-out r w (halted w n))) x.1);
  }
    where
      halted : (w : ℕ) → s.halt w ≢ 0 → U.Outside r w
      halted w n = let x = r.inv.finishes.d6 w n in U.dk-other r w (omega arith) (λ z. omega arith)

  -- ---- the tree of informed nodes, the search

  pub parents-merge : Parents p s.lev S'.fr S'.gl S'.gc s.ib S'.ub s.dep s.side S'.dk
  parents-merge = record {
    t1 = λ w f. r.inv.parents.t1 w (U.inf-old-merge r w f);
    t1d = λ w f q. r.inv.parents.t1d w (U.inf-old-merge r w f) (q ∙ U.gc-out r w (U.inf-out-merge r w f));
    t1p = λ j w u e f q n. let o = U.inf-out-merge r w f in
        let x = r.inv.parents.t1p j w u e (U.inf-old-merge r w f) q (λ z. n (U.gc-out r w o ∙ z)) in
        (U.inf-new-merge r u (U.beyond-merge r j w u e o (r.inv.inbounds.u1i j w u e q)) x.0, x.1, x.2);
    t1e = λ j w u e f g. r.inv.parents.t1e j w u e (U.inf-old-merge r w f) (sym (U.gc-out r w (U.inf-out-merge r w f)) ∙ g);
    t1u = λ w f z. let o = U.inf-out-merge r w f in U.ub-out r w o ∙ r.inv.parents.t1u w (U.inf-old-merge r w f) (sym (U.dk-out-merge r w o) ∙ z);
  }

  pub kids-merge : Kids p s.lev S'.fr S'.gl S'.gc s.ib S'.ub S'.due S'.mark
  kids-merge = record {
    t2 = λ j w c e b f n g. r.inv.kids.t2 j w c e (U.joined-out r j w c e (U.inf-out-merge r w f) b) (U.inf-old-merge r w f) n (U.inf-old-merge r c g);
    t3 = λ j a c e b m n. U.sort r a
        (λ f. U.due-in-merge r a f ∙ sym (U.due-in-merge r c (in-beyond j a c e f b)))
        (λ o. let x = U.joined-out r j a c e o b in let q = U.beyond-merge r j a c e o x in
        U.due-out-merge r a o ∙ r.inv.kids.t3 j a c e x (omega (arith, U.gl-out r a o)) (omega (arith, U.gl-out r c q)) ∙ sym (U.due-out-merge r c q));
    t4u = λ j a c e b g n. U.sort r a
        (λ f. U.joined-merge r j a c e b
        (λ q d z. subst (λ w. LowOk s.lev S'.fr S'.gl s.ib S'.ub S'.due j w) q (subst (λ j. LowOk s.lev S'.fr S'.gl s.ib S'.ub S'.due j v) z low-v))
        (λ q d z. subst (λ w. LowOk s.lev S'.fr S'.gl s.ib S'.ub S'.due j w) q (subst (λ j. LowOk s.lev S'.fr S'.gl s.ib S'.ub S'.due j y) z low-y))
        (λ x. absurd (U.not-k r j a c e x (sym (U.gc-in r a f) ∙ g))))
        (λ o. let x = r.inv.kids.t4u j a c e (U.joined-out r j a c e o b) (sym (U.gc-out r a o) ∙ g) (omega (arith, U.gl-out r a o)) in
        record { t4d = U.due-out-merge r a o ∙ x.t4d; t4l = x.t4l ∙ sym (U.gl-out r a o); t4b = U.ub-out r a o ∙ x.t4b; t4i = x.t4i });
  }
    where
      low-v : LowOk s.lev S'.fr S'.gl s.ib S'.ub S'.due k v
      low-v = record {
        t4d = U.due-in-merge r v (U.in-v r);
        t4l = omega (arith, U.gl-in r v (U.in-v r), r.turn.even);
        t4b = M.ub-new (r.inv) (r.turn) (U.move-merge r);
        t4i = λ q. omega (arith, (r.inv.inbounds.u1i k v y (r.leave.ends) q).0, r.leave.basic);
      }

      low-y : LowOk s.lev S'.fr S'.gl s.ib S'.ub S'.due k y
      low-y = record {
        t4d = U.due-in-merge r y (U.in-y r);
        t4l = omega (arith, U.gl-in r y (U.in-y r), (U.ok-y r).d1l, U.even-y r);
        t4b = M.ub-off (r.inv) (r.turn) (U.move-merge r) y (M.y≢v (r.inv) (r.turn) (U.move-merge r)) ∙ (U.ok-y r).d1u;
        t4i = λ q. omega (arith, (r.inv.inbounds.u1i k y v (flip (r.leave.ends)) q).1, r.leave.basic);
      }

  pub finds-merge : Finds S'.st s.lev S'.fr S'.gl S'.dk S'.due
  finds-merge = record {
    f1 = λ w z. let f = M.st-old (r.inv) (r.turn) (U.move-merge r) w z in let o = U.find-out-merge r w f in let x = r.inv.finds.f1 w f in
        record { f1i = U.inf-new-merge r w o (x.f1i); f1k = U.dk-out-merge r w o ∙ x.f1k; f1u = U.due-out-merge r w o ∙ x.f1u };
    f1d = λ w f z. M.st-new (r.inv) (r.turn) (U.move-merge r) w (r.inv.finds.f1d w (U.inf-old-merge r w f) (sym (U.due-out-merge r w (U.inf-out-merge r w f)) ∙ z));
  }

  pub tests-merge : Tests p s.te s.ib S'.mark s.ot
  tests-merge = M.tests-move (r.inv) (r.turn) (U.move-merge r) (λ j w u e a b. U.joined-out r j w u e (U.find-out-merge r w (waits-find (r.inv) j w u e a)) b)

  pub weights-merge : Weights p s.lev S'.fr S'.gl s.bw s.be s.side
  weights-merge = record {
    b1n = λ w f. r.inv.weights.b1n w (U.inf-old-merge r w f);
    b1m = λ w f. r.inv.weights.b1m w (U.inf-old-merge r w f);
    b1 = λ w f n. let o = U.inf-out-merge r w f in let x = r.inv.weights.b1 w (U.inf-old-merge r w f) n in (
      x.0,
      x.1,
      x.2,
      U.keep-merge r x.0 w x.3,
      λ q. x.4 (U.apart-merge r w x.1 o q),
      omega (arith, U.gl-out r w o, x.5),
      U.inf-new-merge r x.0 (U.outside-like r w x.0 o x.3) x.6,
      x.7,
    );
  }
