-- Procedure report at v, which waits for nothing: v sends its best weight over its in-branch k and is Found (`inv-report-now`).
use Rattle.protocol.proofs.Prelude.{ℕ, suc, ◌≤◌, ◌<◌, arith, ◌≡◌, refl, sym, ap, subst, ◌∙◌, ◌≢◌, ◌⊎◌, inl, inr, ⊎_elim}
use Rattle.protocol.proofs.Prelude.{List, upd, upd-elim, upd_same, upd_other, by-eq, sum_l, le-sum}
use Rattle.protocol.proofs.Prelude.{Msg, none, connect, initiate, report}
use Rattle.protocol.proofs.Prelude.{Network, Edge, joins-lt, flip, other-end, ends-irr, ProtocolState, set-ch, report_sent}
use Rattle.protocol.proofs.Prelude.{is_c, is_i, is_ci, is_t, is_a, is_r, is_k, arg1, fits-report, Fits, In, Bef, bef-before, in_sum}
use Rattle.protocol.proofs.Prelude.{snoc, snoc-elim, snoc-in, snoc_old, in-snoc2, snoc-bef, snoc-sum, snoc-here, snoc-else, snoc-all}
use Rattle.protocol.proofs.Prelude.{some-connect, no-reports, no-calls, none_in, answers-same, connects-same, testing-same, init-ok, around-same, core-same, post-telling}
use Rattle.protocol.proofs.Prelude.{GL, GC, DK, Inf, Jn, Outst, Counting, Child, CoreEnds, Spent, Inv}
use Rattle.protocol.proofs.Prelude.{inf-cases, fc-find, mark-awake, up-other, no-initiate, no-connect, no-root}
use Rattle.protocol.specs.Fragments.{Ranges, Sleepers}
use Rattle.protocol.specs.Decisions.{Finishes}
use Rattle.protocol.specs.Search.{Kids, Finds, Pending}
use Rattle.protocol.specs.Traffic.{Hush, Tokens, Connects, Initiates, Telling, Testing, Answers, Reports, Owing, Bests, Ordered}
use Rattle.protocol_report.proofs.Settled.{no-owe}

module _ {p : Network} {s : ProtocolState} (i : Inv p s) {v k u : ℕ} (ot : s.ot ≡ 0) (op : s.op ≡ suc v) (oo : s.oo ≡ 0) (ends : Edge p k v u)
    (ib : s.ib v ≡ k) (fc : s.fc v ≡ 0) (te : s.te v ≡ none) where
  abbrev m : Msg
  m = report (s.bw v)

  abbrev S' : ProtocolState
  S' = report_sent s v k

  abbrev c' : ℕ → ℕ → List Msg
  c' = snoc s.ch v k m

  -- ---- v before the step

  find : s.st v ≡ 1
  find = i.pending.f5p v op

  inf : Inf s v
  inf = (i.finds.f1 v find).f1i

  undec : DK s v ≡ 0
  undec = (i.finds.f1 v find).f1k

  v≢u : v ≢ u
  v≢u = ends-irr p ends

  jn : Jn s k v u
  jn = i.inbounds.u1i k v u ends ib

  pub joined_back : Jn s k u v
  joined_back = (jn.1, jn.0)

  pub fr-same : s.fr v ≡ s.fr u
  fr-same = i.markings.m3 k v u ends jn

  -- the other end is informed, or the edge is the core
  beyond : GC s v ≢ k → Inf s u
  beyond n = (i.parents.t1p k v u ends inf ib n).0

  -- no Report of v is there yet
  pub own-rep : sum_l is_r (s.ch v k) ≡ 0
  own-rep = no-reports (s.ch v k) (λ w h. ⊎_elim (λ t. absurd (omega (arith, t.3, find)))
      (⊎_elim (λ t. absurd (omega (arith, t.3, find))) (λ t. by-eq (GC s v) k (λ g. at-core w h t.0 g) (λ n. up-other i k v u ends inf ib n t.0))) (i.reports.r1 k v u w ends h))
    where
      at-core : (w : ℕ) → In (report w) (s.ch v k) → s.ib u ≡ k → GC s v ≡ k → ⊥
      at-core w h b g = inf-cases i u
          (λ t. omega (arith, (i.reports.r1c k v u w ends h t (sym (ap s.dk fr-same) ∙ undec) (sym (ap s.gc fr-same) ∙ g)).3, find))
          (λ l. (i.kids.t4u k u v (flip ends) joined_back (sym (ap s.gc fr-same) ∙ g) l).t4i b)
          (λ z. omega (arith, ap s.gl fr-same, inf.0))

  pub no-child : (j a w : ℕ) → Edge p j a v → In (report w) (s.ch a j) → ¬ Child s a v j w
  no-child j a w e h t =
      let b = up-other i j a v e t.0 t.1 t.2 in
      let r = i.reports.r1j j a v w e h in
      omega (arith, no-owe i ot op oo ends ib fc te j (joins-lt e), i.owing.f4n j v a (flip e) t.5 (r.1, r.0) b (inl (t.0, inr (in_sum is_r h))))

  -- v's parent searches
  pub parent-finds : GC s v ≢ k → s.st u ≡ 1
  parent-finds n =
      let o = i.owing.f4n k u v (flip ends) (beyond n) joined_back (up-other i k v u ends inf ib n) (inl (inf, inl find)) in
      fc-find i u (λ z. omega (arith, le-sum p.g.L k (s.owe u) (joins-lt ends), i.find_counts.f4 u))

  -- ---- tables

  stay : (w : ℕ) → v ≢ w → S'.st w ≡ s.st w
  stay w n = upd_other s.st v 2 w n

  found : (w : ℕ) → s.st w ≡ 2 → S'.st w ≡ 2
  found w h = upd-elim (λ x. x ≡ 2) s.st v 2 w (λ q. refl) (λ n. h)

  other : (w : ℕ) → S'.st w ≡ 1 → v ≢ w
  other w h q = omega (arith, sym (ap (upd s.st v 2) q) ∙ upd_same s.st v 2)

  awake : (w : ℕ) → S'.st w ≢ 0 → s.st w ≢ 0
  awake w = upd-elim (λ x. x ≢ 0 → s.st w ≢ 0) s.st v 2 w (λ q n z. omega (arith, find, ap s.st q)) (λ d n. n)

  asleep : (w : ℕ) → S'.st w ≡ 0 → (v ≢ w) × (s.st w ≡ 0)
  asleep w = upd-elim (λ x. x ≡ 0 → (v ≢ w) × (s.st w ≡ 0)) s.st v 2 w (λ q z. absurd (omega arith)) (λ d z. (d, z))

  -- who is below the fragment's level is not v
  low : (w : ℕ) → s.lev w < GL s w → v ≢ w
  low w l q = omega (arith, inf.1, ap s.lev q, ap (λ x. GL s x) q)

  pub due-low : (w : ℕ) → s.lev w < GL s w → S'.due w ≡ s.due w
  due-low w l = upd_other s.due v 0 w (low w l)

  ranges' : Ranges S'.st s.halt S'.due s.dk s.mark
  ranges' = record {
    st-le = λ w. upd-elim (λ x. x ≤ 2) s.st v 2 w (λ q. omega arith) (λ n. i.ranges.st-le w);
    halt-le = i.ranges.halt-le;
    due-le = λ w. upd-elim (λ x. x ≤ 1) s.due v 0 w (λ q. omega arith) (λ n. i.ranges.due-le w);
    dk-le = i.ranges.dk-le;
    mark-le = i.ranges.mark-le;
  }

  sleepers' : Sleepers p S'.st s.fr s.gl s.dk S'.due s.bw s.be s.ub s.halt s.mark
  sleepers' = record {
    g6 = λ w z. let a = asleep w z in let t = i.sleepers.g6 w a.1 in record { g6g = t.g6g; g6d = t.g6d; g6u = upd_other s.due v 0 w a.0 ∙ t.g6u; g6w = t.g6w; g6e = t.g6e };
    g6m = λ w j z. i.sleepers.g6m w j (asleep w z).1;
    u1a = λ j w x e n. i.sleepers.u1a j w x e (awake w n);
    g7 = λ j w x e n. i.sleepers.g7 j w x e (awake w n);
    g7n = λ w n. i.sleepers.g7n w (awake w n);
  }

  finishes' : Finishes p s.dk s.fr s.gl s.gc s.lev s.bw s.halt S'.due s.mark
  finishes' = record {
    d4 = i.finishes.d4;
    d4i = i.finishes.d4i;
    d5 = λ w h. upd-elim (λ x. x ≡ 0) s.due v 0 w (λ q. refl) (λ n. i.finishes.d5 w h);
    d6 = i.finishes.d6;
    d6c = i.finishes.d6c;
  }

  kids' : Kids p s.lev s.fr s.gl s.gc s.ib s.ub S'.due s.mark
  kids' = record {
    t2 = i.kids.t2;
    t3 = λ j a b e h l r. due-low a l ∙ i.kids.t3 j a b e h l r ∙ sym (due-low b r);
    t4u = λ j x y e h g l. let t = i.kids.t4u j x y e h g l in record { t4d = due-low x l ∙ t.t4d; t4l = t.t4l; t4b = t.t4b; t4i = t.t4i };
  }

  finds' : Finds S'.st s.lev s.fr s.gl s.dk S'.due
  finds' = record {
    f1 = λ w h. let n = other w h in let t = i.finds.f1 w (sym (stay w n) ∙ h) in record { f1i = t.f1i; f1k = t.f1k; f1u = upd_other s.due v 0 w n ∙ t.f1u };
    f1d = λ w h. upd-elim (λ x. x ≡ 1 → S'.st w ≡ 1) s.due v 0 w (λ q z. absurd (omega arith)) (λ n z. stay w n ∙ i.finds.f1d w h z);
  }

  pending' : Pending S'.st s.te s.fc s.ot 0
  pending' = record {
    f2 = λ w h. let n = other w h in
        ⊎_elim (λ t. inl t) (⊎_elim (λ t. inr (inl t)) (⊎_elim (λ t. inr (inr (inl t))) (λ t. absurd (n (omega arith))))) (i.pending.f2 w (sym (stay w n) ∙ h));
    f3t = λ w h. by-eq v w (λ q. sym (ap s.te q) ∙ te) (λ n. i.pending.f3t w (λ z. h (stay w n ∙ z)));
    f3c = λ w h. by-eq v w (λ q. sym (ap s.fc q) ∙ fc) (λ n. i.pending.f3c w (λ z. h (stay w n ∙ z)));
    f5t = λ w h. absurd (omega arith);
    f5p = λ w h. absurd (omega arith);
  }

  -- ---- channels

  same : (f : Msg → ℕ) → f m ≡ 0 → (w j : ℕ) → sum_l f (c' w j) ≡ sum_l f (s.ch w j)
  same f z w j = snoc-sum s.ch v k m f z w j

  old : {x : Msg} (f : Msg → ℕ) → f m ≡ 0 → 1 ≤ f x → (w j : ℕ) → In x (c' w j) → In x (s.ch w j)
  old f z o w j n = snoc_old s.ch v k m w j (λ e. omega (arith, ap f e)) n

  off : (w j : ℕ) → (v ≢ w) ⊎ (k ≢ j) → c' w j ≡ s.ch w j
  off w j n = snoc-else s.ch v k m w j n

  -- the Report is there now
  pub new-rep : 1 ≤ sum_l is_r (c' v k)
  new-rep = omega (arith, snoc-here s.ch v k m is_r)

  more : (w j : ℕ) → sum_l is_r (s.ch w j) ≤ sum_l is_r (c' w j)
  more w j = snoc-elim s.ch v k m (λ l. sum_l is_r (s.ch w j) ≤ sum_l is_r l) w j
      (λ q r. omega (arith, ap (λ x. sum_l is_r (s.ch x j)) q, ap (λ x. sum_l is_r (s.ch v x)) r, own-rep)) (λ d. omega arith)

  -- the channel of an old Report is another one
  apart : (w a j : ℕ) → In (report w) (s.ch a j) → (v ≢ a) ⊎ (k ≢ j)
  apart w a j h = by-eq v a
      (λ q. inr (λ r. omega (arith, none_in is_r own-rep (subst (λ l. In (report w) l) (ap (λ x. s.ch x j) (sym q) ∙ ap (s.ch v) (sym r)) h))))
      (λ n. inl n)

  hush' : Hush p S'
  hush' = record {
    g6o = λ j w x e z. let a = asleep w z in off w j (inl a.0) ∙ i.hush.g6o j w x e a.1;
    g6i = λ j w x e z. let a = asleep x z in snoc-all s.ch v k m w j
        (λ q r. absurd (mark-awake i u k (λ y. omega (arith, jn.1)) (ap s.st (other-end ends e q r) ∙ a.1)))
        (i.hush.g6i j w x e a.1);
  }

  tokens' : Tokens p S'
  tokens' = record {
    d1c = λ j z y e t. in-snoc2 s.ch v k m z j (i.tokens.d1c j z y e t);
    d1a = λ j z y e t. snoc-all s.ch v k m z j
        (λ q r. absurd (omega (arith, undec, ap (λ x. DK s x) q, t.0))) (i.tokens.d1a j z y e t);
    d2c = λ j w x e t. in-snoc2 s.ch v k m w j (i.tokens.d2c j w x e t);
    k1 = λ j w x e n. i.tokens.k1 j w x e (old is_k refl (omega arith) w j n);
    d3r = λ j x y e t b. absurd (no-root i x oo t.0);
    d4h = λ j x y e g d l t h. ⊎_elim (λ o. i.tokens.d4h j x y e g d l t o)
        (λ r. omega (arith, d, ap s.dk (sym (frs-at j x y e r.0 r.1)), undec)) (snoc-in s.ch v k m y j h);
    d4r = λ j x y e g d l t. in-snoc2 s.ch v k m y j (i.tokens.d4r j x y e g d l t);
    d7 = λ j x y e g d h f. by-eq v x
        (λ q. inl (subst (λ z. 1 ≤ sum_l is_r (c' z j)) q (subst (λ z. 1 ≤ sum_l is_r (c' v z))
        (sym ib ∙ ap s.ib q ∙ i.parents.t1e j x y e h g) new-rep)))
        (λ n. ⊎_elim (λ t. inl (omega (arith, more x j, t)))
        (λ t. inr (t.0, found y t.1, t.2, omega (arith, more y j, t.3))) (i.tokens.d7 j x y e g d h (sym (stay x n) ∙ f)));
  }
    where
      frs-at : (j x y : ℕ) → Edge p j x y → v ≡ y → k ≡ j → s.fr v ≡ s.fr x
      frs-at j x y e q r = fr-same ∙ ap s.fr (other-end ends (flip e) q r)

  connects' : Connects p S'
  connects' = let o = connects-same p s c' (λ w j l n. old is_c refl (omega arith) w j n) i.connects in record { c1m = o.c1m; c1 = o.c1 }

  initiates' : Initiates p S'
  initiates' = record {
    i1 = λ j a w l f x e n. let t = i.initiates.i1 j a w l f x e (old is_i refl (omega arith) a j n) in init-ok t (t.i1j) (t.i1u) (due-low w (omega (arith, t.i1l, t.i1g)));
  }

  telling' : Telling p S'
  telling' = record {
    u2 = o.u2;
    t2i = λ j w c e b t n l. subst (λ x. In (initiate (GL s w) (GC s w) x) (c' w j)) (sym (due-low c l)) (o.t2i j w c e b t n l);
    t4 = o.t4;
    t4n = o.t4n;
  }
    where
      o : Telling p (set-ch s c')
      o = post-telling p s v k m refl i.telling

  testing' : Testing p S'
  testing' =
      let o = testing-same p s c' (λ w j l f n. old is_t refl (omega arith) w j n) (same is_t refl) (same is_a refl) i.testing in
      record { e1 = o.e1; e1w = o.e1w; e2w = o.e2w; e2c = o.e2c; m6t = o.m6t }

  answers' : Answers p S'
  answers' =
      let o = answers-same p s c' (λ w j n. old is_a refl (omega arith) w j n) (λ w j n. old is_a refl (omega arith) w j n) i.answers in
      record { a1 = o.a1; j1 = o.j1 }

  -- ---- Reports

  no-conn : (l : ℕ) → ¬ In (connect l) (s.ch v k)
  no-conn l = no-connect i k v u l ends jn inf

  calls : Inf s u → sum_l is_ci (c' v k) ≡ 0
  calls h = same is_ci refl v k ∙ no-calls (s.ch v k) no-conn (λ l f x. no-initiate i k v u l f x ends h)

  -- v's own: to a parent that searches,
  to-parent : GC s v ≢ k → Child S' v u k (s.bw v)
  to-parent n = (inf, ib, n, upd_same s.st v 2, refl, beyond n, stay u v≢u ∙ parent-finds n, calls (beyond n))

  -- or between the core ends
  to-core : GC s v ≡ k → CoreEnds S' v u k (s.bw v)
  to-core g = (
    g,
    undec,
    inf,
    upd_same s.st v 2,
    refl,
    λ n b. ⊎_elim (λ o. absurd (omega (arith, none_in is_r own-rep (bef-before o)))) (λ t. subst (λ x. is_ci x ≡ 0) (sym t.2) refl) (snoc-bef s.ch v k m v k b),
    inf-cases i u (λ h. inl (h, calls h)) (λ l. inr (l, in-snoc2 s.ch v k m v k (init l))) (λ z. absurd (omega (arith, ap s.gl fr-same, inf.0))),
  )
    where
      gu : GC s u ≡ k
      gu = sym (ap s.gc fr-same) ∙ g

      init : s.lev u < GL s u → In (initiate (GL s u) k 1) (s.ch v k)
      init l = ⊎_elim
          (λ t. let c = some-connect (s.ch u k) t in let r = i.connects.c1 k u v c.0 (flip ends) c.1 jn.0 in
          absurd (omega (arith, r.1, r.2, inf.1, ap s.gl fr-same)))
          (⊎_elim (λ t. t) (λ t. absurd (omega (arith, t.1)))) (i.telling.t4 k u v (flip ends) joined_back gu)

  at_new : (C : ℕ → ℕ → ℕ → ℕ → Type 0) (j a b w : ℕ) → Edge p j a b → v ≡ a → k ≡ j → report w ≡ m → C v u k (s.bw v) → C a b j w
  at_new C j a b w e q r h c =
      let y = other-end ends e q r in
      subst (λ x. C x b j w) q (subst (λ x. C v x j w) y (subst (λ x. C v u x w) r (subst (λ x. C v u k x) (sym (ap arg1 h)) c)))

  -- an old one: its channel has not changed
  core-old : (j a b w : ℕ) → In (report w) (s.ch a j) → CoreEnds s a b j w → CoreEnds S' a b j w
  core-old j a b w h t =
      let x = core-same p s c' a b j w (around-same (off a j (apart w a j h)) (in-snoc2 s.ch v k m a j h)) t in (x.0, x.1, x.2, found a x.3, x.4, x.5, x.6)

  reports' : Reports p S'
  reports' = record {
    r1r = λ j a b w e h n. ⊎_elim (λ o. i.reports.r1r j a b w e o n)
        (λ t. let q = ap arg1 t.2 in subst (λ x. x < p.g.L) (sym q) (i.values.w1w v (λ z. n (q ∙ z)))) (snoc-in s.ch v k m a j h);
    r1j = λ j a b w e h. ⊎_elim (λ o. i.reports.r1j j a b w e o)
        (λ t. at_new (λ a b j w. Jn s j a b) j a b w e t.0 t.1 t.2 jn) (snoc-in s.ch v k m a j h);
    r1 = λ j a b w e h. ⊎_elim (λ o. old-one j a b w e o (i.reports.r1 j a b w e o))
        (λ t. by-eq (GC s v) k
        (λ g. inr (inl (at_new (λ a b j w. CoreEnds S' a b j w) j a b w e t.0 t.1 t.2 (to-core g))))
        (λ n. inl (at_new (λ a b j w. Child S' a b j w) j a b w e t.0 t.1 t.2 (to-parent n)))) (snoc-in s.ch v k m a j h);
    r1c = λ j a b w e h f d g. ⊎_elim (λ o. core-old j a b w o (i.reports.r1c j a b w e o f d g))
        (λ t. at_new (λ a b j w. CoreEnds S' a b j w) j a b w e t.0 t.1 t.2 (to-core (at-core j a b e t.0 t.1 g))) (snoc-in s.ch v k m a j h);
  }
    where
      at-core : (j a b : ℕ) → Edge p j a b → v ≡ a → k ≡ j → GC s b ≡ j → GC s v ≡ k
      at-core j a b e q r g = ap s.gc (fr-same ∙ ap s.fr (other-end ends e q r)) ∙ g ∙ sym r

      old-one : (j a b w : ℕ) → Edge p j a b → In (report w) (s.ch a j) → Child s a b j w ⊎ (CoreEnds s a b j w ⊎ Spent p s a b j w)
          → Child S' a b j w ⊎ (CoreEnds S' a b j w ⊎ Spent p S' a b j w)
      old-one j a b w e h (inl t) = inl (
        t.0,
        t.1,
        t.2,
        found a t.3,
        t.4,
        t.5,
        stay b (λ q. no-child j a w (subst (λ x. Edge p j a x) (sym q) e) h (subst (λ x. Child s a x j w) (sym q) t)) ∙ t.6,
        ap (sum_l is_ci) (off a j (apart w a j h)) ∙ t.7,
      )
      old-one j a b w e h (inr (inl t)) = inr (inl (core-old j a b w h t))
      old-one j a b w e h (inr (inr t)) = inr (inr (t.0, t.1, t.2, found b t.3, λ n x. t.4 n (subst (λ l. Bef n (report w) l) (off a j (apart w a j h)) x), t.5))

  owing' : Owing p S'
  owing' = record {
    f4y = λ j w c e n. let t = i.owing.f4y j w c e n in (t.0, t.1, t.2, outst-to j w c e t.0 t.1 t.2 t.3);
    f4n = λ j w c e h b n o. i.owing.f4n j w c e h b n (outst-from j c o);
  }
    where
      outst-to : (j w c : ℕ) → Edge p j w c → Inf s w → Jn s j w c → s.ib w ≢ j → Outst s c j → Outst S' c j
      outst-to j w c e h b n (inl t) = inl (
        t.0,
        ⊎_elim
            (λ f. by-eq v c
            (λ q. inr (subst (λ z. 1 ≤ sum_l is_r (c' z j)) q (subst (λ z. 1 ≤ sum_l is_r (c' v z)) (sym ib ∙ ap s.ib q ∙ i.kids.t2 j w c e b h n t.0) new-rep)))
            (λ d. inl (stay c d ∙ f)))
            (λ r. inr (omega (arith, more c j))) t.1,
      )
      outst-to j w c e h b n (inr t) = inr (t.0, due-low c t.0 ∙ t.1)

      outst-from : (j c : ℕ) → Outst S' c j → Outst s c j
      outst-from j c (inl t) = inl (
        t.0,
        ⊎_elim (λ f. inl (sym (stay c (other c f)) ∙ f))
            (λ r. by-eq v c (λ q. inl (sym (ap s.st q) ∙ find)) (λ d. inr (subst (λ l. 1 ≤ sum_l is_r l) (off c j (inl d)) r))) t.1,
      )
      outst-from j c (inr t) = inr (t.0, sym (due-low c t.0) ∙ t.1)

  bests' : Bests p S'
  bests' = record {
    b1e = λ w h n d. let t = i.bests.b1e w h n d in
        (t.0, t.1, t.2, t.3, t.4, t.5, t.6, found t.0 t.7, ap (sum_l is_r) (off t.0 (s.be w) (inl (λ q. omega (arith, find, ap s.st q, t.7)))) ∙ t.8);
    b2 = λ j a b e h d g. ⊎_elim (λ t. inl (t.0, due-low a t.0 ∙ t.1))
        (⊎_elim (λ t. inr (inl t)) (⊎_elim (λ t. inr (inr (inl t))) (λ t. inr (inr (inr (t.0, t.1, t.2, t.3, live t.0 t.4, t.5)))))) (i.bests.b2 j a b e h d g);
  }
    where
      live : (x : ℕ) → Counting s x → Counting S' x
      live x (inl f) = by-eq v x
          (λ q. inr (inr (subst (λ z. 1 ≤ sum_l is_r (c' z (s.ib z))) q (subst (λ z. 1 ≤ sum_l is_r (c' v z)) (sym ib) new-rep))))
          (λ n. inl (stay x n ∙ f))
      live x (inr (inl g)) = inr (inl g)
      live x (inr (inr r)) = inr (inr (omega (arith, more x (s.ib x))))

  ordered' : Ordered p S'
  ordered' = record {
    q1 = λ j w x a b e t. ⊎_elim (λ y. i.ordered.q1 j w x a b e y)
        (λ y. subst (λ n. Fits a n) (sym y.2) (fits-report (s.bw v) a (none_in is_r own-rep (subst (λ l. In a l) (ap (λ z. s.ch z j) (sym y.0) ∙ ap (s.ch v) (sym y.1)) y.3))))
        (snoc-bef s.ch v k m w j t);
  }

  pub inv-report-now : Inv p S'
  inv-report-now = record {
    ranges = ranges';
    values = i.values;
    levels = i.levels;
    sizes = i.sizes;
    cores = i.cores;
    sleepers = sleepers';
    markings = i.markings;
    inbounds = i.inbounds;
    halves = i.halves;
    change_roots = i.change_roots;
    rootings = i.rootings;
    finishes = finishes';
    parents = i.parents;
    kids = kids';
    finds = finds';
    pending = pending';
    find_counts = i.find_counts;
    tests = i.tests;
    weights = i.weights;
    hush = hush';
    tokens = tokens';
    connects = connects';
    initiates = initiates';
    telling = telling';
    testing = testing';
    answers = answers';
    reports = reports';
    owing = owing';
    bests = bests';
    ordered = ordered';
  }
