-- Merge keeps the clauses that speak of channels: `tokens-merge`, `connects-merge` and so on, each by the clause's name.
use Rattle.protocol.proofs.Prelude.{ℕ, ◌+◌, ◌≤◌, arith, ◌≡◌, refl, sym, ap, subst, ◌∙◌, ◌≢◌, inl, inr, ⊎_elim}
use Rattle.protocol.proofs.Prelude.{upd_other, All, sum_l, at2}
use Rattle.protocol.proofs.Prelude.{Msg, connect, initiate, report}
use Rattle.protocol.proofs.Prelude.{Network, Edge, rank, flip, ProtocolState, is_c, is_i, is_t, is_a, is_r, is_k, arg1, Only}
use Rattle.protocol.proofs.Prelude.{In, all_in, in_sum, snoc-in, snoc-all, snoc-here}
use Rattle.protocol.proofs.Prelude.{GL, GC, DK, Jn, Outst, Counting, Covered, Child, CoreEnds, Spent}
use Rattle.protocol.proofs.Prelude.{joined-level, no-connect-decided, decided-initiate, decided-report, decided-test, waits-find, parent-find}
use Rattle.protocol.specs.Traffic.{Tokens, Connects, Initiates, Telling, Testing, Answers, Reports, Owing, Bests}
use Rattle.protocol_merge.proofs.Leave.{leave-only}
use Rattle.protocol_merge.proofs.Move as M
use Rattle.protocol_merge.proofs.Unite as U
use Rattle.protocol_merge.proofs.Unite.{MergeReady}
use Rattle.protocol_merge.proofs.MergeTables.{old-decision, new-decision, no-root-merge}

module _ {p : Network} {s : ProtocolState} {v k y l : ℕ} (r : MergeReady p s v k y l) where
  abbrev S' : ProtocolState
  S' = U.S' r

  -- there and back
  was : {x : Msg} (f : Msg → ℕ) → f (connect l) ≡ 0 → 1 ≤ f x → (w j : ℕ) → In x (S'.ch w j) → In x (s.ch w j)
  was f z o w j n = M.old-move (r.inv) (r.turn) (U.move-merge r) f z o w j n

  still : {x : Msg} (w j : ℕ) → In x (s.ch w j) → In x (S'.ch w j)
  still w j n = M.in-stays (r.inv) (r.turn) (U.move-merge r) w j n

  same : (f : Msg → ℕ) → f (connect l) ≡ 0 → (w j : ℕ) → sum_l f (S'.ch w j) ≡ sum_l f (s.ch w j)
  same f z w j = M.same_move (r.inv) (r.turn) (U.move-merge r) f z w j

  -- on a joined edge inside the fragment was decided
  in-joined : (j a b : ℕ) → Edge p j a b → Jn s j a b → U.InEither r a → DK s a ≢ 0
  in-joined j a b e x n = U.in-decided r a n (joined-level (r.inv) j a b e x)

  -- the channels of k: from y the Connect, and answers; from v answers
  y-only : (j a : ℕ) (x : Msg) → y ≡ a → k ≡ j → In x (s.ch a j) → Only (GL s y) x
  y-only j a x q z n = all_in (r.inv.tokens.d1a k y v (flip (r.leave.ends)) (U.half-y r)) (subst (λ c. In x c) (sym (at2 s.ch q z)) n)

  v-only : (j a : ℕ) (x : Msg) → v ≡ a → k ≡ j → In x (s.ch a j) → Only (GL s v) x
  v-only j a x q z n = leave-only (r.inv) (r.turn) (r.leave) (GL s v) x (subst (λ c. In x c) (sym (at2 s.ch q z)) n)

  pub tokens-merge : Tokens p S'
  tokens-merge = record {
    d1c = λ j z x e a. let o = (U.dk-old r 3 z (λ q. omega arith) a.0).0 in
        subst (λ n. In (connect n) (S'.ch z j)) (sym (U.gl-out r z o)) (still z j (r.inv.tokens.d1c j z x e (old-decision r 3 z j o a)));
    d1a = λ j z x e a. let o = (U.dk-old r 3 z (λ q. omega arith) a.0).0 in
        subst (λ n. All (Only n) (S'.ch z j)) (sym (U.gl-out r z o))
        (snoc-all s.ch v k (connect l) z j (λ q c. absurd (U.out-v r z o q)) (r.inv.tokens.d1a j z x e (old-decision r 3 z j o a)));
    d2c = λ j u x e a. let o = (U.dk-old r 2 u (λ q. omega arith) a.0).0 in still u j (r.inv.tokens.d2c j u x e (old-decision r 2 u j o a));
    k1 = λ j u x e n. let a = r.inv.tokens.k1 j u x e (was is_k refl (omega arith) u j n) in new-decision r 2 u j (U.dk-other r u (omega (arith, a.0)) (λ z. omega (arith, a.0))) a;
    d3r = λ j a b e z. absurd (no-root-merge r a z.0);
    d4h = λ j a b e g z n f q. let o = U.dk-old r 4 a (λ q. omega arith) z in
        r.inv.tokens.d4h j a b e (sym (U.gc-out r a o.0) ∙ g) o.1 (omega (arith, U.gl-out r a o.0)) f (was is_r refl (omega arith) b j q);
    d4r = λ j a b e g z n f. let o = U.dk-old r 4 a (λ q. omega arith) z in
        still b j (r.inv.tokens.d4r j a b e (sym (U.gc-out r a o.0) ∙ g) o.1 (omega (arith, U.gl-out r a o.0)) f);
    d7 = λ j a b e g z f q.
        let o = U.inf-out-merge r a f in
        let c = sym (U.gc-out r a o) ∙ g in
        let d = U.outside-like r a b o (r.inv.cores.g5 a b a (U.inf-old-merge r a f).0 (subst (λ n. Edge p n b a) (sym c) (flip e))).1 in
        ⊎_elim (λ x. inl (omega (arith, same is_r refl a j)))
        (λ x. inr (U.inf-new-merge r b d x.0, M.st-two (r.inv) (r.turn) (U.move-merge r) b x.1, x.2, omega (arith, x.3, same is_r refl b j)))
        (r.inv.tokens.d7 j a b e c (sym (U.dk-out-merge r a o) ∙ z) (U.inf-old-merge r a f) (sym (upd_other s.st v 2 a (U.out-v r a o)) ∙ q));
  }

  pub connects-merge : Connects p S'
  connects-merge = record {
    c1m = M.caller-marked (r.inv) (r.turn) (U.move-merge r);
    c1 = λ j w u n e a z. ⊎_elim
        (λ b. M.dn1-move (r.inv) (r.turn) (U.move-merge r) u j z
        (λ q c. let f = M.far-end (r.inv) (r.turn) (U.move-merge r) j u w (flip e) q c in
        let in-w : U.InEither r w = inr (ap s.fr (sym f)) in
        let g : n ≡ GL s y = y-only j w (connect n) f c b in
        (U.gc-in r w in-w ∙ c, omega (arith, U.gl-in r w in-w, U.even-y r), omega (arith, ap s.lev q, r.turn.even, U.even-y r)))
        (λ m. old j w u n e b m))
        (λ b. let in-w : U.InEither r w = inl (ap s.fr (sym b.0)) in
        let f = M.far-end (r.inv) (r.turn) (U.move-merge r) j w u e b.0 b.1 in (
          U.gc-in r w in-w ∙ b.1,
          omega (arith, U.gl-in r w in-w, r.level, ap arg1 b.2),
          omega (arith, ap s.lev f, (U.ok-y r).d1l, U.even-y r, r.level, ap arg1 b.2),
        ))
        (snoc-in s.ch v k (connect l) w j a);
  }
    where
      -- one that was on a joined edge is outside
      old : (j w u n : ℕ) → Edge p j w u → In (connect n) (s.ch w j) → s.mark u j ≡ 1 → (GC S' w ≡ j) × (n + 1 ≡ GL S' w) × (s.lev u ≡ n)
      old j w u n e b m =
          let x = r.inv.connects.c1 j w u n e b m in
          let f : Jn s j w u = (r.inv.connects.c1m j w u n e b, m) in
          let o : U.Outside r w = U.sort r w (λ c. absurd (no-connect-decided (r.inv) j w u n e f (in-joined j w u e f c) b)) (λ o. o) in
          (U.gc-out r w o ∙ x.0, x.1 ∙ sym (U.gl-out r w o), x.2)

  pub initiates-merge : Initiates p S'
  initiates-merge = record {
    i1 = λ j w u n f x e a.
        let b = was is_i refl (omega arith) w j a in
        let q = r.inv.initiates.i1 j w u n f x e b in
        let joined = M.both-up (r.inv) (r.turn) (U.move-merge r) j w u (q.i1j) in
        let inbound = M.ub-off (r.inv) (r.turn) (U.move-merge r) u (M.low-off (r.inv) (r.turn) (U.move-merge r) u (omega (arith, q.i1l, q.i1g))) ∙ q.i1u in
        U.sort r u
        (λ c. let g = U.gl-in r u c in
        let h = U.in-level r u c in
        record {
          i1j = joined;
          i1u = inbound;
          i1l = q.i1l;
          i1g = omega (arith, q.i1g);
          i1f = q.i1f;
          i1i = λ a b e. U.keep-merge r a u (q.i1i a b e);
          i1c = λ z. absurd (omega (arith, q.i1g));
          i1d = λ z. absurd (omega (arith, q.i1g));
          i1s = λ z. absurd (omega (arith, q.i1g));
          i1z = λ z. decided-initiate (r.inv) j w u n f x e (in-joined j u w (flip e) ((q.i1j).1, (q.i1j).0) c) b;
        })
        (λ o. let g = U.gl-out r u o in
        record {
          i1j = joined;
          i1u = inbound;
          i1l = q.i1l;
          i1g = omega (arith, q.i1g);
          i1f = q.i1f;
          i1i = λ a b e. U.keep-merge r a u (q.i1i a b e);
          i1c = λ z. q.i1c (z ∙ g) ∙ sym (U.gc-out r u o);
          i1d = λ z. q.i1d (z ∙ g) ∙ sym (U.due-out-merge r u o);
          i1s = λ z n. U.inf-new-merge r w (U.outside-like r u w o (r.inv.markings.m3 j w u e (q.i1j))) (q.i1s (z ∙ g) (λ c. n (U.gc-out r u o ∙ c)));
          i1z = λ z. q.i1z (omega arith);
        });
  }

  pub telling-merge : Telling p S'
  telling-merge = record {
    u2 = λ j w c e b n. U.joined-merge r j w c e b
        (λ q d z. absurd (n (ap S'.ub (sym q) ∙ M.ub-new (r.inv) (r.turn) (U.move-merge r) ∙ z)))
        (λ q d z. absurd (n (ap S'.ub (sym q) ∙ M.ub-off (r.inv) (r.turn) (U.move-merge r) y (M.y≢v (r.inv) (r.turn) (U.move-merge r)) ∙ (U.ok-y r).d1u ∙ z)))
        (λ f. M.joined-top (r.inv) (r.turn) (U.move-merge r) j w c e f n);
    t2i = λ j w c e b f n g.
        let o = U.inf-out-merge r w f in
        let x = U.joined-out r j w c e o b in
        let q = U.beyond-merge r j w c e o x in
        let a = r.inv.telling.t2i j w c e x (U.inf-old-merge r w f) n (omega (arith, U.gl-out r c q)) in
        still w j (subst (λ n. In (initiate n (GC S' w) (S'.due c)) (s.ch w j)) (sym (U.gl-out r w o))
        (subst (λ n. In (initiate (GL s w) n (S'.due c)) (s.ch w j)) (sym (U.gc-out r w o))
        (subst (λ n. In (initiate (GL s w) (GC s w) n) (s.ch w j)) (sym (U.due-out-merge r c q)) a)));
    t4 = λ j a c e b g. U.joined-merge r j a c e b
        (λ q d z. inl (omega (arith, ap (sum_l is_c) (at2 S'.ch q z), snoc-here s.ch v k (connect l) is_c)))
        (λ q d z. inl (omega (
          arith,
          ap (sum_l is_c) (at2 s.ch q z),
          in_sum is_c (r.inv.tokens.d1c k y v (flip (r.leave.ends)) (U.half-y r)),
          M.sum-grows (r.inv) (r.turn) (U.move-merge r) is_c a j,
        )))
        (λ x. let o = core-out j a c e x g in
        ⊎_elim (λ n. inl (omega (arith, M.sum-grows (r.inv) (r.turn) (U.move-merge r) is_c a j)))
        (⊎_elim (λ n. inr (inl (still c j (subst (λ m. In (initiate m j 1) (s.ch c j)) (sym (U.gl-out r a o)) n)))) (λ n. inr (inr (U.inf-new-merge r a o n))))
        (r.inv.telling.t4 j a c e x (sym (U.gc-out r a o) ∙ g)));
    t4n = λ j a c e b g n. U.joined-merge r j a c e b
        (λ q d z. (U.low-in r a (inl (ap s.fr (sym q))), λ x. y-only j c (initiate (GL S' a) j 1) d z (was is_i refl (omega arith) c j x)))
        (λ q d z. (U.low-in r a (inr (ap s.fr (sym q))), λ x. v-only j c (initiate (GL S' a) j 1) d z (was is_i refl (omega arith) c j x)))
        (λ x. let o = core-out j a c e x g in
        let f = r.inv.telling.t4n j a c e x (sym (U.gc-out r a o) ∙ g) (omega (arith, M.conn-same (r.inv) (r.turn) (U.move-merge r) a j c x)) in
        (omega (arith, U.gl-out r a o, f.0), λ q. f.1 (subst (λ m. In (initiate m j 1) (s.ch c j)) (U.gl-out r a o) (was is_i refl (omega arith) c j q))));
  }
    where
      -- a core that was joined is another fragment's
      core-out : (j a c : ℕ) → Edge p j a c → Jn s j a c → GC S' a ≡ j → U.Outside r a
      core-out j a c e x g = U.sort r a (λ f. absurd (U.not-k r j a c e x (sym (U.gc-in r a f) ∙ g))) (λ o. o)

  pub testing-merge : Testing p S'
  testing-merge = record {
    e1 = λ j w u n f e a.
        let b = was is_t refl (omega arith) w j a in
        let x = r.inv.testing.e1 j w u n f e b in
        let o : U.Outside r w = U.sort r w (λ c. absurd (decided-test (r.inv) j w u n f e (U.in-decided r w c x.2.0) b)) (λ o. o) in
        (x.0, x.1, U.inf-new-merge r w o x.2);
    e1w = λ j w u n f e a. ⊎_elim (λ x. inl x) (λ x. inr (x.0, x.1, x.2, U.keep-merge r w u x.3))
        (M.test-cases (r.inv) (r.turn) (U.move-merge r) j w u n f e (was is_t refl (omega arith) w j a));
    e2w = M.waits-two (r.inv) (r.turn) (U.move-merge r);
    e2c = M.waits_one (r.inv) (r.turn) (U.move-merge r);
    m6t = M.served-move (r.inv) (r.turn) (U.move-merge r);
  }

  pub answers-merge : Answers p S'
  answers-merge = record {
    a1 = λ j w u e n. let x = r.inv.answers.a1 j w u e (was is_a refl (omega arith) w j n) in
        record {
          a1w = x.a1w;
          a1m = M.mark-wait (r.inv) (r.turn) (U.move-merge r) j u w (flip e) (x.a1w) ∙ x.a1m;
          a1f = λ q. x.a1f (U.apart-merge r u w (U.find-out-merge r u (waits-find (r.inv) j u w (flip e) (x.a1w))) q);
          a1l = x.a1l;
        };
    j1 = λ j w u e n. let x = r.inv.answers.j1 j w u e (was is_a refl (omega arith) w j n) in
        record { j1w = x.j1w; j1f = U.keep-merge r w u (x.j1f); j1m = λ z. M.up2-move (r.inv) (r.turn) (U.move-merge r) w j (x.j1m (M.dn0-move (r.inv) (r.turn) (U.move-merge r) u j z)) };
  }

  -- ---- Reports, owed Reports, best weights

  core : (j w u n : ℕ) → Edge p j w u → Jn s j w u → U.Outside r u → CoreEnds s w u j n → CoreEnds S' w u j n
  core j w u n e b o x =
      let q = U.outside-like r u w o (r.inv.markings.m3 j w u e b) in (
        U.gc-out r w q ∙ x.0,
        U.dk-out-merge r w q ∙ x.1,
        U.inf-new-merge r w q x.2,
        M.st-two (r.inv) (r.turn) (U.move-merge r) w x.3,
        x.4,
        λ a f. ⊎_elim (λ g. x.5 a g) (λ z. z) (M.behind-move (r.inv) (r.turn) (U.move-merge r) w j u n a b f),
        ⊎_elim (λ c. inl (U.inf-new-merge r u o c.0, M.call_same (r.inv) (r.turn) (U.move-merge r) w j u b ∙ c.1))
            (λ c. inr (omega (arith, U.gl-out r u o, c.0), still w j (subst (λ m. In (initiate m j 1) (s.ch w j)) (sym (U.gl-out r u o)) c.1))) x.6,
      )

  spent : (j w u n : ℕ) → Edge p j w u → In (report n) (s.ch w j) → Spent p s w u j n → Spent p S' w u j n
  spent j w u n e b x = (
    x.0,
    x.1,
    M.ub-off (r.inv) (r.turn) (U.move-merge r) u (M.spent-off (r.inv) (r.turn) (U.move-merge r) j w u n e b x.0) ∙ x.2,
    M.st-two (r.inv) (r.turn) (U.move-merge r) u x.3,
    λ a f. x.4 a (M.ahead-move (r.inv) (r.turn) (U.move-merge r) w j n a f),
    ⊎_elim (λ c. inl c) (λ c. let o = U.dk-other r u (omega (arith, c.2)) (λ z. omega (arith, c.2)) in inr (c.0, c.1, U.dk-out-merge r u o ∙ c.2, U.gc-out r u o ∙ c.3)) x.5,
  )

  pub reports-merge : Reports p S'
  reports-merge = record {
    r1r = λ j w u n e a. r.inv.reports.r1r j w u n e (was is_r refl (omega arith) w j a);
    r1j = λ j w u n e a. M.both-up (r.inv) (r.turn) (U.move-merge r) j w u (r.inv.reports.r1j j w u n e (was is_r refl (omega arith) w j a));
    r1 = λ j w u n e a.
        let b = was is_r refl (omega arith) w j a in
        let f = r.inv.reports.r1j j w u n e b in
        U.sort r u (λ c. inr (inr (spent j w u n e b (decided-report (r.inv) j w u n e (in-joined j u w (flip e) (f.1, f.0) c) b))))
        (λ o. ⊎_elim (λ x. inl (child j w u n e f o x)) (⊎_elim (λ x. inr (inl (core j w u n e f o x))) (λ x. inr (inr (spent j w u n e b x)))) (r.inv.reports.r1 j w u n e b));
    r1c = λ j w u n e a f z g.
        let b = was is_r refl (omega arith) w j a in
        let o = U.inf-out-merge r u f in
        core j w u n e (r.inv.reports.r1j j w u n e b) o (r.inv.reports.r1c j w u n e b (U.inf-old-merge r u f) (sym (U.dk-out-merge r u o) ∙ z) (sym (U.gc-out r u o) ∙ g));
  }
    where
      child : (j w u n : ℕ) → Edge p j w u → Jn s j w u → U.Outside r u → Child s w u j n → Child S' w u j n
      child j w u n e b o x =
          let q = U.outside-like r u w o (r.inv.markings.m3 j w u e b) in (
            U.inf-new-merge r w q x.0,
            x.1,
            λ z. x.2 (sym (U.gc-out r w q) ∙ z),
            M.st-two (r.inv) (r.turn) (U.move-merge r) w x.3,
            x.4,
            U.inf-new-merge r u o x.5,
            M.st-new (r.inv) (r.turn) (U.move-merge r) u x.6,
            M.call_same (r.inv) (r.turn) (U.move-merge r) w j u b ∙ x.7,
          )

  outst-new : (c j : ℕ) → U.Outside r c → Outst s c j → Outst S' c j
  outst-new c j o (inl x) = inl (U.inf-new-merge r c o x.0, ⊎_elim (λ f. inl (M.st-new (r.inv) (r.turn) (U.move-merge r) c f)) (λ f. inr (omega (arith, same is_r refl c j))) x.1)
  outst-new c j o (inr x) = inr (omega (arith, U.gl-out r c o, x.0), U.due-out-merge r c o ∙ x.1)

  outst-old : (c j : ℕ) → U.Outside r c → Outst S' c j → Outst s c j
  outst-old c j o (inl x) = inl (U.inf-old-merge r c x.0, ⊎_elim (λ f. inl (M.st-old (r.inv) (r.turn) (U.move-merge r) c f)) (λ f. inr (omega (arith, same is_r refl c j))) x.1)
  outst-old c j o (inr x) = inr (omega (arith, U.gl-out r c o, x.0), sym (U.due-out-merge r c o) ∙ x.1)

  pub owing-merge : Owing p S'
  owing-merge = record {
    f4y = λ j w c e n.
        let x = r.inv.owing.f4y j w c e n in
        let o = U.find-out-merge r w (parent-find (r.inv) j w c e x.0 x.1 x.2 x.3) in
        (U.inf-new-merge r w o x.0, M.both-up (r.inv) (r.turn) (U.move-merge r) j w c x.1, x.2, outst-new c j (U.beyond-merge r j w c e o x.1) x.3);
    f4n = λ j w c e f b n x.
        let o = U.inf-out-merge r w f in
        let a = U.joined-out r j w c e o b in
        r.inv.owing.f4n j w c e (U.inf-old-merge r w f) a n (outst-old c j (U.beyond-merge r j w c e o a) x);
  }

  live : (x : ℕ) → U.Outside r x → Counting s x → Counting S' x
  live x o (inl f) = inl (M.st-new (r.inv) (r.turn) (U.move-merge r) x f)
  live x o (inr (inl g)) = inr (inl (g ∙ sym (U.gc-out r x o)))
  live x o (inr (inr n)) = inr (inr (omega (arith, same is_r refl x (s.ib x))))

  pub bests-merge : Bests p S'
  bests-merge = record {
    b1e = λ w f n a.
        let o = U.inf-out-merge r w f in
        let x = r.inv.bests.b1e w (U.inf-old-merge r w f) n a in (
          x.0,
          x.1,
          M.both-up (r.inv) (r.turn) (U.move-merge r) (s.be w) w x.0 x.2,
          x.3,
          U.inf-new-merge r x.0 (U.beyond-merge r (s.be w) w x.0 x.1 o x.2) x.4,
          x.5,
          x.6,
          M.st-two (r.inv) (r.turn) (U.move-merge r) x.0 x.7,
          same is_r refl x.0 (s.be w) ∙ x.8,
        );
    b2 = λ j u w e a z n. U.sort r u (λ c. inl (U.low-in r u c, U.due-in-merge r u c))
        (λ o. ⊎_elim (λ x. inl (omega (arith, U.gl-out r u o, x.0), U.due-out-merge r u o ∙ x.1))
        (⊎_elim (λ x. inr (inl x)) (⊎_elim (λ x. inr (inr (inl x))) (λ x. inr (inr (inr (covered u (rank p j) o x))))))
        (r.inv.bests.b2 j u w e (M.dn0-move (r.inv) (r.turn) (U.move-merge r) u j a) (sym (U.dk-out-merge r u o) ∙ z) (omega (arith, U.gl-out r u o))));
  }
    where
      covered : (u n : ℕ) → U.Outside r u → Covered p s u n → Covered p S' u n
      covered u n o x = let q = U.outside-like r u x.0 o x.1 in (x.0, U.keep-merge r x.0 u x.1, U.inf-new-merge r x.0 q x.2, x.3, live x.0 q x.4, x.5)
