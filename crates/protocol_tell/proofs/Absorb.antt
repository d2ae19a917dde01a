-- Connect (l) from u at v over k, l below v's level: v's fragment absorbs that of u (`inv-absorb`).
use Rattle.protocol.proofs.Prelude.{ℕ, ◌≤◌, ◌<◌, arith, ◌≡◌, refl, sym, ap, subst, ◌∙◌, ◌≢◌, ◌⊎◌, inl, inr, ⊎_elim}
use Rattle.protocol.proofs.Prelude.{List, ◌∷◌, upd2-elim, by-eq, le-sum, All, sum_l}
use Rattle.protocol.proofs.Prelude.{Msg, connect, initiate, report}
use Rattle.protocol.proofs.Prelude.{Network, Edge, rank, joins-lt, flip, other-end, ProtocolState, Idle, Flag, absorbed, pop}
use Rattle.protocol.proofs.Prelude.{is_c, is_i, is_ci, is_t, is_a, is_r, is_k, Only, top, In, Bef, at2, in_sum}
use Rattle.protocol.proofs.Prelude.{GL, GC, DK, Inf, Jn, Outst, Counting, Covered, CoreEnds, Spent, Inv}
use Rattle.protocol.proofs.Prelude.{mark-awake, te-find, fc-find, waits-find, decided-initiate, decided-report, decided-test}
use Rattle.protocol.specs.Traffic.{Hush, Tokens, Connects, InitOk, Initiates, Telling, Testing, Answers, Reports, Owing, Bests, Ordered}
use Rattle.protocol_tell.proofs.Laws.{three, initiate-at, init-eq}
use Rattle.protocol_tell.proofs.Reply as Y
use Rattle.protocol_tell.proofs.Sunk.{Absorbs}
use Rattle.protocol_tell.proofs.Sunk as F
use Rattle.protocol_tell.proofs.AbsorbTables as T

module _ {p : Network} {s : ProtocolState} (i : Inv p s) {u v k l x : ℕ} {r : List Msg} (act : Absorbs p s u v k l x r) where
  abbrev S' : ProtocolState
  S' = absorbed (pop s u k r) u v k x

  abbrev c' : ℕ → ℕ → List Msg
  c' = Y.replied i act.ends act.q (s.lev v) (s.id v) x

  -- ---- channels

  old : {y : Msg} (g : Msg → ℕ) → g (initiate (s.lev v) (s.id v) x) ≡ 0 → 1 ≤ g y → (w j : ℕ) → In y (c' w j) → In y (s.ch w j)
  old = Y.old-reply i act.ends act.q (s.lev v) (s.id v) x

  kept : {y : Msg} (g : Msg → ℕ) → g (connect l) ≡ 0 → 1 ≤ g y → (w j : ℕ) → In y (s.ch w j) → In y (c' w j)
  kept = Y.kept-reply i act.ends act.q (s.lev v) (s.id v) x

  same : (g : Msg → ℕ) → g (initiate (s.lev v) (s.id v) x) ≡ 0 → g (connect l) ≡ 0 → (w j : ℕ) → sum_l g (c' w j) ≡ sum_l g (s.ch w j)
  same = Y.same-reply i act.ends act.q (s.lev v) (s.id v) x

  tokens' : Tokens p S'
  tokens' = record {
    d1c = λ j z y e h.
        let n = F.half_out i act z j h in
        Y.hold i act.ends act.q (s.lev v) (s.id v) x z j (inl (λ d. n (ap s.fr (sym d)))) (subst (λ a. In (connect (s.gl a)) (s.ch z j)) (sym (F.fr-out-absorb i act z n)) (i.tokens.d1c j z y e (F.half-old i act z j h)));
    d1a = λ j z y e h.
        let n = F.half_out i act z j h in
        Y.all-reply i act.ends act.q (s.lev v) (s.id v) x z j (λ a b. omega (arith, F.mark-v i act, at2 s.mark a b, (i.halves.d1 j z y e (F.half-old i act z j h)).d1m))
        (subst (λ a. All (Only (s.gl a)) (s.ch z j)) (sym (F.fr-out-absorb i act z n)) (i.tokens.d1a j z y e (F.half-old i act z j h)));
    d2c = λ j w y e h. kept is_k refl (omega arith) w j (i.tokens.d2c j w y e (F.changing-old i act w j h));
    k1 = λ j w y e h. let t = i.tokens.k1 j w y e (old is_k refl (omega arith) w j h) in F.dec-new i act 2 w j (F.dk-out-absorb i act w (λ d. omega (arith, t.0))) t;
    d3r = λ j a b e h. absurd (F.no-roots i act a h.0);
    d4h = λ j a b e g d n h m.
        let o = F.fr-out-absorb i act a (F.no-four i act a d) in
        i.tokens.d4h j a b e (ap s.gc (sym o) ∙ g) (ap s.dk (sym o) ∙ d) (omega (arith, ap s.gl o)) h (old is_r refl (omega arith) b j m);
    d4r = λ j a b e g d n h.
        let o = F.fr-out-absorb i act a (F.no-four i act a d) in
        kept is_r refl (omega arith) b j (i.tokens.d4r j a b e (ap s.gc (sym o) ∙ g) (ap s.dk (sym o) ∙ d) (omega (arith, ap s.gl o)) h);
    d7 = λ j a b e g d h f.
        let n = F.inf-out-absorb i act a h in
        let o = F.fr-out-absorb i act a n in
        let c : GC s a ≡ j = ap s.gc (sym o) ∙ g in
        let m : s.fr b ≢ s.fr u = λ z. n (i.markings.m3 j a b e (core-joined j a b e c (F.inf-old-absorb i act a h).0) ∙ z) in
        ⊎_elim (λ t. inl (omega (arith, same is_r refl refl a j)))
        (λ t. inr (F.inf-new-absorb i act b m t.0, t.1, t.2, omega (arith, t.3, same is_r refl refl b j)))
        (i.tokens.d7 j a b e c (ap s.dk (sym o) ∙ d) (F.inf-old-absorb i act a h) f);
  }
    where
      core-joined : (j a b : ℕ) → Edge p j a b → GC s a ≡ j → 1 ≤ GL s a → Jn s j a b
      core-joined j a b e c n = subst (λ y. Jn s y a b) c (i.cores.g5 a a b n (subst (λ y. Edge p y a b) (sym c) e)).0

  connects' : Connects p S'
  connects' = record {
    c1m = λ j w y n e h. F.up1-absorb i act w j (i.connects.c1m j w y n e (old is_c refl (omega arith) w j h));
    c1 = λ j w y n e h m.
        let d = Y.elsewhere i act.ends act.q (s.lev v) (s.id v) x w j (in_sum is_c h) in
        let o = old is_c refl (omega arith) w j h in
        let z : (v ≢ y) ⊎ (k ≢ j) = ⊎_elim (λ a. by-eq k j (λ b. inl (λ c. a (other-end (flip act.ends) (flip e) c b))) (λ b. inr b)) (λ b. inr b) d in
        let b : s.mark y j ≡ 1 = sym (F.mark-off-absorb i act y j z) ∙ m in
        let f = F.fr-out-absorb i act w (F.call-out i act j w y n e o (i.connects.c1m j w y n e o, b)) in
        let t = i.connects.c1 j w y n e o b in
        (ap s.gc f ∙ t.0, t.1 ∙ ap s.gl (sym f), t.2);
  }

  fresh : InitOk p s.lev S'.fr s.gl s.gc s.ub S'.due S'.mark k v u (s.lev v) (s.id v) x
  fresh = record {
    i1j = F.joined-absorb i act;
    i1u = (F.ok i act).d1u;
    i1l = omega (arith, (F.ok i act).d1l, F.level-absorb i act);
    i1g = omega (arith, i.levels.g2 v, to-v);
    i1f = i.levels.g3r v (λ z. omega arith);
    i1i = λ a b e. let f = i.levels.g3 v a b (λ z. omega arith) e in F.fr-out-absorb i act a (λ z. F.apart-absorb i act (sym f ∙ z)) ∙ f ∙ sym (F.fr-in-absorb i act u refl);
    i1c = λ z. i.levels.g2i v (inf z) ∙ ap s.gc (sym (F.fr-in-absorb i act u refl));
    i1d = λ z. F.bit-due i act (inf z) ∙ sym (F.due-in-absorb i act u refl);
    i1s = λ z n. F.inf-new-absorb i act v (F.apart-absorb i act) (inf z);
    i1z = λ z. by-eq x 0 (λ e. e) (λ n. absurd (omega (arith, (i.finds.f1 v (F.bit-find i act n)).f1i.1, to-v)));
  }
    where
      to-v : GL S' u ≡ GL s v
      to-v = ap s.gl (F.fr-in-absorb i act u refl)

      inf : s.lev v ≡ GL S' u → Inf s v
      inf z = (omega (arith, F.rise i act), z ∙ to-v)

  initiates' : Initiates p S'
  initiates' = record {
    i1 = λ j w y a f b e h. ⊎_elim (λ o. by-eq (s.fr y) (s.fr u) (λ d. sunk j w y a f b e o d) (λ n. other j w y a f b e o n))
        (λ t. initiate-at (λ n m z. InitOk p s.lev S'.fr s.gl s.gc s.ub S'.due S'.mark n m z) t.1 t.0 (other-end (flip act.ends) e t.0 t.1) t.2 fresh)
        (Y.was i act.ends act.q (s.lev v) (s.id v) x w j h);
  }
    where
      -- an old one in D is of too low a level, and says Found
      sunk : (j w y a f b : ℕ) → Edge p j w y → In (initiate a f b) (s.ch w j) → s.fr y ≡ s.fr u → InitOk p s.lev S'.fr s.gl s.gc s.ub S'.due S'.mark j w y a f b
      sunk j w y a f b e h d =
          let t = i.initiates.i1 j w y a f b e h in
          let g : GL S' y ≡ GL s v = ap s.gl (F.fr-in-absorb i act y d) in
          let lt : a < GL S' y = omega (arith, t.i1g, ap s.gl d, F.rise i act) in
          record {
            i1j = F.up-both-absorb i act j w y (t.i1j);
            i1u = t.i1u;
            i1l = t.i1l;
            i1g = omega arith;
            i1f = t.i1f;
            i1i = λ c o n. F.fr-keep i act c y (t.i1i c o n);
            i1c = λ z. absurd (omega arith);
            i1d = λ z. absurd (omega arith);
            i1s = λ z n. absurd (omega arith);
            i1z = λ z. decided-initiate i j w y a f b e (λ n. omega (arith, (F.half i act).0, ap s.dk d)) h;
          }

      other : (j w y a f b : ℕ) → Edge p j w y → In (initiate a f b) (s.ch w j) → s.fr y ≢ s.fr u → InitOk p s.lev S'.fr s.gl s.gc s.ub S'.due S'.mark j w y a f b
      other j w y a f b e h n =
          let t = i.initiates.i1 j w y a f b e h in
          let o = F.fr-out-absorb i act y n in
          let g = ap s.gl o in
          let m : s.fr w ≢ s.fr u = λ z. n (sym (i.markings.m3 j w y e (t.i1j)) ∙ z) in
          record {
            i1j = F.up-both-absorb i act j w y (t.i1j);
            i1u = t.i1u;
            i1l = t.i1l;
            i1g = omega (arith, t.i1g);
            i1f = t.i1f;
            i1i = λ c d z. F.fr-keep i act c y (t.i1i c d z);
            i1c = λ z. t.i1c (z ∙ g) ∙ ap s.gc (sym o);
            i1d = λ z. t.i1d (z ∙ g) ∙ sym (F.due-out-absorb i act y n);
            i1s = λ z d. F.inf-new-absorb i act w m (t.i1s (z ∙ g) (λ c. d (ap s.gc o ∙ c)));
            i1z = λ z. t.i1z (omega arith);
          }

  telling' : Telling p S'
  telling' = record {
    u2 = λ j w c e b n. F.jn-absorb i act j w c e b
        (λ y z o. sym (ap s.lev y) ∙ sym (Y.far-here i act.ends act.q (s.lev v) (s.id v) x (s.lev c)) ∙ ap (top (s.lev c)) (at2 c' y o))
        (λ y z o. absurd (n (sym (ap s.ub y) ∙ (F.ok i act).d1u ∙ o)))
        (λ d o. i.telling.u2 j w c e o n ∙ sym (Y.far-reply i act.ends act.q (s.lev v) (s.id v) x (s.lev c) w j (inr d)));
    t2i = λ j w c e b h n m. F.jn-absorb i act j w c e b
        (λ y z o. initiate-at (λ n m g a f d. In (initiate a f d) (c' m n)) o y z
        (init-eq (sym h.1 ∙ ap s.lev (sym y)) (sym ((T.levels-absorb i act).g2i w h) ∙ ap s.id (sym y))
        (ap S'.due (sym z) ∙ F.due-in-absorb i act u refl ∙ sym (F.bit-due i act (subst (λ a. Inf s a) (sym y) (F.inf-old-absorb i act w h)))))
        (Y.reply-in i act.ends act.q (s.lev v) (s.id v) x))
        (λ y z o. absurd (F.inf-out-absorb i act w h (ap s.fr (sym y))))
        (λ d o.
        let a = F.inf-out-absorb i act w h in
        let f : s.fr c ≢ s.fr u = λ z. a (i.markings.m3 j w c e o ∙ z) in
        subst (λ z. In z (c' w j)) (init-eq (ap s.gl (sym (F.fr-out-absorb i act w a))) (ap s.gc (sym (F.fr-out-absorb i act w a))) (sym (F.due-out-absorb i act c f)))
        (kept is_i refl (omega arith) w j (i.telling.t2i j w c e o (F.inf-old-absorb i act w h) n (omega (arith, ap s.gl (F.fr-out-absorb i act c f))))));
    t4 = λ j a b e h g.
        let c = F.core-out i act j a b e h g in
        let o = F.fr-out-absorb i act a c.0 in
        ⊎_elim (λ t. inl (omega (arith, Y.connects i act.ends act.q (s.lev v) (s.id v) x a j (inr c.1))))
        (⊎_elim (λ t. inr (inl (kept is_i refl (omega arith) b j (subst (λ n. In (initiate (s.gl n) j 1) (s.ch b j)) (sym o) t)))) (λ t. inr (inr (F.inf-new-absorb i act a c.0 t))))
        (i.telling.t4 j a b e c.2 (ap s.gc (sym o) ∙ g));
    t4n = λ j a b e h g n.
        let c = F.core-out i act j a b e h g in
        let o = F.fr-out-absorb i act a c.0 in
        let t = i.telling.t4n j a b e c.2 (ap s.gc (sym o) ∙ g) (omega (arith, Y.connects i act.ends act.q (s.lev v) (s.id v) x a j (inr c.1))) in (
          omega (arith, t.0, ap s.gl o),
          λ m. ⊎_elim (λ y. t.1 (subst (λ z. In (initiate (s.gl z) j 1) (s.ch b j)) o y)) (λ y. c.1 y.1) (Y.was i act.ends act.q (s.lev v) (s.id v) x b j m),
        );
  }

  testing' : Testing p S'
  testing' = record {
    e1 = λ j w y a f e h.
        let o = old is_t refl (omega arith) w j h in
        let t = i.testing.e1 j w y a f e o in
        (t.0, t.1, F.inf-new-absorb i act w (λ d. decided-test i j w y a f e (λ z. omega (arith, (F.half i act).0, ap s.dk d)) o) t.2);
    e1w = λ j w y a f e h. ⊎_elim
        (λ t. inl (t.0, λ z. t.1 (F.dn2-absorb i act w j z), λ z. jn-up j w y e t.2 z))
        (λ t. inr (t.0, F.mark-off-absorb i act w j (F.rejected i act w j t.1) ∙ t.1, t.2, F.fr-keep i act w y t.3))
        (i.testing.e1w j w y a f e (old is_t refl (omega arith) w j h));
    e2w = λ j w y e a b. omega (arith, i.testing.e2w j w y e a b, same is_t refl refl w j, same is_a refl refl y j);
    e2c = λ j w y e a b. omega (arith, i.testing.e2c j w y e a b, same is_t refl refl w j, same is_a refl refl y j, same is_t refl refl y j);
    m6t = λ j w y e a b. same is_t refl refl y j ∙ i.testing.m6t j w y e (F.dn2-absorb i act w j a) (F.dn0-absorb i act y j b);
  }
    where
      jn-up : (j w y : ℕ) → Edge p j w y → (s.mark w j ≡ 1 → s.mark y j ≡ 1) → S'.mark w j ≡ 1 → S'.mark y j ≡ 1
      jn-up j w y e f = upd2-elim (λ z. z ≡ 1 → S'.mark y j ≡ 1) s.mark v k 1 w j
          (λ a b z. sym (at2 S'.mark (other-end (flip act.ends) e a b) b) ∙ (F.joined-absorb i act).1) (λ n z. F.up1-absorb i act y j (f z))

  answers' : Answers p S'
  answers' = record {
    a1 = λ j w y e h.
        let t = i.answers.a1 j w y e (old is_a refl (omega arith) w j h) in
        let f = waits-find i j y w (flip e) (t.a1w) in
        let g = (i.finds.f1 y f).f1i in
        record {
          a1w = t.a1w;
          a1m = F.mark-off-absorb i act y j (by-eq k j (λ b. inl (λ a. omega (
            arith,
            t.a1l,
            act.lower,
            F.level-absorb i act,
            (F.ok i act).d1l,
            ap s.lev a,
            ap s.lev (other-end (flip act.ends) (flip e) a b),
          ))) (λ b. inr b)) ∙ t.a1m;
          a1f = λ a. F.fr-cases i act w y a t.a1f (λ b b'. omega (arith, t.a1l, i.levels.g2 w, ap s.gl b, ap s.gl b', F.rise i act, g.1)) (λ b b'. F.find-out-absorb i act y f b');
          a1l = t.a1l;
        };
    j1 = λ j w y e h.
        let t = i.answers.j1 j w y e (old is_a refl (omega arith) w j h) in
        record { j1w = t.j1w; j1f = F.fr-keep i act w y (t.j1f); j1m = λ z. let m = t.j1m (F.dn0-absorb i act y j z) in F.mark-off-absorb i act w j (F.rejected i act w j m) ∙ m };
  }

  -- ---- Reports: none was on k

  far : (j w y n : ℕ) → Edge p j w y → In (report n) (s.ch w j) → c' w j ≡ s.ch w j
  far j w y n e h = let d = F.not-joined i act j w y e (i.reports.r1j j w y n e h) in Y.off-reply i act.ends act.q (s.lev v) (s.id v) x w j (inr d) (inr d)

  core : (j w y n : ℕ) → s.fr w ≢ s.fr u → s.fr y ≢ s.fr u → c' w j ≡ s.ch w j → CoreEnds s w y j n → CoreEnds S' w y j n
  core j w y n a b f t =
      let o = F.fr-out-absorb i act w a in
      let z = F.fr-out-absorb i act y b in (
        ap s.gc o ∙ t.0,
        ap s.dk o ∙ t.1,
        F.inf-new-absorb i act w a t.2,
        t.3,
        t.4,
        λ m d. t.5 m (subst (λ l. Bef (report n) m l) f d),
        ⊎_elim (λ d. inl (F.inf-new-absorb i act y b d.0, ap (sum_l is_ci) f ∙ d.1))
            (λ d. inr (omega (arith, d.0, ap s.gl z), subst (λ l. In (initiate (GL S' y) j 1) l) (sym f) (subst (λ m. In (initiate (s.gl m) j 1) (s.ch w j)) (sym z) d.1))) t.6,
      )

  reports' : Reports p S'
  reports' = record {
    r1r = λ j w y n e h. i.reports.r1r j w y n e (old is_r refl (omega arith) w j h);
    r1j = λ j w y n e h. F.up-both-absorb i act j w y (i.reports.r1j j w y n e (old is_r refl (omega arith) w j h));
    r1 = λ j w y n e h. let o = old is_r refl (omega arith) w j h in
        by-eq (s.fr y) (s.fr u)
        (λ d. inr (inr (spent j w y n (far j w y n e o) (λ z. absurd (omega (arith, (F.half i act).0, ap s.dk d))) (decided-report i j w y n e (λ z. omega (arith, (F.half i act).0, ap s.dk d)) o))))
        (λ d. let a : s.fr w ≢ s.fr u = λ z. d (sym (i.markings.m3 j w y e (i.reports.r1j j w y n e o)) ∙ z) in
        let f = far j w y n e o in
        ⊎_elim
        (λ t. inl (F.inf-new-absorb i act w a t.0, t.1, λ z. t.2 (ap s.gc (sym (F.fr-out-absorb i act w a)) ∙ z), t.3, t.4, F.inf-new-absorb i act y d t.5, t.6, ap (sum_l is_ci) f ∙ t.7))
        (⊎_elim (λ t. inr (inl (core j w y n a d f t))) (λ t. inr (inr (spent j w y n f (λ z. d) t))))
        (i.reports.r1 j w y n e o));
    r1c = λ j w y n e h a b g.
        let o = old is_r refl (omega arith) w j h in
        let d = F.inf-out-absorb i act y a in
        let z = F.fr-out-absorb i act y d in
        core j w y n (λ m. d (sym (i.markings.m3 j w y e (i.reports.r1j j w y n e o)) ∙ m)) d (far j w y n e o)
        (i.reports.r1c j w y n e o (F.inf-old-absorb i act y a) (ap s.dk (sym z) ∙ b) (ap s.gc (sym z) ∙ g));
  }
    where
      spent : (j w y n : ℕ) → c' w j ≡ s.ch w j → (DK s y ≡ 4 → s.fr y ≢ s.fr u) → Spent p s w y j n → Spent p S' w y j n
      spent j w y n f d t = (
        t.0,
        t.1,
        t.2,
        t.3,
        λ m b. t.4 m (subst (λ l. Bef m (report n) l) f b),
        ⊎_elim (λ z. inl z) (λ z. inr (z.0, z.1, ap s.dk (F.fr-out-absorb i act y (d z.2)) ∙ z.2, ap s.gc (F.fr-out-absorb i act y (d z.2)) ∙ z.3)) t.5,
      )

  -- ---- what is owed, best weights

  outst-new : (c j : ℕ) → s.fr c ≢ s.fr u → Outst s c j → Outst S' c j
  outst-new c j n (inl t) = inl (F.inf-new-absorb i act c n t.0, ⊎_elim (λ f. inl f) (λ m. inr (omega (arith, same is_r refl refl c j))) t.1)
  outst-new c j n (inr t) = inr (omega (arith, t.0, ap s.gl (F.fr-out-absorb i act c n)), F.due-out-absorb i act c n ∙ t.1)

  outst-old : (c j : ℕ) → s.fr c ≢ s.fr u → Outst S' c j → Outst s c j
  outst-old c j n (inl t) = inl (F.inf-old-absorb i act c t.0, ⊎_elim (λ f. inl f) (λ m. inr (omega (arith, same is_r refl refl c j))) t.1)
  outst-old c j n (inr t) = inr (omega (arith, t.0, ap s.gl (F.fr-out-absorb i act c n)), sym (F.due-out-absorb i act c n) ∙ t.1)

  owing' : Owing p S'
  owing' = record {
    f4y = λ j w c e. upd2-elim (λ z. z ≢ 0 → Inf S' w × Jn S' j w c × (s.ib w ≢ j) × Outst S' c j) s.owe v k x w j
        (λ a b n. let f = F.bit-find i act n in
        let h = i.finds.f1 v f in
        three (λ j w c. Inf S' w × Jn S' j w c × (s.ib w ≢ j) × Outst S' c j) b a (other-end (flip act.ends) e a b)
        (F.inf-new-absorb i act v (F.apart-absorb i act) (h.f1i), F.joined-absorb i act, F.no-ib i act, inr (F.low i act u refl, F.due-in-absorb i act u refl ∙ h.f1u)))
        (λ m n. let t = i.owing.f4y j w c e n in
        let f = fc-find i w (λ z. omega (arith, i.find_counts.f4 w, le-sum p.g.L j (s.owe w) (joins-lt e))) in
        let d = F.find-out-absorb i act w f in
        (F.inf-new-absorb i act w d t.0, F.up-both-absorb i act j w c t.1, t.2, outst-new c j (λ z. d (i.markings.m3 j w c e t.1 ∙ z)) t.3));
    f4n = λ j w c e h b n o. F.jn-absorb i act j w c e b
        (λ y z d. ⊎_elim (λ t. absurd (F.inf-out-absorb i act c t.0 (ap s.fr (sym z))))
        (λ t. let f = i.finds.f1d v (subst (λ a. Inf s a) (sym y) (F.inf-old-absorb i act w h)) (sym (F.due-in-absorb i act u refl) ∙ ap S'.due z ∙ t.1) in
        upd2-elim (λ z. z ≡ 1) s.owe v k x w j (λ a b. F.find-bit i act f) (λ m. absurd (⊎_elim (λ a. a y) (λ a. a d) m))) o)
        (λ y z d. absurd (F.inf-out-absorb i act w h (ap s.fr (sym y))))
        (λ d a. upd2-elim (λ z. z ≡ 1) s.owe v k x w j (λ f g. absurd (d g))
        (λ f. i.owing.f4n j w c e (F.inf-old-absorb i act w h) a n (outst-old c j (λ z. F.inf-out-absorb i act w h (i.markings.m3 j w c e a ∙ z)) o)));
  }

  cover : (w z n m : ℕ) → s.fr w ≢ s.fr u → S'.fr z ≡ s.fr w → n ≤ m → Covered p s w n → Covered p S' z m
  cover w z n m o f b t =
      let a : s.fr t.0 ≢ s.fr u = λ y. o (sym t.1 ∙ y) in
      let live : Counting S' t.0 = ⊎_elim (λ y. inl y) (⊎_elim (λ y. inr (inl (y ∙ ap s.gc (sym (F.fr-out-absorb i act t.0 a))))) (λ y. inr (inr (omega (arith, same is_r refl refl t.0 (s.ib t.0)))))) t.4 in
      (t.0, F.fr-out-absorb i act t.0 a ∙ t.1 ∙ sym f, F.inf-new-absorb i act t.0 a t.2, t.3, live, omega (arith, t.5))

  bests' : Bests p S'
  bests' = record {
    b1e = λ w h n d. let t = i.bests.b1e w (F.inf-old-absorb i act w h) n d in
        let m : s.fr t.0 ≢ s.fr u = λ z. F.inf-out-absorb i act w h (i.markings.m3 (s.be w) w t.0 t.1 t.2 ∙ z) in
        (t.0, t.1, F.up-both-absorb i act (s.be w) w t.0 t.2, t.3, F.inf-new-absorb i act t.0 m t.4, t.5, t.6, t.7, same is_r refl refl t.0 (s.be w) ∙ t.8);
    b2 = λ j w y e m d g. by-eq (s.fr w) (s.fr u)
        (λ a. by-eq (s.due v) 1
        (λ f. inl (F.low i act w a, F.due-in-absorb i act w a ∙ f))
        (λ f. ⊎_elim (λ t. absurd (f t.1))
        (⊎_elim (λ o. absurd (omega (arith, (act.idle).0)))
        (⊎_elim (λ t. absurd (F.find-due i act f (te-find i v t.0)))
        (λ c. inr (inr (inr (cover v w (rank p k) (rank p j) (F.apart-absorb i act) (F.fr-in-absorb i act w a) ((F.ok i act).d1b w j y a e (F.dn0-absorb i act w j m)) c))))))
        (i.bests.b2 k v u (flip act.ends) (F.mark-v i act) (ap s.dk (sym (F.fr-in-absorb i act w a)) ∙ d) (omega (arith, F.rise i act)))))
        (λ a. let z = F.fr-out-absorb i act w a in
        ⊎_elim (λ t. inl (omega (arith, t.0, ap s.gl z), F.due-out-absorb i act w a ∙ t.1))
        (⊎_elim (λ o. inr (inl o)) (⊎_elim (λ t. inr (inr (inl t))) (λ c. inr (inr (inr (cover w w (rank p j) (rank p j) a z (omega arith) c))))))
        (i.bests.b2 j w y e (F.dn0-absorb i act w j m) (ap s.dk (sym z) ∙ d) (omega (arith, ap s.gl z))));
  }

  hush' : Hush p S'
  hush' = let o = Y.hush-reply i act.ends act.q (s.lev v) (s.id v) x act.awake (mark-awake i u k (λ z. omega (arith, F.mark-u i act))) in record { g6o = o.g6o; g6i = o.g6i }

  ordered' : Ordered p S'
  ordered' = let o = Y.ordered-reply i act.ends act.q (s.lev v) (s.id v) x (F.no-init i act) in record { q1 = o.q1 }

  inv : Inv p S'
  inv = record {
    ranges = T.ranges-absorb i act;
    values = i.values;
    levels = T.levels-absorb i act;
    sizes = T.sizes-absorb i act;
    cores = T.cores-absorb i act;
    sleepers = T.sleepers-absorb i act;
    markings = T.markings-absorb i act;
    inbounds = T.inbounds-absorb i act;
    halves = T.halves-absorb i act;
    change_roots = T.change_roots-absorb i act;
    rootings = T.rootings-absorb i act;
    finishes = T.finishes-absorb i act;
    parents = T.parents-absorb i act;
    kids = T.kids-absorb i act;
    finds = T.finds-absorb i act;
    pending = T.pending-absorb i act;
    find_counts = T.find_counts-absorb i act;
    tests = T.tests-absorb i act;
    weights = T.weights-absorb i act;
    hush = hush';
    tokens = tokens';
    connects = connects';
    initiates = initiates';
    telling = telling';
    testing = testing';
    answers = answers';
    reports = reports';
    owing = owing';
    bests = bests';
    ordered = ordered';
  }

pub inv-absorb : {p : Network} {s : ProtocolState} → Inv p s → {u v k l x : ℕ} {r : List Msg} → Idle s → Edge p k u v → s.st v ≢ 0 → s.ch u k ≡ connect l ∷ r → l < s.lev v → Flag s v x
    → Inv p (absorbed (pop s u k r) u v k x)
inv-absorb i a b c d e f = inv i (record { idle = a; ends = b; awake = c; q = d; lower = e; flag = f })
