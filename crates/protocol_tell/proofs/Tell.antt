-- Initiate (l, f, x) from u at v over k: v takes level, identity and status from it, and sends copies over its other branches (`inv-tell`).
use Rattle.protocol.proofs.Prelude.{ℕ, suc, ◌<◌, arith, ◌≡◌, refl, sym, ap, subst, ◌∙◌, ◌≢◌, ◌⊎◌, inl, inr, ⊎_elim, List, [], ◌∷◌, true}
use Rattle.protocol.proofs.Prelude.{upd_other, by-eq, All, All-app, con, nil, Msg, connect, initiate, Network, Edge, key, flip, other-end, ends-irr, ProtocolState, Idle, Mode}
use Rattle.protocol.proofs.Prelude.{Place, initiated, pop, is_c, is_t, is_a, is_r, is_k, arg1, top, top-app, Fits, fits-initiate, In, in-nil, at2, else_same}
use Rattle.protocol.proofs.Prelude.{pop-in, in-pop, pop-bef, pop-all, fan-elim, in-fan, fan-new, fan-bef, fan-else, GL, GC, Inf, Jn, Inv, mark-awake, no-root}
use Rattle.protocol.specs.Traffic.{Hush, Tokens, Connects, InitOk, Initiates, Telling, Testing, Answers, Ordered}
use Rattle.protocol_tell.proofs.Laws.{ends-at, three, initiate-at, init-eq, fan-here}
use Rattle.protocol_tell.proofs.Heard.{Tells}
use Rattle.protocol_tell.proofs.Heard as F
use Rattle.protocol_tell.proofs.TellTables as T
use Rattle.protocol_tell.proofs.TellReports as R

module _ {p : Network} {s : ProtocolState} (i : Inv p s) {u v k l f x a b d e : ℕ} {r : List Msg} (act : Tells p s u v k l f x a b d e r) where
  open F.tell-names i act use {S', ok, m, c₁, kid, same, old}

  -- what holds of each message on a channel and, where v sends a copy over it, of the Initiate
  every : {P : Msg → Type 0} (w j : ℕ) → (v ≡ w → kid j ≡ true → P m) → All P (s.ch w j) → All P (S'.ch w j)
  every {P} w j g h = fan-elim (λ t. All P t) c₁ v kid m w j (λ y z. All-app (pop-all s.ch u k act.q w j h) (con (g y z) nil)) (λ n. pop-all s.ch u k act.q w j h)

  hush' : Hush p S'
  hush' = record {
    g6o = λ j w y g h. let t = F.asleep-tell i act w h in
        let o = i.hush.g6o j w y g t.1 in
        fan-else c₁ v kid m w j (inl t.0) ∙ else_same s.ch u k r w j (silent w j o) ∙ o;
    g6i = λ j w y g h. let t = F.asleep-tell i act y h in
        every w j (λ z o. absurd (mark-awake i y j (λ n. omega (arith, n, kid-mark j w y g z o)) t.1)) (i.hush.g6i j w y g t.1);
  }
    where
      silent : (w j : ℕ) → s.ch w j ≡ [] → (u ≢ w) ⊎ (k ≢ j)
      silent w j h = by-eq u w (λ y. by-eq k j (λ z. absurd (in-nil (subst (λ t. In m t) (at2 s.ch y z ∙ h) (F.initiate-in i act)))) (λ z. inr z)) (λ y. inl y)

      kid-mark : (j w y : ℕ) → Edge p j w y → v ≡ w → kid j ≡ true → s.mark y j ≡ 1
      kid-mark j w y g z o = let t = F.kid-yes i act j o in (F.kid-joined i act j y (ends-at z g) t.0 t.1).1

  tokens' : Tokens p S'
  tokens' = record {
    d1c = λ j z y g h. F.kept-tell i act is_c refl (omega arith) z j (i.tokens.d1c j z y g h);
    d1a = λ j z y g h. every z j (λ n o. absurd (omega (arith, F.low i act, (i.halves.d1 j z y g h).d1l, ap s.lev n, ap (λ t. GL s t) n))) (i.tokens.d1a j z y g h);
    d2c = λ j w y g h. F.kept-tell i act is_k refl (omega arith) w j (i.tokens.d2c j w y g h);
    k1 = λ j w y g h. i.tokens.k1 j w y g (old is_k refl (omega arith) w j h);
    d3r = λ j y z g h. absurd (no-root i y (act.idle).2 h.0);
    d4h = λ j y z g c h n o w. i.tokens.d4h j y z g c h n o (old is_r refl (omega arith) z j w);
    d4r = λ j y z g c h n o. F.kept-tell i act is_r refl (omega arith) z j (i.tokens.d4r j y z g c h n o);
    d7 = λ j y z g c h n o. F.inf-tell i act y n
        (λ w t. absurd (omega (arith, o, F.st-v i act, ap S'.st w, found j y z g c w)))
        (λ w t. ⊎_elim (λ q. inl (omega (arith, same is_r refl y j)))
        (λ q. let n = F.inf-else i act z q.0 in
        inr (
          F.inf-stay i act z q.0,
          F.st-else i act z n ∙ q.1,
          omega (arith, q.2, ap (key p) (F.bw-else i act y w), ap (key p) (F.bw-else i act z n)),
          omega (arith, q.3, same is_r refl z j),
        ))
        (i.tokens.d7 j y z g c h t (sym (F.st-else i act y w) ∙ o)));
  }
    where
      found : (j y z : ℕ) → Edge p j y z → GC s y ≡ j → v ≡ y → a ≡ 1
      found j y z g c w = (F.find-of i act (λ t. omega (arith, t, F.core-find i act j z (ends-at w g) (ap (λ n. GC s n) w ∙ c)))).0

  connects' : Connects p S'
  connects' = record {
    c1m = λ j w y n g h. i.connects.c1m j w y n g (old is_c refl (omega arith) w j h);
    c1 = λ j w y n g h o.
        let t = i.connects.c1 j w y n g (old is_c refl (omega arith) w j h) o in
        let z : v ≢ y = λ z. no_call j w y n g h o z t.0 in
        (t.0, t.1, F.lev-else i act y z ∙ t.2);
  }
    where
      -- a Connect to v over a joined edge would be over the core, behind the Initiate
      no_call : (j w y n : ℕ) → Edge p j w y → In (connect n) (S'.ch w j) → s.mark y j ≡ 1 → v ≡ y → GC s w ≡ j → ⊥
      no_call j w y n g h o z c =
          let fr = i.markings.m3 j w y g (i.connects.c1m j w y n g (old is_c refl (omega arith) w j h), o) in
          let t = F.core-k i act j w (ends-at z (flip g)) (ap (λ n. GC s n) z ∙ ap s.gc (sym fr) ∙ c) in
          F.behind-tell i act (connect n) (subst (λ t. In (connect n) t) (sym (at2 S'.ch t.1 t.0)) h)

  -- ---- Initiates: the copies, those left to v, those to others

  initiates' : Initiates p S'
  initiates' = record {
    i1 = λ j w y n c h g o. ⊎_elim
        (λ t. let q = pop-in s.ch u k act.q w j t in
        again j w y n c h g q (by-eq v y (λ z. left j w y n c h g z q o) (λ z. omega (arith, (i.initiates.i1 j w y n c h g q).i1l, F.lev-else i act y z))))
        (λ t. initiate-at (λ j w y n c h. InitOk p S'.lev s.fr s.gl s.gc s.ub s.due s.mark j w y n c h) refl t.0 refl t.2
        (let q = F.kid-yes i act j t.1 in fresh j y (ends-at t.0 g) q.0 q.1))
        (F.was i act w j o);
  }
    where
      fresh : (j c : ℕ) → Edge p j v c → k ≢ j → s.mark v j ≡ 1 → InitOk p S'.lev s.fr s.gl s.gc s.ub s.due s.mark j v c l f x
      fresh j c g n o =
          let fr = F.kid-fr i act j c g n o in
          let gl = ap s.gl fr in
          record {
            i1j = F.kid-joined i act j c g n o;
            i1u = F.kid-ub i act j c g n o;
            i1l = omega (arith, F.lev-else i act c (ends-irr p g), F.kid-lev i act j c g n o);
            i1g = omega (arith, ok.i1g);
            i1f = ok.i1f;
            i1i = λ y z h. ok.i1i y z h ∙ fr;
            i1c = λ z. ok.i1c (z ∙ sym gl) ∙ ap s.gc fr;
            i1d = λ z. ok.i1d (z ∙ sym gl) ∙ F.kid-due i act j c g n o;
            i1s = λ z h. F.inf-v-tell i act (z ∙ sym gl);
            i1z = λ z. ok.i1z (omega arith);
          }

      -- an old one whose receiver is still below its level
      again : (j w y n c h : ℕ) → Edge p j w y → In (initiate n c h) (s.ch w j) → S'.lev y < n → InitOk p S'.lev s.fr s.gl s.gc s.ub s.due s.mark j w y n c h
      again j w y n c h g o lt =
          let t = i.initiates.i1 j w y n c h g o in
          record {
            i1j = t.i1j;
            i1u = t.i1u;
            i1l = lt;
            i1g = t.i1g;
            i1f = t.i1f;
            i1i = t.i1i;
            i1c = t.i1c;
            i1d = t.i1d;
            i1s = λ q r. F.inf-stay i act w (t.i1s q r);
            i1z = t.i1z;
          }

      -- those left to v are behind the Initiate that it serves
      left : (j w y n c h : ℕ) → Edge p j w y → v ≡ y → In (initiate n c h) (s.ch w j) → In (initiate n c h) (S'.ch w j) → S'.lev y < n
      left j w y n c h g z q o =
          let jk : k ≡ j = sym (ok.i1u) ∙ ap s.ub z ∙ (i.initiates.i1 j w y n c h g q).i1u in
          let uw : u ≡ w = other-end (flip act.ends) (flip g) z jk in
          omega (arith, F.lev-v i act, ap S'.lev z, F.behind-tell i act (initiate n c h) (subst (λ t. In (initiate n c h) t) (sym (at2 S'.ch uw jk)) o))

  telling' : Telling p S'
  telling' = record {
    u2 = λ j w c g h n. by-eq v w
        (λ z. subst (λ t. S'.lev t ≡ top (S'.lev c) (S'.ch t j)) z
        (F.lev-v i act ∙ sym (ap (top (S'.lev c)) (fan-here v kid j (kid_of j w z h.0 (λ o. n (ap s.ub (sym z) ∙ ok.i1u ∙ o))) c₁ m) ∙ top-app (S'.lev c) l f x (c₁ v j))))
        (λ z. F.lev-else i act w z ∙ i.telling.u2 j w c g h n ∙ sym (far j w c g h n z));
    t2i = λ j w c g h o n t. F.inf-tell i act w o
        (λ z q. let y : k ≢ j = λ y. n (ap S'.ib (sym z) ∙ F.ib-v-tell i act ∙ y) in
        let o : s.mark v j ≡ 1 = ap (λ n. s.mark n j) z ∙ h.0 in
        initiate-at (λ j w y a f x. In (initiate a f x) (S'.ch w j)) {u = c} refl z refl
        (init-eq (ap (λ n. GL s n) (sym z) ∙ sym q) (ap (λ n. GC s n) (sym z) ∙ sym (ok.i1c q)) (sym (F.kid-due i act j c (ends-at z g) y o) ∙ sym (ok.i1d q)))
        (fan-new c₁ v kid m j (F.kid-on i act j y o)))
        (λ z q. let y = i.telling.t2i j w c g h q (λ e. n (F.ib-else i act w z ∙ e)) (F.was-low i act c t) in
        by-eq v c
        (λ e. in-fan c₁ v kid m w j (in-pop s.ch u k act.q w j
        (λ z. omega (arith, ap arg1 z, t, ap S'.lev e, F.lev-v i act, ap s.gl (i.markings.m3 j w c g h))) y))
        (λ e. F.hold i act j w c g e y));
    t4 = λ j y z g h c. by-eq v y
        (λ w. inr (inr (subst (λ n. Inf S' n) w (F.inf-v-tell i act (F.core-full i act j z (ends-at w g) (ap (λ n. GC s n) w ∙ c))))))
        (λ w. ⊎_elim (λ t. inl (omega (arith, same is_c refl y j)))
        (⊎_elim (λ t. inr (inl (F.hold i act j z y (flip g) w t))) (λ t. inr (inr (F.inf-stay i act y t)))) (i.telling.t4 j y z g h c));
    t4n = λ j y z g h c n.
        let t = i.telling.t4n j y z g h c (omega (arith, same is_c refl y j)) in (
          F.is-low i act y (λ w. t.1 (moved j y z (ends-at w g) w (ap (λ n. GC s n) w ∙ c))) t.0,
          λ o. ⊎_elim (λ q. t.1 (pop-in s.ch u k act.q z j q))
              (λ q. let w = F.kid-yes i act j q.1 in
              let e = ends-at q.0 (flip g) in
              F.kid-core i act j y e w.0 w.1 (ap s.gc (F.kid-fr i act j y e w.0 w.1) ∙ c)) (F.was i act z j o),
        );
  }
    where
      kid_of : (j w : ℕ) → v ≡ w → s.mark w j ≡ 1 → k ≢ j → kid j ≡ true
      kid_of j w z h n = F.kid-on i act j n (ap (λ n. s.mark n j) z ∙ h)

      -- to another than v nothing changed; to v the Initiate has been served
      far : (j w c : ℕ) → Edge p j w c → Jn s j w c → s.ub w ≢ j → v ≢ w → top (S'.lev c) (S'.ch w j) ≡ top (s.lev c) (s.ch w j)
      far j w c g h n o = by-eq v c
          (λ z. let jk : k ≡ j = sym (ok.i1u) ∙ ap s.ub z ∙ ⊎_elim (λ t. absurd (n t)) (λ t. t) (i.inbounds.m3u j w c g h) in
          three (λ j w c. top (S'.lev c) (S'.ch w j) ≡ top (s.lev c) (s.ch w j)) jk (other-end (flip act.ends) (flip g) z jk) z served)
          (λ z. ap (top (S'.lev c)) (F.off-tell i act j w c g o z) ∙ ap (λ t. top t (s.ch w j)) (F.lev-else i act c z))
        where
          served : top (S'.lev v) (S'.ch u k) ≡ top (s.lev v) (s.ch u k)
          served = ap (top (S'.lev v)) (F.rest-tell i act) ∙ ap (λ t. top t r) (F.lev-v i act) ∙ sym (ap (top (s.lev v)) act.q)

      -- to an end of the core the Initiate itself was the one
      moved : (j y z : ℕ) → Edge p j v z → v ≡ y → GC s v ≡ j → In (initiate (GL s y) j 1) (s.ch z j)
      moved j y z g w c =
          let t = F.core-k i act j z g c in
          let q = F.core-full i act j z g c in
          initiate-at (λ j w y a f x. In (initiate a f x) (s.ch w j)) {u = y} t.0 t.1 refl
          (init-eq (ap (λ n. GL s n) (sym w) ∙ sym q) (sym c ∙ sym (ok.i1c q)) (sym (F.core-find i act j z g c))) (F.initiate-in i act)

  testing' : Testing p S'
  testing' = record {
    e1 = λ j w y n c g h. let t = i.testing.e1 j w y n c g (old is_t refl (omega arith) w j h) in
        let o = F.inf-else i act w t.2 in
        (F.lev-else i act w o ∙ t.0, upd_other s.id v f w o ∙ t.1, F.inf-stay i act w t.2);
    e1w = λ j w y n c g h. ⊎_elim (λ t. inl (F.waits-new i act j w y g t.0, t.1, t.2))
        (λ t. inr (inl (⊎_elim (λ z. z) (λ z. absurd (omega (arith, (act.idle).0))) t.0), t.1, F.waits-new i act j y w (flip g) t.2, t.3))
        (i.testing.e1w j w y n c g (old is_t refl (omega arith) w j h));
    e2w = λ j w y g h o. omega (arith, i.testing.e2w j w y g (F.waits-old i act j w h) (F.waits-old i act j y o), same is_t refl w j, same is_a refl y j);
    e2c = λ j w y g h o. omega (arith, i.testing.e2c j w y g (F.waits-old i act j w h) (inl (apart j w y g o)), same is_t refl w j, same is_a refl y j, same is_t refl y j);
    m6t = λ j w y g h o. same is_t refl y j ∙ i.testing.m6t j w y g h o;
  }
    where
      apart : (j w y : ℕ) → Edge p j w y → (s.te y ≢ j) ⊎ (b ≡ suc y) → s.te y ≢ j
      apart j w y g (inl n) = n
      apart j w y g (inr z) = λ t. (F.waits-new i act j y w (flip g) (t, λ o. omega (arith, (act.idle).0))).1 z

  answers' : Answers p S'
  answers' = record {
    a1 = λ j w y g h. let t = i.answers.a1 j w y g (old is_a refl (omega arith) w j h) in
        record {
          a1w = F.waits-new i act j y w (flip g) (t.a1w);
          a1m = t.a1m;
          a1f = t.a1f;
          a1l = omega (arith, t.a1l, F.lev-else i act y (F.waits-else i act j y w (flip g) (t.a1w)), F.lev-up i act w);
        };
    j1 = λ j w y g h. let t = i.answers.j1 j w y g (old is_a refl (omega arith) w j h) in record { j1w = F.waits-new i act j y w (flip g) (t.j1w); j1f = t.j1f; j1m = t.j1m };
  }

  ordered' : Ordered p S'
  ordered' = record {
    q1 = λ j w y n o g h. ⊎_elim (λ t. i.ordered.q1 j w y n o g (pop-bef s.ch u k act.q w j t))
        (λ t. subst (λ z. Fits n z) (sym t.2) (fits-initiate l f x n (λ c d e z.
        let q = F.kid-yes i act j t.1 in
        F.kid-inits i act j y (ends-at t.0 g) q.0 q.1 c d e
        (subst (λ a. In (initiate c d e) (s.ch a j)) (sym t.0) (subst (λ a. In a (s.ch w j)) z (pop-in s.ch u k act.q w j t.3))))))
        (fan-bef c₁ v kid m w j h);
  }

  inv : Inv p S'
  inv = record {
    ranges = T.ranges-tell i act;
    values = T.values-tell i act;
    levels = T.levels-tell i act;
    sizes = i.sizes;
    cores = i.cores;
    sleepers = T.sleepers-tell i act;
    markings = i.markings;
    inbounds = T.inbounds-tell i act;
    halves = T.halves-tell i act;
    change_roots = T.change_roots-tell i act;
    rootings = T.rootings-tell i act;
    finishes = T.finishes-tell i act;
    parents = T.parents-tell i act;
    kids = T.kids-tell i act;
    finds = T.finds-tell i act;
    pending = T.pending-tell i act;
    find_counts = T.find_counts-tell i act;
    tests = T.tests-tell i act;
    weights = T.weights-tell i act;
    hush = hush';
    tokens = tokens';
    connects = connects';
    initiates = initiates';
    telling = telling';
    testing = testing';
    answers = answers';
    reports = R.reports-tell i act;
    owing = R.owing-tell i act;
    bests = R.bests-tell i act;
    ordered = ordered';
  }

pub inv-tell : {p : Network} {s : ProtocolState} → Inv p s → {u v k l f x a b d e : ℕ} {r : List Msg} → Idle s → Edge p k u v → s.ch u k ≡ initiate l f x ∷ r → Mode v x a b → Place s u v k d e
    → Inv p (initiated p (pop s u k r) v k l f x a d e b)
inv-tell i h g q m n = inv i (record { idle = h; ends = g; q = q; mode = m; place = n })
