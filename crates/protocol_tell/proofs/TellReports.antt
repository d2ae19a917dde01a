-- v serves Initiate (l, f, x) from u over k: the clauses on Reports, on what is owed, and on best weights (`reports-tell`, `owing-tell`, `bests-tell`).
use Rattle.protocol.proofs.Prelude.{ℕ, suc, ◌≤◌, ◌<◌, arith, ◌≡◌, refl, sym, ap, subst, ◌∙◌, ◌≢◌, ◌⊎◌, inl, inr, ⊎_elim, List, upd_other, by-eq}
use Rattle.protocol.proofs.Prelude.{sum_l, Msg, connect, initiate, report, Network, Edge, key, rank, flip, ends-irr, ProtocolState, fill-elim}
use Rattle.protocol.proofs.Prelude.{fill-else, is_ci, is_r, kinds, no-calls, some-report, In, next, Bef, tails, pop-bef, fan-bef, GL, GC, Inf, Jn, Outst, Covered}
use Rattle.protocol.proofs.Prelude.{CoreEnds, Spent, Inv}
use Rattle.protocol.specs.Traffic.{Reports, Owing, Bests}
use Rattle.protocol_tell.proofs.Laws.{ends-at, three, fill_here}
use Rattle.protocol_tell.proofs.Heard.{Tells}
use Rattle.protocol_tell.proofs.Heard as F

module _ {p : Network} {s : ProtocolState} (i : Inv p s) {u v k l f x a b d e : ℕ} {r : List Msg} (act : Tells p s u v k l f x a b d e r) where
  open F.tell-names i act use {S', ok, m, c₁, kid, same, old}

  -- to v: its Initiate was the last, so nothing is ahead of the Report any more
  core-v : (n : ℕ) → GC s v ≡ k → CoreEnds s u v k n → CoreEnds S' u v k n
  core-v n c t =
      let o : v ≢ u = λ z. F.u≢v i act (sym z) in
      let q = F.core-full i act k u (flip act.ends) c in (
        t.0,
        t.1,
        F.inf-stay i act u t.2,
        F.st-else i act u o ∙ t.3,
        F.bw-else i act u o ∙ t.4,
        λ y h. t.5 y (subst (λ z. Bef (report n) y z) (sym act.q) (tails (subst (λ z. Bef (report n) y z) (F.rest-tell i act) h))),
        inl (
          F.inf-v-tell i act q,
          no-calls (S'.ch u k) (λ y h. F.behind-tell i act (connect y) h)
              (λ y z w h. omega (arith, q, F.behind-tell i act (initiate y z w) h, (i.initiates.i1 k u v y z w act.ends (back y z w h)).i1g)),
        ),
      )
    where
      back : (y z w : ℕ) → In (initiate y z w) (S'.ch u k) → In (initiate y z w) (s.ch u k)
      back y z w h = subst (λ t. In (initiate y z w) t) (sym act.q) (next (subst (λ t. In (initiate y z w) t) (F.rest-tell i act) h))

  to-v : (j w y n : ℕ) → Edge p j w y → v ≡ y → In (report n) (s.ch w j) → CoreEnds S' w y j n
  to-v j w y n g z h =
      let t = F.report-to i act j w n (subst (λ c. Edge p j w c) (sym z) g) h in
      three (λ j w y. CoreEnds S' w y j n) t.0 t.1 z
      (core-v n (t.2 ∙ sym t.0) (three (λ j w y. CoreEnds s w y j n) (sym t.0) (sym t.1) refl t.3))

  -- at others than v
  core-else : (j w y n : ℕ) → v ≢ w → v ≢ y → S'.ch w j ≡ s.ch w j → CoreEnds s w y j n → CoreEnds S' w y j n
  core-else j w y n o z q t = (
    t.0,
    t.1,
    F.inf-stay i act w t.2,
    F.st-else i act w o ∙ t.3,
    F.bw-else i act w o ∙ t.4,
    λ c h. t.5 c (subst (λ l. Bef (report n) c l) q h),
    ⊎_elim (λ c. inl (F.inf-stay i act y c.0, ap (sum_l is_ci) q ∙ c.1))
        (λ c. inr (F.is-low i act y z c.0, subst (λ l. In (initiate (GL s y) j 1) l) (sym q) c.1)) t.6,
  )

  spent : (j w y n : ℕ) → v ≢ y → Spent p s w y j n → Spent p S' w y j n
  spent j w y n z t = (
    F.ib-else i act y z ∙ t.0,
    upd_other s.id v f y z ∙ t.1,
    t.2,
    F.st-else i act y z ∙ t.3,
    λ c h. t.4 c (⊎_elim (λ o. pop-bef s.ch u k act.q w j o) (λ o. absurd (kinds (λ n. omega arith) o.2)) (fan-bef c₁ v kid m w j h)),
    ⊎_elim (λ c. inl (omega (arith, c, ap (key p) (F.bw-else i act y z)))) (λ c. inr (c.0, F.bw-else i act y z ∙ c.1, c.2, c.3)) t.5,
  )

  pub reports-tell : Reports p S'
  reports-tell = record {
    r1r = λ j w y n g h. i.reports.r1r j w y n g (old is_r refl (omega arith) w j h);
    r1j = λ j w y n g h. i.reports.r1j j w y n g (old is_r refl (omega arith) w j h);
    r1 = λ j w y n g h. let o = old is_r refl (omega arith) w j h in
        by-eq v y (λ z. inr (inl (to-v j w y n g z o)))
        (λ z. by-eq v w
        (λ t. inr (inr (spent j w y n z (subst (λ c. Spent p s c y j n) t (F.report-from i act j y n (ends-at t g) (subst (λ c. In (report n) (s.ch c j)) (sym t) o)).0))))
        (λ t. let q = F.off-tell i act j w y g t z in
        ⊎_elim
        (λ c. inl (
          F.inf-stay i act w c.0,
          F.ib-else i act w t ∙ c.1,
          c.2,
          F.st-else i act w t ∙ c.3,
          F.bw-else i act w t ∙ c.4,
          F.inf-stay i act y c.5,
          F.st-else i act y z ∙ c.6,
          ap (sum_l is_ci) q ∙ c.7,
        ))
        (⊎_elim (λ c. inr (inl (core-else j w y n t z q c))) (λ c. inr (inr (spent j w y n z c))))
        (i.reports.r1 j w y n g o)));
    r1c = λ j w y n g h c q t. let o = old is_r refl (omega arith) w j h in
        F.inf-tell i act y c (λ z e. to-v j w y n g z o)
        (λ z e. by-eq v w
        (λ d. absurd ((F.report-from i act j y n (ends-at d g) (subst (λ c. In (report n) (s.ch c j)) (sym d) o)).1 e))
        (λ d. core-else j w y n d z (F.off-tell i act j w y g d z) (i.reports.r1c j w y n g o e q t)));
  }

  -- ---- what is owed, best weights

  -- v, still to be searched: Find now, or yet to be told
  due-now : s.due v ≡ 1 → ((l ≡ GL s v) × (x ≢ 0)) ⊎ (S'.lev v < GL s v)
  due-now h = by-eq l (GL s v) (λ z. inl (z, λ o. omega (arith, ok.i1d z))) (λ n. inr (omega (arith, ok.i1g, F.lev-v i act)))

  outst-new : (c j : ℕ) → Outst s c j → Outst S' c j
  outst-new c j (inl t) = inl (F.inf-stay i act c t.0, ⊎_elim (λ y. inl (F.st-else i act c (F.inf-else i act c t.0) ∙ y)) (λ y. inr (omega (arith, same is_r refl c j))) t.1)
  outst-new c j (inr t) = by-eq v c
      (λ z. subst (λ y. Outst S' y j) z (⊎_elim (λ y. inl (F.inf-v-tell i act y.0, inl (F.st-v i act ∙ (F.find-of i act y.1).0))) (λ y. inr (y, ap s.due z ∙ t.1)) (due-now (ap s.due z ∙ t.1))))
      (λ z. inr (F.is-low i act c z t.0, t.1))

  outst-old : (c j w : ℕ) → Edge p j w c → Inf s w → Outst S' c j → Outst s c j
  outst-old c j w g h (inr t) = inr (F.was-low i act c t.0, t.1)
  outst-old c j w g h (inl t) = F.inf-tell i act c t.0
      (λ z o. subst (λ y. Outst s y j) z (⊎_elim
      (λ y. let n : x ≢ 0 = λ q. omega (arith, y, F.st-v i act, ap S'.st z, (F.found_of i act q).0) in inr (F.low i act, F.due-v i act n))
      (λ y. let q = some-report (s.ch c j) (omega (arith, same is_r refl c j)) in
      absurd ((F.report-from i act j w q.0 (ends-at z (flip g)) (subst (λ y. In (report q.0) (s.ch y j)) (sym z) q.1)).1 h))
      t.1))
      (λ z o. inl (o, ⊎_elim (λ y. inl (sym (F.st-else i act c z) ∙ y)) (λ y. inr (omega (arith, same is_r refl c j))) t.1))

  pub owing-tell : Owing p S'
  owing-tell = record {
    f4y = λ j w c g. fill-elim (λ y. y ≢ 0 → Inf S' w × Jn s j w c × (S'.ib w ≢ j) × Outst S' c j) s.owe v kid x w j
        (λ z h n. let q = F.kid-yes i act j h in
        let o = ends-at z g in
        subst (λ y. Inf S' y × Jn s j y c × (S'.ib y ≢ j) × Outst S' c j) z (
          F.inf-v-tell i act (F.full i act n),
          F.kid-joined i act j c o q.0 q.1,
          λ t. q.0 (sym (F.ib-v-tell i act) ∙ t),
          inr (F.is-low i act c (ends-irr p o) (F.kid-low i act j c o q.0 q.1), sym (F.kid-due i act j c o q.0 q.1) ∙ F.due-v i act n),
        ))
        (λ z n. let t = i.owing.f4y j w c g n in (F.inf-stay i act w t.0, t.1, λ o. t.2 (sym (F.ib-else i act w (F.inf-else i act w t.0)) ∙ o), outst-new c j t.3));
    f4n = λ j w c g h o n t. F.inf-tell i act w h
        (λ z q. let y : k ≢ j = λ y. n (ap S'.ib (sym z) ∙ F.ib-v-tell i act ∙ y) in
        let e : s.mark v j ≡ 1 = ap (λ n. s.mark n j) z ∙ o.0 in
        let a = ends-at z g in
        ap (λ y. S'.owe y j) (sym z) ∙ fill_here v kid j (F.kid-on i act j y e) s.owe x ∙ ok.i1d q ∙ F.kid-due i act j c a y e
        ∙ ⊎_elim (λ d. F.inf-tell i act c d.0 (λ b f. absurd (ends-irr p a b)) (λ b f. absurd (omega (arith, f.1, F.kid-low i act j c a y e)))) (λ d. d.1) t)
        (λ z q. fill-else s.owe v kid x w j z ∙ i.owing.f4n j w c g q o (λ e. n (F.ib-else i act w z ∙ e)) (outst-old c j w g q t));
  }

  cover : (w n : ℕ) → Covered p s w n → Covered p S' w n
  cover w n t =
      let z = F.inf-else i act t.0 t.2 in
      let o = F.bw-else i act t.0 z in
      let q = F.ib-else i act t.0 z in (
        t.0,
        t.1,
        F.inf-stay i act t.0 t.2,
        λ y. t.3 (sym o ∙ y),
        ⊎_elim (λ y. inl (F.st-else i act t.0 z ∙ y))
            (⊎_elim (λ y. inr (inl (q ∙ y))) (λ y. inr (inr (subst (λ j. 1 ≤ sum_l is_r (S'.ch t.0 j)) (sym q) (omega (arith, same is_r refl t.0 (s.ib t.0))))))) t.4,
        omega (arith, t.5, ap (key p) o),
      )

  pub bests-tell : Bests p S'
  bests-tell = record {
    b1e = λ w h n o. F.inf-tell i act w h
        (λ z q. absurd (n (ap S'.bw (sym z) ∙ F.bw-v i act)))
        (λ z q.
        let y = F.bw-else i act w z in
        let e = F.be-else i act w z in
        let t = i.bests.b1e w q (λ c. n (y ∙ c)) (λ c. o (e ∙ c ∙ sym y)) in
        let c = F.inf-else i act t.0 t.4 in
        subst (λ j. (c : ℕ) × Edge p j w c × Jn s j w c × (S'.ib w ≢ j) × Inf S' c × (S'.ib c ≡ j) × (S'.bw c ≡ S'.bw w) × (S'.st c ≡ 2) × (sum_l is_r (S'.ch c j) ≡ 0)) (sym e) (
          t.0,
          t.1,
          t.2,
          λ d. t.3 (sym (F.ib-else i act w z) ∙ d),
          F.inf-stay i act t.0 t.4,
          F.ib-else i act t.0 c ∙ t.5,
          F.bw-else i act t.0 c ∙ t.6 ∙ sym y,
          F.st-else i act t.0 c ∙ t.7,
          same is_r refl t.0 (s.be w) ∙ t.8,
        ));
    b2 = λ j w y g h c o. ⊎_elim
        (λ t. by-eq v w
        (λ z. ⊎_elim (λ q. inr (inl ((F.find-of i act q.1).1 ∙ ap suc z)))
        (λ q. inl (subst (λ n. S'.lev n < GL s n) z q, t.1)) (due-now (ap s.due z ∙ t.1)))
        (λ z. inl (F.is-low i act w z t.0, t.1)))
        (⊎_elim (λ t. absurd (omega (arith, (act.idle).0))) (⊎_elim (λ t. inr (inr (inl t))) (λ t. inr (inr (inr (cover w (rank p j) t))))))
        (i.bests.b2 j w y g h c o);
  }
