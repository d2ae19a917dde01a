-- An Initiate at v: each child that gets a copy will have a higher level, which pays for the copy and for all that the child may send at that level (`paid-tell`).
use Rattle.protocol.proofs.Prelude.{ℕ, ◌+◌, ◌*◌, eqb, bit, cond, Bool, true, false, ◌≤◌, ◌<◌, arith, ◌≡◌, refl, sym, ap, subst, ◌∙◌, ◌≢◌, inl, inr, ⊎_elim, by-eq, bool_cases}
use Rattle.protocol.proofs.Prelude.{List, [], ◌∷◌, ◌++◌, sum, sum-le, sum-add, sum_l, upd_same, upd_other, upd2, Msg, initiate}
use Rattle.protocol.proofs.Prelude.{Network, Edge, end_lt, flip, ends_same, other-end, ends-two, ends-irr, edge-some, ProtocolState, Idle, Mode, Place, pop, initiated}
use Rattle.protocol.proofs.Prelude.{is_t, is_y, top, top-app, In, fan, fan-elim, fan-sum, fan-else, copy, copy-yes, pop-head, pop-sum, else_same, here-new, at2, no-tests, GL, DK, Waits, Inv, no-root, low-find, changing-of}
use Rattle.protocol.specs.Traffic.{InitOk}
use Rattle.protocol_budget.proofs.Paid.{Lt, Heights, Dues, Tries, Links, Paid, lt-none, lt_same}
use Rattle.protocol_budget.proofs.Height.{tb-le, tb-init}
use Rattle.protocol_budget.proofs.Pick.{sum-map, sum-times}

module _ {p : Network} {z n : ℕ} {s : ProtocolState} (i : Inv p s) (h : Paid p z s n) {u v k l f x a b d e : ℕ} {r : List Msg} (idle : Idle s) (ends : Edge p k u v)
    (q : s.ch u k ≡ initiate l f x ∷ r) (mode : Mode v x a b) (place : Place s u v k d e) where
  abbrev s₁ : ProtocolState
  s₁ = pop s u k r

  abbrev S' : ProtocolState
  S' = initiated p s₁ v k l f x a d e b

  abbrev m : Msg
  m = initiate l f x

  abbrev c₁ : ℕ → ℕ → List Msg
  c₁ = upd2 s.ch u k r

  head : In m (s.ch u k)
  head = pop-head s.ch u k q

  said : InitOk p s.lev s.fr s.gl s.gc s.ub s.due s.mark k u v l f x
  said = i.initiates.i1 k u v l f x ends head

  -- v was below its fragment's level, so it is not Find, and has sent no Test
  below : s.lev v < GL s v
  below = omega (arith, said.i1l, said.i1g)

  no_test : (j y : ℕ) → Edge p j v y → sum_l is_t (s.ch v j) ≡ 0
  no_test j y g = no-tests (s.ch v j) (λ c w o. omega (arith, below, (i.testing.e1 j v y c w g o).2.1))

  not-waiting : (j y : ℕ) → Edge p j v y → s.te v ≢ j
  not-waiting j y g o = edge-some p g (sym o ∙ i.pending.f3t v (low-find i v below))

  -- ---- who gets a copy: its inbound edge is one of those

  abbrev kid : ℕ → Bool
  kid w = copy s₁ v k (s.ub w)

  -- over such an edge: joined, and inbound for the other end, whose level is to be that of v
  child : (j y : ℕ) → Edge p j v y → copy s₁ v k j ≡ true → (s.ub y ≡ j) × (h.tb y ≡ s.lev v)
  child j y g c =
      let t = copy-yes s₁ v k j c in
      let o : s.mark y j ≡ 1 = by-eq (s.mark y j) 1 (λ w. w) (λ w. absurd (omega (arith, below, (i.halves.d1 j v y g (i.halves.m2 j v y g t.1 w)).d1l))) in
      let far : s.ub v ≢ j = λ w. t.0 (sym w ∙ said.i1u) in
      let up = ⊎_elim (λ w. absurd (far w)) (λ w. w) (i.inbounds.m3u j v y g (t.1, o)) in
      (up, (h.H).tb1 j v y g up ∙ sym (i.telling.u2 j v y g (t.1, o) far))

  -- a kid is the other end of its inbound edge
  kid_of : (w : ℕ) → kid w ≡ true → Edge p (s.ub w) v w
  kid_of w c =
      let t = copy-yes s₁ v k (s.ub w) c in
      let y = i.markings.own v (s.ub w) (λ o. omega (arith, t.1)) in
      let g = i.inbounds.u1o w (λ o. edge-some p y.1 o) in
      ⊎_elim (λ o. absurd (t.0 (ap s.ub (sym o.0) ∙ said.i1u))) (λ o. subst (λ c. Edge p (s.ub w) v c) o.1 y.1) (ends-two y.1 g.1)

  kid-v : kid v ≡ false
  kid-v = bool_cases (copy s₁ v k (s.ub v)) (λ c. absurd ((copy-yes s₁ v k (s.ub v) c).0 said.i1u)) (λ c. c)

  -- the new level to be, and what it brings
  tb' : ℕ → ℕ
  tb' w = cond (kid w) l (h.tb w)

  tb-yes : (w : ℕ) → kid w ≡ true → tb' w ≡ l
  unfolding tb'
  tb-yes w c = rw c

  tb-no : (w : ℕ) → kid w ≡ false → tb' w ≡ h.tb w
  unfolding tb'
  tb-no w c = rw c

  tb-up : (w : ℕ) → h.tb w + bit (kid w) ≤ tb' w
  tb-up w = bool_cases (kid w)
      (λ c. omega (arith, tb-yes w c, ap bit c, (child (s.ub w) w (kid_of w c) (opened w c)).1, said.i1l))
      (λ c. omega (arith, tb-no w c, ap bit c))
    where
      opened : (w : ℕ) → kid w ≡ true → copy s₁ v k (s.ub w) ≡ true
      opened w c = c

  -- ---- the new channels

  abbrev c' : ℕ → ℕ → List Msg
  c' = fan c₁ v (copy s₁ v k) m

  tests : (w j : ℕ) → sum_l is_t (c' w j) ≡ sum_l is_t (s.ch w j)
  tests w j = fan-sum c₁ v (copy s₁ v k) m is_t refl w j ∙ pop-sum s.ch u k q is_t refl w j

  yes : (w j : ℕ) → sum_l is_y (c' w j) ≡ sum_l is_y (s.ch w j)
  yes w j = fan-sum c₁ v (copy s₁ v k) m is_y refl w j ∙ pop-sum s.ch u k q is_y refl w j

  H' : Heights p S'.lev s.ub c' tb'
  H' = record {
    tb0 = λ w o. bool_cases (kid w)
        (λ c. absurd (edge-some p (kid_of w c) o))
        (λ c. by-eq v w (λ g. absurd (edge-some p ends (sym said.i1u ∙ ap s.ub g ∙ o))) (λ g. tb-no w c ∙ (h.H).tb0 w o ∙ sym (upd_other s.lev v l w g)));
    tb1 = λ j y w g o. by-eq v w (λ t. at-v j y w g o t) (λ t. bool_cases (kid w) (λ c. at-kid j y w g o t c) (λ c. at-else j y w g o t c));
  }
    where
      at-v : (j y w : ℕ) → Edge p j y w → s.ub w ≡ j → v ≡ w → tb' w ≡ top (S'.lev w) (c' y j)
      at-v j y w g o t =
          let c : k ≡ j = sym said.i1u ∙ ap s.ub t ∙ o in
          let d : u ≡ y = other-end (flip ends) (flip g) t c in
          tb-no w (ap kid (sym t) ∙ kid-v)
          ∙ ap (h.tb) (sym t) ∙ (h.H).tb1 k u v ends said.i1u ∙ ap (top (s.lev v)) q
          ∙ sym (ap (top (S'.lev w)) (sym (at2 c' d c) ∙ fan-else c₁ v (copy s₁ v k) m u k (inl (λ a. ends-irr p ends (sym a))) ∙ here-new s.ch u k r)
          ∙ ap (λ a. top a r) (ap S'.lev (sym t) ∙ upd_same s.lev v l))

      -- the channel from another than u, or over another edge
      apart : (j y w : ℕ) → Edge p j y w → v ≢ w → c₁ y j ≡ s.ch y j
      apart j y w g t = else_same s.ch u k r y j (by-eq k j
          (λ c. inl (λ a. t (other-end ends g a c))) (λ c. inr c))

      at-kid : (j y w : ℕ) → Edge p j y w → s.ub w ≡ j → v ≢ w → kid w ≡ true → tb' w ≡ top (S'.lev w) (c' y j)
      at-kid j y w g o t c =
          let e = subst (λ a. Edge p a v w) o (kid_of w c) in
          let d : v ≡ y = ends_same (flip e) (flip g) in
          tb-yes w c ∙ sym (ap (top (S'.lev w)) (sent j y d (on j w o c)) ∙ top-app (S'.lev w) l f x (c₁ y j))
        where
          on : (j w : ℕ) → s.ub w ≡ j → kid w ≡ true → copy s₁ v k j ≡ true
          on j w o c = ap (copy s₁ v k) (sym o) ∙ c

          sent : (j y : ℕ) → v ≡ y → copy s₁ v k j ≡ true → c' y j ≡ c₁ y j ++ (m ∷ [])
          sent j y d c = fan-elim (λ a. a ≡ c₁ y j ++ (m ∷ [])) c₁ v (copy s₁ v k) m y j (λ a b. refl)
              (λ n. absurd (⊎_elim (λ a. a d) (λ a. let z : ◌≡◌ {A = ℕ} 1 0 = ap bit (sym c ∙ a) in omega arith) n))

      at-else : (j y w : ℕ) → Edge p j y w → s.ub w ≡ j → v ≢ w → kid w ≡ false → tb' w ≡ top (S'.lev w) (c' y j)
      at-else j y w g o t c =
          tb-no w c ∙ (h.H).tb1 j y w g o
          ∙ sym (ap (top (S'.lev w)) (fan-else c₁ v (copy s₁ v k) m y j (inr (on j w o c)) ∙ apart j y w g t) ∙ ap (λ a. top a (s.ch y j)) (upd_other s.lev v l w t))
        where
          on : (j w : ℕ) → s.ub w ≡ j → kid w ≡ false → copy s₁ v k j ≡ false
          on j w o c = ap (copy s₁ v k) (sym o) ∙ c

  -- ---- needs: a kid has what the raise brings; another is as it was

  more : (g : ℕ → ℕ) (y : ℕ) → (w : ℕ) → kid w ≡ true → y ≤ g w + y * bit (kid w)
  more g y w c = omega (arith, ap (λ a. y * bit a) c)

  needs : {C : Type 0} (w : ℕ) → tb' w ≡ GL s w → (kid w ≡ true → C) → (h.tb w ≡ GL s w → C) → C
  needs w o y g = bool_cases (kid w) y (λ c. g (sym (tb-no w c) ∙ o))

  -- the level of another, and of v before
  was-low : (w : ℕ) → S'.lev w < GL s w → s.lev w < GL s w
  was-low w o = by-eq v w (λ g. omega (arith, below, ap s.lev g, ap (GL s) g)) (λ g. omega (arith, upd_other s.lev v l w g))

  rt' : ℕ → ℕ
  rt' w = h.rt w + 1 * bit (kid w)

  ts' : ℕ → ℕ
  ts' w = h.ts w + 2 * bit (kid w)

  rp' : ℕ → ℕ
  rp' w = h.rp w + 1 * bit (kid w)

  D' : Dues S'.lev s.fr s.gl s.due s.dk s.dn S'.dep tb' rp' rt'
  unfolding rt' rp'
  D' = record {
    rp1 = λ w o. needs w o (λ c. omega (arith, more (h.rp) 1 w c, i.ranges.due-le w)) (λ g. omega (arith, (h.D).rp1 w g));
    rt0 = λ w o c. needs w o (λ g. more (h.rt) 1 w g) (λ g. omega (arith, (h.D).rt0 w g c));
    rt1 = λ w o c y. needs w o (λ g. more (h.rt) 1 w g) (λ g. omega (arith, (h.D).rt1 w g c (was-low w y)));
    rt2 = λ w o c y. absurd (no-root i w idle.2 c);
    rt3 = λ w o c y. needs w o (λ g. more (h.rt) 1 w g)
        (λ g. by-eq v w
        (λ t. omega (arith, (h.D).rt1 w g (omega (arith, c)) (omega (arith, below, ap s.lev t, ap (GL s) t))))
        (λ t. omega (arith, (h.D).rt3 w g c (omega (arith, upd_other s.dep v d w t, upd_other s.dep v d (s.dn (s.fr w)) (teller w c))))));
  }
    where
      -- who has sent the Change-root is informed
      teller : (w : ℕ) → DK s w ≡ 2 → v ≢ s.dn (s.fr w)
      teller w c t =
          let o = changing-of i w c in
          let g = (i.change_roots.d2 o.1 o.0 o.2 o.3 o.4).d2i in
          omega (arith, below, g.1, ap s.lev (t ∙ ap s.dn (sym o.5) ∙ o.4.1), ap (GL s) (t ∙ ap s.dn (sym o.5) ∙ o.4.1))

  T' : Tries z S'.lev s.fr s.gl s.due tb' ts' b
  unfolding ts'
  T' = record {
    ts0 = λ w o c. needs w o (λ g. more (h.ts) 2 w g) (λ g. omega (arith, (h.T).ts0 w g c));
    ts1 = λ w o c y. needs w o (λ g. more (h.ts) 2 w g) (λ g. omega (arith, (h.T).ts1 w g (was-low w c) y));
    ts2 = λ w o. ⊎_elim (λ t. find w (omega (arith, t.2)) t.0) (λ t. absurd (omega (arith, t.2))) mode;
  }
    where
      -- Find is said at the fragment's level, to who is due
      find : (w : ℕ) → v ≡ w → x ≡ 1 → 2 ≤ h.ts w + 2 * bit (kid w)
      find w g y =
          let o : l ≡ GL s v = by-eq l (GL s v) (λ c. c) (λ c. absurd (omega (arith, y, said.i1z (omega (arith, said.i1g))))) in
          let t : h.tb v ≡ GL s v = omega (arith, o, tb-le i (h.H) v, tb-init i (h.H) k u v l f x ends head) in
          omega (arith, (h.T).ts1 v t below (sym (said.i1d o) ∙ y), ap (h.ts) g)

  lt : (w j y : ℕ) → Edge p j w y → Lt z S'.lev c' w j ≡ Lt z s.lev s.ch w j
  lt w j y g = by-eq v w
      (λ t. let o : sum_l is_t (s.ch w j) ≡ 0 = ap (λ c. sum_l is_t (s.ch c j)) (sym t) ∙ no_test j y (subst (λ c. Edge p j c y) (sym t) g) in
      lt-none z S'.lev c' w j (tests w j ∙ o) ∙ sym (lt-none z s.lev s.ch w j o))
      (λ t. ap (λ c. sum_l is_t (c' w j) * bit (eqb c z)) (upd_other s.lev v l w t) ∙ lt_same z s.lev s.ch w j c' (tests w j))

  waited : (j w y : ℕ) → Edge p j w y → Waits S' w j → (v ≢ w) × Waits s w j
  waited j w y g t = ((λ o. not-waiting j y (subst (λ c. Edge p j c y) (sym o) g) (ap s.te o ∙ t.0)), (t.0, λ o. omega (arith, idle.0)))

  L' : Links p z S'.lev s.te s.mark c' b ts' (h.lk)
  unfolding ts'
  L' = record {
    ts3 = λ j w y g t o. let c = waited j w y g t in
        omega (arith, (h.L).ts3 j w y g c.1 (λ e. o (upd_other s.lev v l w c.0 ∙ e)), tests w j, yes y j);
    lk1 = λ j w y g t o. omega (arith, (h.L).lk1 j w y g t o, lt w j y g, lt y j w (flip g));
    lk2 = λ j w y g t o. omega (arith, (h.L).lk2 j w y g (waited j w y g t).1 (omega (arith, tests w j)), lt w j y g, lt y j w (flip g));
  }

  -- as many copies as kids, at most
  copies : sum p.g.L (λ j. bit (copy s₁ v k j)) ≤ sum p.N (λ w. bit (kid w))
  copies = sum-map p.g.L p.N (λ j. bit (copy s₁ v k j)) s.ub (λ j o c. bool_cases (copy s₁ v k j) (λ t. hit j t) (λ t. absurd (c (ap bit t))))
    where
      hit : (j : ℕ) → copy s₁ v k j ≡ true → (w : ℕ) × (w < p.N) × (s.ub w ≡ j)
      hit j t = let y = i.markings.own v j (λ o. omega (arith, (copy-yes s₁ v k j t).1)) in (y.0, end_lt p (flip y.1), (child j y.0 y.1 t).0)

  pub paid-tell : Paid p z S' (n + sum p.g.L (λ j. bit (copy s₁ v k j)))
  unfolding ts' rt' rp'
  paid-tell = record {
    tb = tb';
    rp = rp';
    ts = ts';
    rt = rt';
    lk = h.lk;
    H = H';
    D = D';
    T = T';
    L = L';
    bal = omega (
      arith,
      h.bal,
      copies,
      sum-le p.N (λ w. h.tb w + bit (kid w)) tb' (λ w o. tb-up w),
      sum-add p.N (h.tb) (λ w. bit (kid w)),
      sum-add p.N (h.rp) (λ w. 1 * bit (kid w)),
      sum-add p.N (h.ts) (λ w. 2 * bit (kid w)),
      sum-add p.N (h.rt) (λ w. 1 * bit (kid w)),
      sum-times p.N 1 (λ w. bit (kid w)),
      sum-times p.N 2 (λ w. bit (kid w)),
    );
  }
