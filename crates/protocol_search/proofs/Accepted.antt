-- Accept from u at v over k: the test edge becomes none, k is weighed against v's best, procedure report comes next (`inv-accepted`).
use Rattle.protocol.proofs.Prelude.{ℕ, suc, ◌+◌, ◌≤◌, arith, ◌≡◌, refl, sym, ap, subst, ◌∙◌, ◌≢◌, ◌⊎◌, inl, inr, ⊎_elim}
use Rattle.protocol.proofs.Prelude.{List, ◌∷◌, upd, upd-elim, upd_other, upd2, by-eq, sum_l}
use Rattle.protocol.proofs.Prelude.{Msg, none, test, accept}
use Rattle.protocol.proofs.Prelude.{Network, Edge, key, rank, key-none, ends-rank, flip, ends_same, other-end, ends-key, edge-some, ProtocolState, Idle, Better, set-te, set-op, set-ch, bested, pop}
use Rattle.protocol.proofs.Prelude.{is_t, is_a, is_r, In, in_sum, pop-head, pop-in, pop-sum, else_same, none_in, here-new, rest-none}
use Rattle.protocol.proofs.Prelude.{Inf, Waits, Covered, Inv, waits-find}
use Rattle.protocol.proofs.Prelude.{plain-accept, counting-to, flow, flow-open, flow-take, rated, flow-best}
use Rattle.protocol.specs.Search.{Pending, Tests}
use Rattle.protocol.specs.Traffic.{AcceptOk, Testing, Answers, Bests}
use Rattle.protocol.proofs.Weigh as W
use Rattle.protocol.proofs.Weigh.{LeavesFragment}

module _ {p : Network} {s : ProtocolState} (i : Inv p s) {u v k b e : ℕ} {r : List Msg} (idle : Idle s) (ends : Edge p k u v) (q : s.ch u k ≡ accept ∷ r) (better : Better p s v k k b e) where
  abbrev c' : ℕ → ℕ → List Msg
  c' = upd2 s.ch u k r

  abbrev S' : ProtocolState
  S' = set-op (bested (set-te (pop s u k r) (upd s.te v none)) v b e) (suc v)

  said : AcceptOk s.te s.fr s.lev s.mark s.ot k u v
  said = i.answers.a1 k u v ends (pop-head s.ch u k q)

  find : s.st v ≡ 1
  find = waits-find i k v u (flip ends) said.a1w

  inf : Inf s v
  inf = (i.finds.f1 v find).f1i

  -- k leaves the fragment
  leaves : k ≢ none → LeavesFragment p s v k
  leaves n = (v, u, flip ends, refl, said.a1f, omega (arith, inf.1, said.a1l), inf, refl)

  -- the new best weight is not later than k, so an edge
  pub best-k : key p b ≤ key p k
  best-k = W.best-w i idle.2 find (flip ends) better leaves

  best-some : b ≢ none
  best-some z = omega (arith, ap (key p) z, key-none p, best-k, ends-key p ends, ends-rank p ends)

  same : (f : Msg → ℕ) → f accept ≡ 0 → (w j : ℕ) → sum_l f (c' w j) ≡ sum_l f (s.ch w j)
  same f z w j = pop-sum s.ch u k q f z w j

  old : {x : Msg} (w j : ℕ) → In x (c' w j) → In x (s.ch w j)
  old w j h = pop-in s.ch u k q w j h

  -- ---- who waits

  -- v waited on k only, and its Test is served
  waited : (j : ℕ) → Waits s v j → k ≡ j
  waited j h = sym said.a1w.0 ∙ h.0

  pub own-test : sum_l is_t (s.ch v k) ≡ 0
  own-test = by-eq (s.te u) k
      (λ z. omega (arith, i.testing.e2w k v u (flip ends) said.a1w (z, λ o. omega (arith, idle.0)), a))
      (λ z. omega (arith, i.testing.e2c k v u (flip ends) said.a1w (inl z), a))
    where
      a : 1 ≤ sum_l is_a (s.ch u k)
      a = in_sum is_a (pop-head s.ch u k q)

  -- who waits now waited, and is not v
  pub waits-accepted : (j w x : ℕ) → Edge p j w x → Waits S' w j → (v ≢ w) × Waits s w j
  waits-accepted j w x f h = upd-elim (λ y. y ≡ j → (v ≢ w) × Waits s w j) s.te v none w (λ z y. absurd (edge-some p f (sym y))) (λ n y. (n, (y, h.1))) h.0

  pub still : (j w : ℕ) → v ≢ w → Waits s w j → Waits S' w j
  still j w n h = (upd_other s.te v none w n ∙ h.0, h.1)

  -- no answer to another is touched
  other-answer : (j w x : ℕ) → Edge p j w x → v ≢ w → sum_l is_a (c' x j) ≡ sum_l is_a (s.ch x j)
  other-answer j w x f n = ap (sum_l is_a) (else_same s.ch u k r x j (by-eq k j
      (λ z. inl (λ y. n (other-end ends (flip f) y z))) (λ z. inr z)))

  -- no second answer to v
  no_more : {x : Msg} (j w : ℕ) → 1 ≤ is_a x → Edge p j w v → Waits s v j → ¬ In x (c' w j)
  no_more {x} j w o f h n =
      let z = waited j h in
      let y = ends_same (flip ends) (subst (λ a. Edge p a v w) (sym z) (flip f)) in
      let l : In x r = subst (λ a. In x a) (ap (λ a. c' a j) (sym y) ∙ ap (c' u) (sym z) ∙ here-new s.ch u k r) n in
      omega (arith, none_in is_a (rest-none i is_a ends q (λ a t. t)) l)

  -- ---- the groups

  pending' : Pending s.st S'.te s.fc s.ot (suc v)
  pending' = record {
    f2 = λ w h. by-eq v w (λ z. inr (inr (inr (ap suc z))))
        (λ n. ⊎_elim (λ c. inl c) (⊎_elim (λ c. inr (inl (λ z. c (sym (upd_other s.te v none w n) ∙ z)))) (⊎_elim (λ c. inr (inr (inl c))) (λ c. absurd (omega (arith, idle.1))))) (i.pending.f2 w h));
    f3t = λ w n. upd-elim (λ x. x ≡ none) s.te v none w (λ z. refl) (λ d. i.pending.f3t w n);
    f3c = i.pending.f3c;
    f5t = i.pending.f5t;
    f5p = λ w h. subst (λ x. s.st x ≡ 1) (omega arith) find;
  }

  tests' : Tests p S'.te s.ib s.mark s.ot
  tests' = record {
    e2o = λ w. upd-elim (λ x. x ≢ none → (y : ℕ) × Edge p x w y) s.te v none w (λ z n. absurd (n refl)) (λ d n. i.tests.e2o w n);
    e2b = λ j w x a y f h. i.tests.e2b j w x a y f (waits-accepted j w x f h).1;
    e2r = λ j w x f h. i.tests.e2r j w x f (waits-accepted j w x f h).1;
    e2i = λ j w x f h m. let t = i.tests.e2i j w x f (waits-accepted j w x f h).1 m in (t.0, upd-elim (λ y. y ≢ j) s.te v none x (λ z y. edge-some p f (sym y)) (λ d. t.1));
    m6 = λ j w x f m z. let t = i.tests.m6 j w x f m z in
        still j x (λ y. out j w x f m y t) t;
  }
    where
      -- nothing is Rejected beyond v's test edge, which leaves the fragment
      out : (j w x : ℕ) → Edge p j w x → s.mark w j ≡ 2 → v ≡ x → Waits s x j → ⊥
      out j w x f m y t =
          let z = waited j (subst (λ a. Waits s a j) (sym y) t) in
          let n = other-end (flip ends) (flip f) y z in
          said.a1f (ap s.fr n ∙ (i.markings.m1 j w x f m).0 ∙ ap s.fr (sym y))

  testing' : Testing p S'
  testing' = record {
    e1 = λ j w x l f g h. i.testing.e1 j w x l f g (old w j h);
    e1w = λ j w x l f g h. ⊎_elim
        (λ t. inl (still j w (λ z. tested j w z t.0 l f (old w j h)) t.0, t.1, t.2))
        (λ t. inr (gone j w x g t.0, t.1, still j x (λ z. crossed j w x g z t.2 t.3) t.2, t.3))
        (i.testing.e1w j w x l f g (old w j h));
    e2w = λ j w x g a c. let y = waits-accepted j w x g a in
        omega (arith, i.testing.e2w j w x g y.1 (waits-accepted j x w (flip g) c).1, same is_t refl w j, other-answer j w x g y.0);
    e2c = λ j w x g a c. let y = waits-accepted j w x g a in
        omega (arith, alone j w x g y.0 y.1 c, same is_t refl w j, same is_t refl x j, other-answer j w x g y.0);
    m6t = λ j w x g m z. same is_t refl x j ∙ i.testing.m6t j w x g m z;
  }
    where
      tested : (j w : ℕ) → v ≡ w → Waits s w j → (l f : ℕ) → In (test l f) (s.ch w j) → ⊥
      tested j w z h l f n =
          let y = waited j (subst (λ a. Waits s a j) (sym z) h) in
          omega (arith, none_in is_t own-test (subst (λ a. In (test l f) a) (ap (λ a. s.ch a j) (sym z) ∙ ap (s.ch v) (sym y)) n))

      crossed : (j w x : ℕ) → Edge p j w x → v ≡ x → Waits s x j → s.fr w ≡ s.fr x → ⊥
      crossed j w x g z h a =
          let y = waited j (subst (λ a. Waits s a j) (sym z) h) in
          let n = other-end (flip ends) (flip g) z y in
          said.a1f (ap s.fr n ∙ a ∙ ap s.fr (sym z))

      gone : (j w x : ℕ) → Edge p j w x → (s.te w ≢ j) ⊎ (s.ot ≡ suc w) → (S'.te w ≢ j) ⊎ (S'.ot ≡ suc w)
      gone j w x g = ⊎_elim (λ n. inl (upd-elim (λ y. y ≢ j) s.te v none w (λ z y. edge-some p g (sym y)) (λ d. n))) (λ o. inr o)

      -- one who waits across an edge of v: v waited on k only, and its Test is not there
      alone : (j w x : ℕ) → Edge p j w x → v ≢ w → Waits s w j → (S'.te x ≢ j) ⊎ (S'.ot ≡ suc x) → sum_l is_t (s.ch w j) + sum_l is_a (s.ch x j) + sum_l is_t (s.ch x j) ≡ 1
      alone j w x g n h c = by-eq v x
          (λ z. by-eq k j
          (λ y. omega (
            arith,
            i.testing.e2w j w x g h (subst (λ a. Waits s a j) z (subst (λ a. Waits s v a) y said.a1w)),
            own-test,
            ap (λ a. sum_l is_t (s.ch a j)) z,
            ap (λ a. sum_l is_t (s.ch v a)) y,
          ))
          (λ y. i.testing.e2c j w x g h (inl (λ o. y (waited j (subst (λ a. Waits s a j) (sym z) (o, λ t. omega (arith, idle.0))))))))
          (λ d. i.testing.e2c j w x g h (⊎_elim (λ o. inl (λ t. o (upd_other s.te v none x d ∙ t))) (λ o. inr o) c))

  answers' : Answers p S'
  answers' = record {
    a1 = λ j w x g h. let t = i.answers.a1 j w x g (old w j h) in
        record { a1w = still j x (λ z. mine j w x g z (t.a1w) (omega arith) h) (t.a1w); a1m = t.a1m; a1f = t.a1f; a1l = t.a1l };
    j1 = λ j w x g h. let t = i.answers.j1 j w x g (old w j h) in
        record { j1w = still j x (λ z. mine j w x g z (t.j1w) (omega arith) h) (t.j1w); j1f = t.j1f; j1m = t.j1m };
  }
    where
      mine : {m : Msg} (j w x : ℕ) → Edge p j w x → v ≡ x → Waits s x j → 1 ≤ is_a m → In m (c' w j) → ⊥
      mine j w x g z h o n = no_more j w o (subst (λ a. Edge p j w a) (sym z) g) (subst (λ a. Waits s a j) (sym z) h) n

  -- no Report goes
  rep : (w j : ℕ) → sum_l is_r (c' w j) ≡ sum_l is_r (s.ch w j)
  rep = same is_r refl

  fewer : (w j : ℕ) → sum_l is_r (c' w j) ≤ sum_l is_r (s.ch w j)
  fewer w j = omega (arith, rep w j)

  bests' : Bests p S'
  bests' = record {
    b1e = W.best-edge i idle.2 find (flip ends) better leaves c' fewer (λ n d. absurd (d refl));
    b2 = λ j w x g m d l. ⊎_elim (λ t. inl t)
        (⊎_elim (λ o. inr (inl o))
        (⊎_elim (λ t. inr (inr (asked j w t))) (λ t. inr (inr (inr (cover w (rank p j) t))))))
        (i.bests.b2 j w x g m d l);
  }
    where
      -- v's test edge was k
      asked : (j w : ℕ) → (s.te w ≢ none) × (key p (s.te w) ≤ rank p j) → ((S'.te w ≢ none) × (key p (S'.te w) ≤ rank p j)) ⊎ Covered p S' w (rank p j)
      asked j w t = by-eq v w
          (λ z. inr (W.mine i idle.2 find (flip ends) better leaves c' fewer w (rank p j) (ap s.fr z) best-some
          (omega (arith, best-k, ap (key p) said.a1w.0, ap (λ a. key p (s.te a)) z, t.1))))
          (λ d. inl (subst (λ y. (y ≢ none) × (key p y ≤ rank p j)) (sym (upd_other s.te v none w d)) t))

      cover : (w n : ℕ) → Covered p s w n → Covered p S' w n
      cover w n t = W.cover i idle.2 find (flip ends) better leaves c' fewer w n t (λ d. inr (counting-to p s c' rep t.0 t.4))

  abbrev s₁ : ProtocolState
  s₁ = set-ch s c'

  pub inv-accepted : Inv p S'
  inv-accepted = W.inv-weighed i idle.2 find (flip ends) better leaves S'.te s.fc s.owe (suc v) c' pending' i.find_counts tests'
      (flow-open p (rated p s₁ S'.bw S'.be) S'.te S'.be s.fc s.ot (suc v) s.oo
      (flow-best p s₁ S'.bw S'.be (W.bw-found i idle.2 find (flip ends) better leaves) (flow-take p s u k q plain-accept (flow i))))
      testing' answers' bests'
