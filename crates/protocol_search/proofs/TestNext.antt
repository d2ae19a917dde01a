-- Procedure test with k the earliest Basic edge of v: v sends Test over k (`inv-test-next`).
use Rattle.protocol.proofs.Prelude.{ℕ, suc, ◌+◌, ◌≤◌, arith, ◌≡◌, refl, sym, ap, subst, ◌∙◌, ◌≢◌, ◌⊎◌, inl, inr, ⊎_elim}
use Rattle.protocol.proofs.Prelude.{List, upd, upd-elim, upd_same, upd_other, by-eq, sum_l}
use Rattle.protocol.proofs.Prelude.{Msg, none, test}
use Rattle.protocol.proofs.Prelude.{Network, Edge, key, rank, flip, ends_same, ends-irr, ends-key, edge-some, ProtocolState, FirstBasic, set-te, set-ot, set-ch, send_over}
use Rattle.protocol.proofs.Prelude.{is_t, is_a, is_r, arg1, arg2, fits-test, snoc, snoc-in, snoc-sum, snoc-here, snoc-else, no-tests, none_in}
use Rattle.protocol.proofs.Prelude.{Inf, Waits, Inv, no_answer}
use Rattle.protocol.proofs.Prelude.{Plain, plain-test, post-before, bests-same, covered-to, flow, inv-asking, flow-open, flow-post}
use Rattle.protocol.specs.Search.{Pending, Tests}
use Rattle.protocol.specs.Traffic.{Testing, Answers, Bests}

module _ {p : Network} {s : ProtocolState} (i : Inv p s) {v k u : ℕ} (ot : s.ot ≡ suc v) (op : s.op ≡ 0) (oo : s.oo ≡ 0) (ends : Edge p k v u) (least : FirstBasic p s v k) where
  abbrev m : Msg
  m = test (s.lev v) (s.id v)

  abbrev S' : ProtocolState
  S' = set-ot (set-te (send_over s v k m) (upd s.te v k)) 0

  abbrev c' : ℕ → ℕ → List Msg
  c' = snoc s.ch v k m

  plain : Plain m
  plain = plain-test (s.lev v) (s.id v)

  pub find : s.st v ≡ 1
  find = i.pending.f5t v ot

  v≢u : v ≢ u
  v≢u = ends-irr p ends

  same : (f : Msg → ℕ) → f m ≡ 0 → (w j : ℕ) → sum_l f (c' w j) ≡ sum_l f (s.ch w j)
  same f z w j = snoc-sum s.ch v k m f z w j

  -- another channel is the same list
  off : (w j : ℕ) → (v ≢ w) ⊎ (k ≢ j) → sum_l is_t (c' w j) ≡ sum_l is_t (s.ch w j)
  off w j n = ap (sum_l is_t) (snoc-else s.ch v k m w j n)

  -- v waits for nothing before, so no answer is on its way to it
  no-wait : (j : ℕ) → ¬ Waits s v j
  no-wait j h = h.1 ot

  no-ans : (j w : ℕ) → Edge p j w v → sum_l is_a (s.ch w j) ≡ 0
  no-ans j w e = no_answer i j w v e (no-wait j)

  -- a Test from v crossed, and its edge is Rejected
  pub own-test : sum_l is_t (s.ch v k) ≡ 0
  own-test = no-tests (s.ch v k) (λ l f h. ⊎_elim (λ t. no-wait k t.0) (λ t. omega (arith, t.1, least.0)) (i.testing.e1w k v u l f ends h))

  -- a Test to v over k is from one who waits
  pub their-test : s.te u ≢ k → sum_l is_t (s.ch u k) ≡ 0
  their-test n = no-tests (s.ch u k) (λ l f h. ⊎_elim (λ t. n t.0.0) (λ t. no-wait k t.2) (i.testing.e1w k u v l f (flip ends) h))

  -- who waits now: v on k, or another that waited
  pub waits-next {κ} : {C : Type κ} (j w : ℕ) → Waits S' w j → (v ≡ w → k ≡ j → C) → (v ≢ w → Waits s w j → C) → C
  waits-next {C} j w h y n = by-eq v w
      (λ q. y q (sym (upd_same s.te v k) ∙ ap (upd s.te v k) q ∙ h.0))
      (λ d. n d (sym (upd_other s.te v k w d) ∙ h.0, λ o. d (omega arith)))

  pub still : (j w : ℕ) → Waits s w j → Waits S' w j
  still j w h = (upd_other s.te v k w (λ q. h.1 (ot ∙ ap suc q)) ∙ h.0, λ z. omega arith)

  pub now : Waits S' v k
  now = (upd_same s.te v k, λ z. omega arith)

  pending' : Pending s.st S'.te s.fc 0 s.op
  pending' = record {
    f2 = λ w h. by-eq v w (λ q. inr (inl (λ z. edge-some p ends (sym (upd_same s.te v k) ∙ ap (upd s.te v k) q ∙ z))))
        (λ n. ⊎_elim (λ c. inl c) (⊎_elim (λ c. inr (inl (λ z. c (sym (upd_other s.te v k w n) ∙ z)))) (⊎_elim (λ c. absurd (n (omega arith))) (λ c. absurd (omega arith)))) (i.pending.f2 w h));
    f3t = λ w n. upd-elim (λ x. x ≡ none) s.te v k w (λ q. absurd (n (sym (ap s.st q) ∙ find))) (λ d. i.pending.f3t w n);
    f3c = i.pending.f3c;
    f5t = λ w h. absurd (omega arith);
    f5p = i.pending.f5p;
  }

  tests' : Tests p S'.te s.ib s.mark 0
  tests' = record {
    e2o = λ w. upd-elim (λ x. x ≢ none → (y : ℕ) × Edge p x w y) s.te v k w (λ q n. (u, subst (λ x. Edge p k x u) q ends)) (λ d n. i.tests.e2o w n);
    e2b = λ j w x h y e a f g. waits-next j w a
        (λ q z. subst (λ n. rank p n ≤ rank p h) z (least.1 h y (subst (λ n. Edge p h n y) (sym q) f) (subst (λ n. s.mark n h ≡ 0) (sym q) g)))
        (λ n z. i.tests.e2b j w x h y e z f g);
    e2r = λ j w x e a. waits-next j w a (λ q z b. omega (arith, least.0, ap (λ n. s.mark n j) q, ap (s.mark v) z)) (λ n z. i.tests.e2r j w x e z);
    e2i = λ j w x e a b. waits-next j w a
        (λ q z. absurd (omega (arith, least.0, ap (λ n. s.mark n j) q, ap (s.mark v) z, b.0)))
        (λ n z. let t = i.tests.e2i j w x e z b in
        (t.0, upd-elim (λ y. y ≢ j) s.te v k x (λ q r. omega (arith, least.0, ap (λ n. s.mark n j) q, ap (s.mark v) r, b.1)) (λ d. t.1)));
    m6 = λ j w x e h z. still j x (i.tests.m6 j w x e h z);
  }

  testing' : Testing p S'
  testing' = record {
    e1 = λ j w x l f e h. ⊎_elim (λ o. i.testing.e1 j w x l f e o)
        (λ t. let a = ap arg1 t.2 in let b = ap arg2 t.2 in
        (ap s.lev (sym t.0) ∙ sym a, ap s.id (sym t.0) ∙ sym b, subst (λ y. Inf s y) t.0 (i.finds.f1 v find).f1i))
        (snoc-in s.ch v k m w j h);
    e1w = λ j w x l f e h. ⊎_elim
        (λ o. ⊎_elim (λ t. inl (still j w t.0, t.1, t.2)) (λ t. inr (crossed j w t.0 t.1, t.1, still j x t.2, t.3)) (i.testing.e1w j w x l f e o))
        (λ t. inl (
          subst (λ y. Waits S' y j) t.0 (subst (λ y. Waits S' v y) t.1 now),
          λ z. omega (arith, least.0, ap (λ n. s.mark n j) t.0, ap (s.mark v) t.1),
          λ z. absurd (omega (arith, least.0, ap (λ n. s.mark n j) t.0, ap (s.mark v) t.1)),
        ))
        (snoc-in s.ch v k m w j h);
    e2w = λ j w x e a b. waits-next j w a
        (λ q z. at-v j w x e q z)
        (λ n y. waits-next j x b
        (λ q z. let f = subst (λ r. Edge p r v w) (sym z) (subst (λ r. Edge p j r w) (sym q) (flip e)) in
        let t = i.testing.e2c j w x e y (inr (ot ∙ ap suc q)) in
        omega (arith, t, off w j (inl n), same is_a refl x j, ap (λ r. sum_l is_t (s.ch r j)) q, ap (λ r. sum_l is_t (s.ch v r)) z, own-test))
        (λ d z. omega (arith, i.testing.e2w j w x e y z, off w j (inl n), same is_a refl x j)));
    e2c = λ j w x e a b. waits-next j w a
        (λ q z. let f = subst (λ r. Edge p r v x) (sym z) (subst (λ r. Edge p j r x) (sym q) e) in
        let y = ends_same ends f in
        omega (
          arith,
          at-v j w x e q z,
          off x j (inl (λ r. v≢u (r ∙ sym y))),
          their-test (λ r. ⊎_elim (λ n. n (upd_other s.te v k x (λ r. v≢u (r ∙ sym y)) ∙ sym (ap s.te y) ∙ r ∙ z)) (λ o. omega arith) b),
          ap (λ r. sum_l is_t (s.ch r j)) y,
          ap (λ r. sum_l is_t (s.ch u r)) z,
        ))
        (λ n y. by-eq v x
        (λ q. let d : k ≢ j = λ z. ⊎_elim (λ r. r (sym (ap (upd s.te v k) q) ∙ upd_same s.te v k ∙ z)) (λ o. omega arith) b in
        omega (arith, i.testing.e2c j w x e y (inr (ot ∙ ap suc q)), off w j (inl n), off x j (inr d), same is_a refl x j))
        (λ d. omega (
          arith,
          i.testing.e2c j w x e y (inl (λ z. ⊎_elim (λ r. r (upd_other s.te v k x d ∙ z)) (λ o. omega arith) b)),
          off w j (inl n),
          off x j (inl d),
          same is_a refl x j,
        )));
    m6t = λ j w x e a b. by-eq v x
        (λ q. by-eq k j (λ z. absurd (no-wait j (subst (λ r. Waits s r j) (sym q) (i.tests.m6 j w x e a b)))) (λ z. off x j (inr z) ∙ i.testing.m6t j w x e a b))
        (λ d. off x j (inl d) ∙ i.testing.m6t j w x e a b);
  }
    where
      crossed : (j w : ℕ) → (s.te w ≢ j) ⊎ (s.ot ≡ suc w) → s.mark w j ≡ 2 → (S'.te w ≢ j) ⊎ (S'.ot ≡ suc w)
      crossed j w h r = inl (upd-elim (λ y. y ≢ j) s.te v k w
          (λ q z. omega (arith, r, least.0, ap (λ n. s.mark n j) q, ap (s.mark v) z))
          (λ d. ⊎_elim (λ n. n) (λ o. absurd (d (omega arith))) h))

      -- at v on k: its Test is there, and no answer
      at-v : (j w x : ℕ) → Edge p j w x → v ≡ w → k ≡ j → sum_l is_t (c' w j) + sum_l is_a (c' x j) ≡ 1
      at-v j w x e q z = omega (
        arith,
        ap (λ r. sum_l is_t (c' r j)) q,
        ap (λ r. sum_l is_t (c' v r)) z,
        snoc-here s.ch v k m is_t,
        own-test,
        same is_a refl x j,
        no-ans j x (subst (λ r. Edge p j x r) (sym q) (flip e)),
      )

  answers' : Answers p S'
  answers' = record {
    a1 = λ j w x e h. let t = i.answers.a1 j w x e (post-before p s v k plain is_a refl (omega arith) w j h) in record { a1w = still j x (t.a1w); a1m = t.a1m; a1f = t.a1f; a1l = t.a1l };
    j1 = λ j w x e h. let t = i.answers.j1 j w x e (post-before p s v k plain is_a refl (omega arith) w j h) in record { j1w = still j x (t.j1w); j1f = t.j1f; j1m = t.j1m };
  }

  bests' : Bests p S'
  bests' = record {
    b1e = (bests-same p s c' (same is_r refl) i.bests).b1e;
    b2 = λ j w x e a d g. by-eq v w
        (λ q. inr (inr (inl (subst (λ y. (y ≢ none) × (key p y ≤ rank p j)) (sym (sym (ap (upd s.te v k) q) ∙ upd_same s.te v k))
        (edge-some p ends, omega (arith, ends-key p ends, least.1 j x (subst (λ r. Edge p j r x) (sym q) e) (subst (λ r. s.mark r j ≡ 0) (sym q) a)))))))
        (λ n. ⊎_elim (λ t. inl t)
        (⊎_elim (λ o. absurd (n (omega arith)))
        (⊎_elim (λ t. inr (inr (inl (subst (λ y. (y ≢ none) × (key p y ≤ rank p j)) (sym (upd_other s.te v k w n)) t))))
        (λ t. inr (inr (inr (covered-to p s c' (same is_r refl) w (rank p j) t))))))
        (i.bests.b2 j w x e a d g));
  }

  pub inv-test-next : Inv p S'
  inv-test-next = inv-asking i S'.te 0 s.op c' pending' tests'
      (flow-open p (set-ch s c') S'.te s.be s.fc 0 s.op s.oo
      (flow-post p s v k plain (λ z. omega (arith, find)) (λ x e z. tt) (λ h. absurd (omega (arith, (i.halves.d1 k v u ends h).d1m, least.0)))
      (λ x h. fits-test (s.lev v) (s.id v) x (none_in is_t own-test h)) (flow i)))
      testing' answers' bests'
