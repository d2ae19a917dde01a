-- Test of v's own fragment from u, over k that is not v's test edge: the mark is struck, v answers Reject (`inv-reject-test`).
use Rattle.protocol.proofs.Prelude.{ℕ, ◌+◌, ◌≤◌, arith, ◌≡◌, refl, sym, ap, subst, ◌∙◌, ◌≢◌, ◌⊎◌, inl, inr, ⊎_elim}
use Rattle.protocol.proofs.Prelude.{List, ◌∷◌, upd2, upd2-elim, by-eq, sum_l}
use Rattle.protocol.proofs.Prelude.{Msg, test, reject}
use Rattle.protocol.proofs.Prelude.{Network, Edge, flip, ends_same, other-end, ProtocolState, Idle, Strike, set-ch, send_over, pop, remarked}
use Rattle.protocol.proofs.Prelude.{is_t, is_a, is_r, fits-reject, kinds, In, in_sum, pop-head, pop-in, pop-sum, pop-le, none_in, no-tests}
use Rattle.protocol.proofs.Prelude.{snoc, snoc-in, snoc_old, snoc-sum, Waits, Inv, inf-awake}
use Rattle.protocol.proofs.Prelude.{plain-test, plain-reject, post-before, bests-same, flow, flow-take, flow-post}
use Rattle.protocol.specs.Search.{Tests}
use Rattle.protocol.specs.Traffic.{RejectOk, Testing, Answers, Bests}
use Rattle.protocol_search.proofs.Own.{inf-tester, tester-inside, branch-v, branch-u}
use Rattle.protocol_search.proofs.Answer.{tests-here, even, crossed}
use Rattle.protocol_search.proofs.Strike.{struck, up1-strike, up2-strike, up0-strike, dn0-strike, dn1-strike, dn2-strike, up-both-strike, dn-both-strike, flow-strike, inv-strike}

module _ {p : Network} {s : ProtocolState} (i : Inv p s) {u v k l f c : ℕ} {r : List Msg} (idle : Idle s) (ends : Edge p k u v) (awake : s.st v ≢ 0) (q : s.ch u k ≡ test l f ∷ r)
    (low : l ≤ s.lev v) (same : s.id v ≡ f) (other : s.te v ≢ k) (strike : Strike s v k c) where
  abbrev c₁ : ℕ → ℕ → List Msg
  c₁ = upd2 s.ch u k r

  abbrev c' : ℕ → ℕ → List Msg
  c' = snoc c₁ v k reject

  abbrev m' : ℕ → ℕ → ℕ
  m' = struck p s v k c strike

  abbrev s₁ : ProtocolState
  s₁ = set-ch s c₁

  abbrev s₂ : ProtocolState
  s₂ = set-ch s c'

  abbrev S' : ProtocolState
  S' = send_over (remarked (pop s u k r) v k c) v k reject

  head : In (test l f) (s.ch u k)
  head = pop-head s.ch u k q

  pub one : 1 ≤ sum_l is_t (s.ch u k)
  one = in_sum is_t head

  within : s.fr v ≡ s.fr u
  within = sym (tester-inside i ends head low same)

  not-waiting : (j w : ℕ) → v ≡ w → k ≡ j → ¬ Waits s w j
  not-waiting j w a b h = other (ap s.te a ∙ h.0 ∙ sym b)

  -- u waits for the answer, and is not Rejected
  pub waits-reject : Waits s u k
  waits-reject = ⊎_elim (λ t. t.0) (λ t. absurd (other t.2.0)) (i.testing.e1w k u v l f ends head)

  open-u : s.mark u k ≢ 2
  open-u = ⊎_elim (λ t. t.1) (λ t. absurd (other t.2.0)) (i.testing.e1w k u v l f ends head)

  -- both are Basic, or k is joined
  free : s.mark v k ≡ 0 → s.mark u k ≢ 1
  free z o = omega (arith, branch-u i ends head low same o)

  pub open-v : s.mark v k ≢ 2
  open-v z =
      let o : s.mark u k ≡ 0 = omega (arith, i.ranges.mark-le u k, open-u, (i.markings.m1 k v u (flip ends) z).1) in
      omega (arith, one, i.testing.m6t k v u (flip ends) z o)

  basic : s.mark u k ≡ 0 → c ≡ 2
  basic z = ⊎_elim (λ t. t.1)
      (λ t. absurd (omega (arith, branch-v i ends head low same (omega (arith, i.ranges.mark-le v k, open-v, t.0))))) strike

  -- of u's Test, an answer to it and a Test of v that crossed it just one is under way (e2c): this Test; v has sent none over k
  pub no_own : sum_l is_t (s.ch v k) ≡ 0
  no_own = no-tests (s.ch v k) (λ a b h. ⊎_elim (λ t. other t.0.0) (λ t. open-v t.1) (i.testing.e1w k v u a b (flip ends) h))

  pub alone : sum_l is_t (s.ch u k) + sum_l is_a (s.ch v k) + sum_l is_t (s.ch v k) ≡ 1
  alone = i.testing.e2c k u v ends waits-reject (inl other)

  pub unanswered : sum_l is_a (s.ch v k) ≡ 0
  unanswered = omega (arith, alone, one)

  old : {x : Msg} (g : Msg → ℕ) → g reject ≡ 0 → 1 ≤ g x → (w j : ℕ) → In x (c' w j) → In x (s.ch w j)
  old g z o w j h = pop-in s.ch u k q w j (post-before p s₁ v k plain-reject g z o w j h)

  rep : (w j : ℕ) → sum_l is_r (c' w j) ≡ sum_l is_r (s.ch w j)
  rep w j = snoc-sum c₁ v k reject is_r refl w j ∙ pop-sum s.ch u k q is_r refl w j

  tests' : Tests p s.te s.ib m' s.ot
  tests' = record {
    e2o = i.tests.e2o;
    e2b = λ j w x a y e b g z. i.tests.e2b j w x a y e b g (dn0-strike p s v k c strike w a z);
    e2r = λ j w x e b z. ⊎_elim (λ o. i.tests.e2r j w x e b o) (λ o. not-waiting j w o.0 o.1 b) (dn2-strike p s v k c strike w j z);
    e2i = λ j w x e b d. i.tests.e2i j w x e b (dn-both-strike p s v k c strike j w x d);
    m6 = λ j w x e a b. ⊎_elim (λ o. i.tests.m6 j w x e o (dn0-strike p s v k c strike x j b))
        (λ o. subst (λ y. Waits s y j) (other-end (flip ends) e o.0 o.1) (subst (λ y. Waits s u y) o.1 waits-reject)) (dn2-strike p s v k c strike w j a);
  }

  testing' : Testing p S'
  testing' = record {
    e1 = λ j w x a b e h. i.testing.e1 j w x a b e (old is_t refl (omega arith) w j h);
    e1w = λ j w x a b e h. ⊎_elim
        (λ t. inl (
          t.0,
          λ z. ⊎_elim (λ o. t.1 o) (λ o. not-waiting j w o.0 o.1 t.0) (dn2-strike p s v k c strike w j z),
          λ z. up1-strike p s v k c strike x j (t.2 (dn1-strike p s v k c strike w j z)),
        ))
        (λ t. inr (t.0, up2-strike p s v k c strike w j t.1, t.2, t.3))
        (i.testing.e1w j w x a b e (old is_t refl (omega arith) w j h));
    e2w = λ j w x e a b. level j w x e ∙ i.testing.e2w j w x e a b;
    e2c = λ j w x e a b. omega (arith, level j w x e, i.testing.e2c j w x e a b, crossed p s ends q reject refl refl idle waits-reject.0 j x b);
    m6t = λ j w x e a b. ⊎_elim
        (λ o. omega (arith, snoc-sum c₁ v k reject is_t refl x j, pop-le s.ch u k q is_t x j, i.testing.m6t j w x e o (dn0-strike p s v k c strike x j b)))
        (λ o. omega (
          arith,
          tests-here p s ends q reject refl refl,
          alone,
          ap (λ y. sum_l is_t (c' y j)) (other-end (flip ends) e o.0 o.1),
          ap (λ y. sum_l is_t (c' u y)) o.1,
        ))
        (dn2-strike p s v k c strike w j a);
  }
    where
      level : (j w x : ℕ) → Edge p j w x → sum_l is_t (c' w j) + sum_l is_a (c' x j) ≡ sum_l is_t (s.ch w j) + sum_l is_a (s.ch x j)
      level = even p s ends q reject refl refl

  answers' : Answers p S'
  answers' = record {
    a1 = λ j w x e h. let t = i.answers.a1 j w x e (pop-in s.ch u k q w j (snoc_old c₁ v k reject w j (kinds (λ z. omega arith)) h)) in
        record { a1w = t.a1w; a1m = up0-strike p s v k c strike x j (apart j x (t.a1w)) (t.a1m); a1f = t.a1f; a1l = t.a1l };
    j1 = λ j w x e h. ⊎_elim
        (λ o. let t = i.answers.j1 j w x e (pop-in s.ch u k q w j o) in
        record { j1w = t.j1w; j1f = t.j1f; j1m = λ z. up2-strike p s v k c strike w j (t.j1m (dn0-strike p s v k c strike x j z)) })
        (λ t. let n = other-end (flip ends) e t.0 t.1 in
        subst (λ a. RejectOk s.te s.fr m' s.ot j w a) n
        (subst (λ a. RejectOk s.te s.fr m' s.ot j a u) t.0 (subst (λ a. RejectOk s.te s.fr m' s.ot a v u) t.1 fresh)))
        (snoc-in c₁ v k reject w j h);
  }
    where
      -- who waits is not v on k
      apart : (j x : ℕ) → Waits s x j → (v ≢ x) ⊎ (k ≢ j)
      apart j x h = by-eq v x (λ a. inr (λ b. not-waiting j x a b h)) (λ a. inl a)

      fresh : RejectOk s.te s.fr m' s.ot k v u
      fresh = record {
        j1w = waits-reject;
        j1f = within;
        j1m = λ z. upd2-elim (λ x. x ≡ 2) s.mark v k c v k (λ a b. basic (dn0-strike p s v k c strike u k z)) (λ n. absurd (⊎_elim (λ g. g refl) (λ g. g refl) n));
      }

  bests' : Bests p S'
  bests' = record {
    b1e = λ w a n d. let t = o.b1e w a n d in (t.0, t.1, up-both-strike p s v k c strike (s.be w) w t.0 t.2, t.3, t.4, t.5, t.6, t.7, t.8);
    b2 = λ j w x e a d g. o.b2 j w x e (dn0-strike p s v k c strike w j a) d g;
  }
    where
      o : Bests p s₂
      o = bests-same p s c' rep i.bests

  pub inv-reject-test : Inv p S'
  inv-reject-test = inv-strike i (flip ends) strike awake within free s.ot c' i.pending tests'
      (flow-strike p s₂ v k c strike
      (flow-post p s₁ v k plain-reject awake (λ x e z. absurd (inf-awake i u (inf-tester i ends head low same) (ap s.st (ends_same (flip ends) e) ∙ z))) (λ h. tt)
      (λ x h. fits-reject x (none_in is_a unanswered (pop-in s.ch u k q v k h))) (flow-take p s u k q (plain-test l f) (flow i))))
      testing' answers' bests'
