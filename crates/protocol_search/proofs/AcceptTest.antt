-- Test (l, f) from u at v over k, of another fragment: v answers Accept (`inv-accept-test`).
use Rattle.protocol.proofs.Prelude.{ℕ, ◌+◌, ◌≤◌, arith, ◌≡◌, refl, sym, ap, subst, ◌∙◌, ◌≢◌, inl, ⊎_elim}
use Rattle.protocol.proofs.Prelude.{List, ◌∷◌, upd2, by-eq, sum_l}
use Rattle.protocol.proofs.Prelude.{Msg, test, accept}
use Rattle.protocol.proofs.Prelude.{Network, Edge, flip, ends_same, other-end, ProtocolState, Idle, set-ch, send_over, pop}
use Rattle.protocol.proofs.Prelude.{is_t, is_a, is_r, fits-accept, In, in_sum, pop-head, pop-in, pop-sum, pop-le, none_in}
use Rattle.protocol.proofs.Prelude.{snoc, snoc-in, snoc_old, kinds, snoc-sum, Waits, Inv, inf-awake}
use Rattle.protocol.proofs.Prelude.{plain-test, plain-accept, post-before, bests-same, flow, inv-passing, flow-take, flow-post}
use Rattle.protocol.specs.Traffic.{AcceptOk, Testing, Answers}
pub use Rattle.protocol_search.proofs.Tester.{tester-inf, tester-apart}
use Rattle.protocol_search.proofs.Answer.{even, crossed}

module _ {p : Network} {s : ProtocolState} (i : Inv p s) {u v k l f : ℕ} {r : List Msg} (idle : Idle s) (ends : Edge p k u v) (awake : s.st v ≢ 0) (q : s.ch u k ≡ test l f ∷ r)
    (low : l ≤ s.lev v) (differ : s.id v ≢ f) where
  abbrev c₁ : ℕ → ℕ → List Msg
  c₁ = upd2 s.ch u k r

  abbrev s₁ : ProtocolState
  s₁ = set-ch s c₁

  abbrev c' : ℕ → ℕ → List Msg
  c' = snoc c₁ v k accept

  abbrev S' : ProtocolState
  S' = send_over (pop s u k r) v k accept

  head : In (test l f) (s.ch u k)
  head = pop-head s.ch u k q

  apart : s.fr u ≢ s.fr v
  apart = tester-apart i idle ends awake q low differ

  pub waits-accept : Waits s u k
  waits-accept = ⊎_elim (λ t. t.0) (λ t. absurd (apart t.3)) (i.testing.e1w k u v l f ends head)

  basic : s.mark u k ≡ 0
  basic = ⊎_elim
      (λ t. by-eq (s.mark u k) 0 (λ z. z)
      (λ n. let o : s.mark u k ≡ 1 = omega (arith, i.ranges.mark-le u k, t.1) in absurd (apart (i.markings.m3 k u v ends (o, t.2 o)))))
      (λ t. absurd (apart t.3)) (i.testing.e1w k u v l f ends head)

  -- of u's Test, an answer to it and a Test of v that crossed it just one is under way (e2c): this Test
  one : 1 ≤ sum_l is_t (s.ch u k)
  one = in_sum is_t head

  pub unanswered : sum_l is_a (s.ch v k) ≡ 0
  unanswered = by-eq (s.te v) k
      (λ z. omega (arith, i.testing.e2w k u v ends waits-accept (z, λ o. omega (arith, idle.0)), one))
      (λ z. omega (arith, i.testing.e2c k u v ends waits-accept (inl z), one))

  -- ---- the new channels

  old : {x : Msg} (g : Msg → ℕ) → g accept ≡ 0 → 1 ≤ g x → (w j : ℕ) → In x (c' w j) → In x (s.ch w j)
  old g z o w j h = pop-in s.ch u k q w j (post-before p s₁ v k plain-accept g z o w j h)

  level : (j w x : ℕ) → Edge p j w x → sum_l is_t (c' w j) + sum_l is_a (c' x j) ≡ sum_l is_t (s.ch w j) + sum_l is_a (s.ch x j)
  level = even p s ends q accept refl refl

  testing' : Testing p S'
  testing' = record {
    e1 = λ j w x a b e h. i.testing.e1 j w x a b e (old is_t refl (omega arith) w j h);
    e1w = λ j w x a b e h. i.testing.e1w j w x a b e (old is_t refl (omega arith) w j h);
    e2w = λ j w x e a b. level j w x e ∙ i.testing.e2w j w x e a b;
    e2c = λ j w x e a b. omega (arith, level j w x e, i.testing.e2c j w x e a b, crossed p s ends q accept refl refl idle waits-accept.0 j x b);
    m6t = λ j w x e m z. omega (arith, snoc-sum c₁ v k accept is_t refl x j, pop-le s.ch u k q is_t x j, i.testing.m6t j w x e m z);
  }

  answers' : Answers p S'
  answers' = record {
    a1 = λ j w x e h. ⊎_elim (λ o. i.answers.a1 j w x e (pop-in s.ch u k q w j o))
        (λ t. let n = other-end (flip ends) e t.0 t.1 in
        subst (λ a. AcceptOk s.te s.fr s.lev s.mark s.ot j w a) n
        (subst (λ a. AcceptOk s.te s.fr s.lev s.mark s.ot j a u) t.0
        (subst (λ a. AcceptOk s.te s.fr s.lev s.mark s.ot a v u) t.1 fresh)))
        (snoc-in c₁ v k accept w j h);
    j1 = λ j w x e h. i.answers.j1 j w x e (pop-in s.ch u k q w j (snoc_old c₁ v k accept w j (kinds (λ z. omega arith)) h));
  }
    where
      fresh : AcceptOk s.te s.fr s.lev s.mark s.ot k v u
      fresh = record { a1w = waits-accept; a1m = basic; a1f = λ z. apart (sym z); a1l = omega (arith, (i.testing.e1 k u v l f ends head).0) }

  pub inv-accept-test : Inv p S'
  inv-accept-test = inv-passing i c'
      (flow-post p s₁ v k plain-accept awake (λ x e z. absurd (inf-awake i u (tester-inf i idle ends awake q low differ) (ap s.st (ends_same (flip ends) e) ∙ z))) (λ h. tt)
      (λ x h. fits-accept x (none_in is_a unanswered (pop-in s.ch u k q v k h))) (flow-take p s u k q (plain-test l f) (flow i)))
      testing' answers' (bests-same p s c' (λ w j. snoc-sum c₁ v k accept is_r refl w j ∙ pop-sum s.ch u k q is_r refl w j) i.bests)
