-- Test of v's own fragment from u, over v's own test edge k: the mark is struck, procedure test comes next (`inv-crossed-test`).
use Rattle.protocol.proofs.Prelude.{ℕ, suc, ◌≤◌, arith, ◌≡◌, sym, ap, ◌≢◌, ◌⊎◌, inl, inr, ⊎_elim}
use Rattle.protocol.proofs.Prelude.{List, ◌∷◌, by-eq, sum_l, Msg, test, Network, Edge, flip, ProtocolState, Idle, Strike, set-ot, remarked, pop}
use Rattle.protocol.proofs.Prelude.{is_t, is_a, In, in_sum, pop-head, no-answers, Waits, Inv, rest-none, plain-test}
use Rattle.protocol_search.proofs.Own.{tester-inside, branch-v, branch-u}
use Rattle.protocol_search.proofs.Again.{inv-again}

module _ {p : Network} {s : ProtocolState} (i : Inv p s) {u v k l f c : ℕ} {r : List Msg} (idle : Idle s) (ends : Edge p k u v) (awake : s.st v ≢ 0) (q : s.ch u k ≡ test l f ∷ r)
    (low : l ≤ s.lev v) (same : s.id v ≡ f) (edge : s.te v ≡ k) (strike : Strike s v k c) where
  head : In (test l f) (s.ch u k)
  head = pop-head s.ch u k q

  pub wait : Waits s v k
  wait = (edge, λ o. omega (arith, idle.0))

  within : s.fr u ≡ s.fr v
  within = tester-inside i ends head low same

  -- u waits on k too and is not Rejected, or it crossed and is Rejected at u
  abbrev Meets : Type 0
  Meets = (Waits s u k × (s.mark u k ≢ 2)) ⊎ ((s.te u ≢ k) × (s.mark u k ≡ 2))

  pub crossed-meets : Meets
  crossed-meets = ⊎_elim (λ t. inl (t.0, t.1)) (λ t. inr (⊎_elim (λ n. n) (λ o. absurd (omega (arith, idle.0))) t.0, t.1)) (i.testing.e1w k u v l f ends head)

  -- so k is Basic at v: joined it would not be both their test edges
  pub crossed-basic : s.mark v k ≡ 0
  crossed-basic = by-eq (s.mark v k) 0 (λ z. z)
      (λ n.
      let o : s.mark v k ≡ 1 = omega (arith, i.ranges.mark-le v k, i.tests.e2r k v u (flip ends) wait) in
      let b = branch-v i ends head low same o in
      absurd (⊎_elim (λ t. (i.tests.e2i k v u (flip ends) wait (o, b)).1 t.0.0) (λ t. omega (arith, t.1)) crossed-meets))

  pub one : 1 ≤ sum_l is_t (s.ch u k)
  one = in_sum is_t head

  -- no answer is on its way to v
  pub unanswered : sum_l is_a (s.ch u k) ≡ 0
  unanswered = ⊎_elim
      (λ t. no-answers (s.ch u k) (λ n. (i.answers.a1 k u v ends n).a1f within) (λ n. t.1 ((i.answers.j1 k u v ends n).j1m crossed-basic)))
      (λ t. omega (arith, i.testing.e2c k v u (flip ends) wait (inl t.0), one)) crossed-meets

  struck-to : c ≡ 2
  struck-to = ⊎_elim (λ t. t.1) (λ t. absurd (t.0 crossed-basic)) strike

  pub inv-crossed-test : Inv p (set-ot (remarked (pop s u k r) v k c) (suc v))
  inv-crossed-test = inv-again i (record {
    idle = idle;
    ends = ends;
    took = q;
    plain = plain-test l f;
    strike = strike;
    wait = wait;
    inside = sym within;
    free = λ z o. ⊎_elim (λ t. free o t.1) (λ t. omega (arith, t.1)) crossed-meets;
    asks = λ z o. ⊎_elim (λ t. t.0) (λ t. absurd (omega (arith, t.1))) crossed-meets;
    no_test = rest-none i is_t ends q (λ n t. t);
    no_answer = omega (arith, unanswered, ap (sum_l is_a) q);
    own = ⊎_elim (λ t. inr (t.0, struck-to)) (λ t. inl (i.testing.m6t k u v ends t.1 crossed-basic)) crossed-meets;
    crosses = λ w. omega (arith, unanswered, one, i.testing.e2w k v u (flip ends) wait w, i.testing.e2w k u v ends w wait);
  })
    where
      free : s.mark u k ≡ 1 → s.mark u k ≢ 2 → ⊥
      free o n = omega (arith, branch-u i ends head low same o, crossed-basic)
