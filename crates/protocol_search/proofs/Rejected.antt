-- Reject from u at v over k: the mark is struck, procedure test comes next (`inv-rejected`).
use Rattle.protocol.proofs.Prelude.{ℕ, suc, ◌+◌, ◌≤◌, arith, ◌≡◌, sym, ap, ◌≢◌, inl}
use Rattle.protocol.proofs.Prelude.{List, ◌∷◌, by-eq, sum_l, Msg, reject, Network, Edge, flip, ProtocolState, Idle, Strike, set-ot, remarked, pop}
use Rattle.protocol.proofs.Prelude.{is_t, is_a, in_sum, pop-head, Inv, rest-none, plain-reject}
use Rattle.protocol.specs.Traffic.{RejectOk}
use Rattle.protocol_search.proofs.Again.{inv-again}

module _ {p : Network} {s : ProtocolState} (i : Inv p s) {u v k c : ℕ} {r : List Msg} (idle : Idle s) (ends : Edge p k u v) (q : s.ch u k ≡ reject ∷ r) (strike : Strike s v k c) where
  pub reject-ok : RejectOk s.te s.fr s.mark s.ot k u v
  reject-ok = i.answers.j1 k u v ends (pop-head s.ch u k q)

  -- u does not test k: it would be Rejected at u, or joined
  pub not-theirs : s.te u ≢ k
  not-theirs z = by-eq (s.mark v k) 0
      (λ b. i.tests.e2r k u v ends (z, λ o. omega (arith, idle.0)) (reject-ok.j1m b))
      (λ b.
      let o : s.mark v k ≡ 1 = omega (arith, i.ranges.mark-le v k, i.tests.e2r k v u (flip ends) reject-ok.j1w) in
      by-eq (s.mark u k) 1
      (λ y. (i.tests.e2i k v u (flip ends) reject-ok.j1w (o, y)).1 z)
      (λ y. (i.halves.d1 k v u (flip ends) (i.halves.m2 k v u (flip ends) o y)).d1o reject-ok.j1f))

  -- so of v's Test, an answer to it and a Test of u that crossed it just one was under way (e2c): this Reject
  pub alone : sum_l is_t (s.ch v k) + sum_l is_a (s.ch u k) + sum_l is_t (s.ch u k) ≡ 1
  alone = i.testing.e2c k v u (flip ends) reject-ok.j1w (inl not-theirs)

  pub inv-rejected : Inv p (set-ot (remarked (pop s u k r) v k c) (suc v))
  inv-rejected = inv-again i (record {
    idle = idle;
    ends = ends;
    took = q;
    plain = plain-reject;
    strike = strike;
    wait = reject-ok.j1w;
    inside = sym reject-ok.j1f;
    free = λ z o. omega (arith, reject-ok.j1m z);
    asks = λ z o. absurd (omega (arith, reject-ok.j1m z));
    no_test = omega (arith, alone, one, ap (sum_l is_t) q);
    no_answer = rest-none i is_a ends q (λ n t. t);
    own = inl (omega (arith, alone, one));
    crosses = λ w. absurd (not-theirs w.0);
  })
    where
      one : 1 ≤ sum_l is_a (s.ch u k)
      one = in_sum is_a (pop-head s.ch u k q)
