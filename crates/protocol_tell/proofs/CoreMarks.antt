-- Connect from u at v over an edge k that is not Basic at v: k is a branch at both ends (`mark-u`, `mark-v`).
use Rattle.protocol.proofs.Prelude.{ℕ, ◌≤◌, arith, ◌≡◌, ◌≢◌, List, ◌∷◌, by-eq, Msg, connect}
use Rattle.protocol.proofs.Prelude.{Network, Edge, flip, ProtocolState, Idle, In, pop-head, Inv}

module _ {p : Network} {s : ProtocolState} (i : Inv p s) {u v k l : ℕ} {r : List Msg} (idle : Idle s) (ends : Edge p k u v) (awake : s.st v ≢ 0) (q : s.ch u k ≡ connect l ∷ r)
    (low : s.lev v ≤ l) (taken : s.mark v k ≢ 0) where
  head : In (connect l) (s.ch u k)
  head = pop-head s.ch u k q

  pub mark-u : s.mark u k ≡ 1
  mark-u = i.connects.c1m k u v l ends head

  pub mark-v : s.mark v k ≡ 1
  mark-v = by-eq (s.mark v k) 1 (λ e. e) (λ n. absurd ((i.markings.m1 k v u (flip ends) (omega (arith, i.ranges.mark-le v k))).1 mark-u))
