-- Test (l, f) from u at v over k, of another fragment: u is informed (`tester-inf`), and of another fragment than v (`tester-apart`).
use Rattle.protocol.proofs.Prelude.{ℕ, ◌≤◌, arith, ◌≡◌, sym, ap, ◌∙◌, ◌≢◌, List, ◌∷◌, Msg, test}
use Rattle.protocol.proofs.Prelude.{Network, Edge, ProtocolState, Idle, In, pop-head, Inf, Inv}

module _ {p : Network} {s : ProtocolState} (i : Inv p s) {u v k l f : ℕ} {r : List Msg} (idle : Idle s) (ends : Edge p k u v) (awake : s.st v ≢ 0) (q : s.ch u k ≡ test l f ∷ r)
    (low : l ≤ s.lev v) (differ : s.id v ≢ f) where
  head : In (test l f) (s.ch u k)
  head = pop-head s.ch u k q

  pub tester-inf : Inf s u
  tester-inf = (i.testing.e1 k u v l f ends head).2

  -- of another fragment: else v would be informed, with the same identity
  pub tester-apart : s.fr u ≢ s.fr v
  tester-apart z =
      let t = i.testing.e1 k u v l f ends head in
      let h : Inf s v = (omega (arith, tester-inf.0, ap s.gl z), omega (arith, i.levels.g2 v, tester-inf.1, t.0, ap s.gl z)) in
      differ (i.levels.g2i v h ∙ ap s.gc (sym z) ∙ sym (i.levels.g2i u tester-inf) ∙ t.1)
