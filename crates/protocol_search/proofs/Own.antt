-- A Test that carries v's own identity, of a level not above v's: its sender u is of v's fragment, and v is informed (`tester-inside`, `inf-tested`).
use Rattle.protocol.proofs.Prelude.{ℕ, ◌≤◌, arith, ◌≡◌, refl, sym, ap, subst, ◌∙◌}
use Rattle.protocol.proofs.Prelude.{by-eq, test, Network, Edge, up, flip, ProtocolState, In, GC, Inf, Inv}

module _ {p : Network} {s : ProtocolState} (i : Inv p s) {u v k l f : ℕ} (ends : Edge p k u v) (head : In (test l f) (s.ch u k)) (low : l ≤ s.lev v) (same : s.id v ≡ f) where
  pub inf-tester : Inf s u
  inf-tester = (i.testing.e1 k u v l f ends head).2

  -- both have the core of u's fragment as identity, and its ends lie in both fragments
  pub tester-inside : s.fr u ≡ s.fr v
  tester-inside =
      let t = i.testing.e1 k u v l f ends head in
      let a = i.cores.g5r u inf-tester.0 in
      let e : s.id v ≡ GC s u = same ∙ sym t.1 ∙ i.levels.g2i u inf-tester in
      let j : Edge p (GC s u) (p.g.lo (GC s u)) (p.g.hi (GC s u)) = up a refl refl in
      sym (i.cores.g5 u (p.g.lo (GC s u)) (p.g.hi (GC s u)) inf-tester.0 j).1
      ∙ i.levels.g3 v (p.g.lo (GC s u)) (p.g.hi (GC s u)) (λ z. omega (arith, inf-tester.0, inf-tester.1, t.0)) (subst (λ x. Edge p x (p.g.lo (GC s u)) (p.g.hi (GC s u))) (sym e) j)

  pub inf-tested : Inf s v
  inf-tested = (omega (arith, inf-tester.0, ap s.gl tester-inside), omega (arith, i.levels.g2 v, inf-tester.1, (i.testing.e1 k u v l f ends head).0, ap s.gl tester-inside))

  -- k is half at neither end
  pub branch-v : s.mark v k ≡ 1 → s.mark u k ≡ 1
  branch-v h = by-eq (s.mark u k) 1 (λ z. z) (λ n. absurd ((i.halves.d1 k v u (flip ends) (i.halves.m2 k v u (flip ends) h n)).d1o tester-inside))

  pub branch-u : s.mark u k ≡ 1 → s.mark v k ≡ 1
  branch-u h = by-eq (s.mark v k) 1 (λ z. z) (λ n. absurd ((i.halves.d1 k u v ends (i.halves.m2 k u v ends h n)).d1o (sym tester-inside)))
