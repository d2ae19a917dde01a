-- In a stuck state every node has its fragment's level (`stuck-level`).
use Rattle.protocol.proofs.Prelude.{ℕ, ◌≤◌, ◌<◌, arith, ◌≡◌, refl, sym, ap, ◌∙◌, ◌≢◌, ⊎_elim, by-eq, sum_l}
use Rattle.protocol.proofs.Prelude.{connect, initiate, accept, reject, change, Network, Edge, Way, stop, go, up, flip, ProtocolState}
use Rattle.protocol.proofs.Prelude.{In, some-connect, is_a, no-answers, joined-both, GL, GC, DK, Inf, Jn, JoinedEdge, Inv, inf-cases, changing-of, no-root}
pub use Rattle.protocol_stuck.proofs.Stuck.{Stuck}

module _ {p : Network} {s : ProtocolState} (i : Inv p s) (t : Stuck p s) where
  no-initiate : (k u v l f x : ℕ) → Edge p k u v → ¬ In (initiate l f x) (s.ch u k)
  no-initiate k u v l f x e n = (t.back k u v (initiate l f x) e n).1

  pub no-ans : (k u v : ℕ) → Edge p k u v → sum_l is_a (s.ch u k) ≡ 0
  no-ans k u v e = no-answers (s.ch u k) (λ n. (t.back k u v accept e n).1) (λ n. (t.back k u v reject e n).1)

  -- no Change-root, nobody executes change-root: undecided, half or finished
  pub no-changing : (v : ℕ) → DK s v ≢ 2
  no-changing v d = let h = changing-of i v d in (t.back h.1 h.0 h.2 change h.3 (i.tokens.d2c h.1 h.0 h.2 h.3 h.4)).1

  pub no-rooting : (v : ℕ) → DK s v ≢ 1
  no-rooting v = no-root i v (t.idle).2

  -- the core ends are informed: no Connect is on a joined edge, no Initiate anywhere
  core-inf : (k x y : ℕ) → Edge p k x y → Jn s k x y → GC s x ≡ k → Inf s x
  core-inf k x y e j g = ⊎_elim
      (λ c. let n = some-connect (s.ch x k) c in absurd (omega (arith, (t.back k x y (connect n.0) e n.1).1.1, j.1)))
      (⊎_elim (λ n. absurd (no-initiate k y x (GL s x) k 1 (flip e) n)) (λ h. h))
      (i.telling.t4 k x y e j g)

  -- and so is everybody, along a way of joined edges
  spread : {v w : ℕ} → Way p.g (JoinedEdge p s.mark) v w → Inf s v → Inf s w
  spread stop h = h
  spread (go {u = a} {v = b} j e o w) h = spread w (next-inf a b j e (joined-both p s.mark e o) h)
    where
      next-inf : (a b j : ℕ) → Edge p j a b → Jn s j a b → Inf s a → Inf s b
      next-inf a b j e o h =
          let q = i.markings.m3 j a b e o in
          by-eq (s.ib a) j
          (λ z. by-eq (GC s a) j (λ g. core-inf j b a (flip e) (o.1, o.0) (ap s.gc (sym q) ∙ g)) (λ g. (i.parents.t1p j a b e h z g).0))
          (λ z. inf-cases i b (λ y. y)
          (λ l. absurd (no-initiate j a b (GL s a) (GC s a) (s.due b) e (i.telling.t2i j a b e o h z l)))
          (λ y. absurd (omega (arith, h.0, ap s.gl q))))

  pub all-inf : (v : ℕ) → 1 ≤ GL s v → Inf s v
  all-inf v l =
      let k = GC s v in
      let e : Edge p k (p.g.lo k) (p.g.hi k) = up (i.cores.g5r v l) refl refl in
      let h = i.cores.g5 v (p.g.lo k) (p.g.hi k) l e in
      spread (i.markings.m4 (p.g.lo k) v h.1) (core-inf k (p.g.lo k) (p.g.hi k) e h.0 (ap s.gc h.1))

  pub stuck-level : (v : ℕ) → s.lev v ≡ GL s v
  stuck-level v = by-eq (GL s v) 0 (λ z. omega (arith, i.levels.g2 v)) (λ n. (all-inf v (omega arith)).1)

  pub not_low : (v : ℕ) → ¬ (s.lev v < GL s v)
  not_low v l = omega (arith, stuck-level v)
