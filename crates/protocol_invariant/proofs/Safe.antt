-- Why a field that was set up and then only stepped is never refused by 31 or 32: the values and messages that the invariant allows (`lev-le`, `count-le`,
-- `initiate-ok`), and what holds where a response could be refused (`to-sleeper`, `report-branch`, `root-edge`).
use Rattle.protocol.proofs.Prelude.{ℕ, suc, ◌+◌, ◌≤◌, ◌<◌, arith, ◌≡◌, ap, ◌≢◌, by-eq, Bool, true, bit}
use Rattle.protocol.proofs.Prelude.{List, ◌∷◌, sum, sum-le, Msg, connect, initiate, test, report, Network, Edge, end_lt, flip, ProtocolState}
use Rattle.protocol.proofs.Prelude.{Rouse, In, all_in, GL, Inv}
use Rattle.base.specs.Log.{log2}
use Rattle.protocol_budget.proofs.Ceiling.{level-log}
use Rattle.protocol_core.proofs.Core.{count-pos}

module _ {p : Network} {s : ProtocolState} (i : Inv p s) where
  -- ---- 31: levels are at most ⌊log2 N⌋

  pub lev-le : (v : ℕ) → v < p.N → s.lev v ≤ log2 p.N
  lev-le v l = omega (arith, i.levels.g2 v, level-log i v l)

  pub connect-le : (k u v l : ℕ) → Edge p k u v → In (connect l) (s.ch u k) → l ≤ log2 p.N
  connect-le k u v l e n =
      let b = level-log i u (end_lt p e) in
      by-eq (s.mark v k) 1 (λ m. omega (arith, b, (i.connects.c1 k u v l e n m).1))
      (λ m. omega (arith, b, all_in (i.tokens.d1a k u v e (i.halves.m2 k u v e (i.connects.c1m k u v l e n) m)) n))

  pub initiate-ok : (k u v l f x : ℕ) → Edge p k u v → In (initiate l f x) (s.ch u k) → (1 ≤ l) × (l ≤ log2 p.N) × (f < p.g.L) × (x ≤ 1)
  initiate-ok k u v l f x e n =
      let t = i.initiates.i1 k u v l f x e n in (
        omega (arith, t.i1l),
        omega (arith, t.i1g, level-log i v (end_lt p (flip e))),
        t.i1f,
        by-eq l (GL s v) (λ q. omega (arith, t.i1d q, i.ranges.due-le v)) (λ q. omega (arith, t.i1z (omega (arith, t.i1g)))),
      )

  pub test-ok : (k u v l f : ℕ) → Edge p k u v → In (test l f) (s.ch u k) → (1 ≤ l) × (l ≤ log2 p.N) × (f < p.g.L)
  test-ok k u v l f e n =
      let t = i.testing.e1 k u v l f e n in (
        omega (arith, t.0, t.2.0, t.2.1),
        omega (arith, t.0, lev-le u (end_lt p e)),
        omega (arith, t.1, i.levels.g3r u (λ z. omega (arith, t.2.0, t.2.1))),
      )

  -- a find-count is at most the number of own edges, for any test that finds them all
  pub count-le : (v : ℕ) (own : ℕ → Bool) → ((k u : ℕ) → Edge p k v u → own k ≡ true) → s.fc v ≤ sum p.g.L (λ k. bit (own k))
  count-le v own h = omega (arith, i.find_counts.f4 v, sum-le p.g.L (s.owe v) (λ k. bit (own k)) each)
    where
      each : (k : ℕ) → k < p.g.L → s.owe v k ≤ bit (own k)
      each k l = by-eq (s.owe v k) 0 (λ z. omega arith)
          (λ n. let e = i.find_counts.f4o v k n in omega (arith, i.find_counts.f4l v k, ap bit (h k e.0 e.1)))

  -- ---- 32

  -- only Connect and Test are on their way to a sleeper
  pub to-sleeper : (k u v : ℕ) (m : Msg) → Edge p k u v → In m (s.ch u k) → s.st v ≡ 0 → Rouse m
  to-sleeper k u v m e n z = all_in (i.hush.g6i k u v e z) n

  -- the Initiate that answers a Connect over the core
  pub reply-le : (k u v l : ℕ) → Edge p k u v → In (connect l) (s.ch u k) → s.mark v k ≢ 0 → s.lev v + 1 ≤ log2 p.N
  reply-le k u v l e n m =
      let b = i.connects.c1m k u v l e n in
      let o : s.mark v k ≡ 1 = by-eq (s.mark v k) 1 (λ q. q) (λ q. absurd ((i.markings.m1 k v u (flip e) (omega (arith, i.ranges.mark-le v k))).1 b)) in
      let t = i.connects.c1 k u v l e n o in
      omega (arith, t.1, t.2, level-log i u (end_lt p e))

  -- a Report of a child is counted
  pub child-count : (k u v w : ℕ) {r : List Msg} → Edge p k u v → s.ch u k ≡ report w ∷ r → s.ib v ≢ k → s.fc v ≢ 0
  child-count k u v w e q n z = omega (arith, count-pos i e q n)

  -- procedures test, report and change-root find what they need
  pub test-level : (v : ℕ) → s.ot ≡ suc v → 1 ≤ s.lev v
  test-level v o = let f = (i.finds.f1 v (i.pending.f5t v o)).f1i in omega (arith, f.0, f.1)

  pub report-branch : (v : ℕ) → s.op ≡ suc v → (u : ℕ) × Edge p (s.ib v) v u
  report-branch v o = i.inbounds.u1r v (i.parents.t1 v (i.finds.f1 v (i.pending.f5p v o)).f1i)

  pub root-edge : (v : ℕ) → s.oo ≡ suc v → (u : ℕ) × Edge p (s.be v) v u
  root-edge v o = let t = i.rootings.d3 v (i.rootings.f5r v o) in i.values.w1e v (λ z. t.d3w (i.weights.b1m v (t.d3i) z))
