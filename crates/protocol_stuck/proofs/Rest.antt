-- At rest: the branches are the tree (`tree-branch`), the other edges are Rejected at both ends (`other-rejected`), and just the core ends have halted
-- (`core-halted`, `halted-core`). For each part with an awake node.
use Rattle.protocol.proofs.Prelude.{ℕ, ◌≤◌, arith, ◌≡◌, refl, sym, ap, subst, ◌∙◌, ◌≢◌, ◌⊎◌, inl, inr, ⊎_elim, by-eq}
use Rattle.protocol.proofs.Prelude.{none, report, Network, Edge, Tree, Graph, Joins, joins-lt, up, flip, edge-way, Way, stop, go, ProtocolState, GL, GC, Jn, JoinedEdge, Inv, joined-both}
use Rattle.graph.proofs.laws.Cycle.{needed}
use Rattle.graph.proofs.laws.Ways.{way-low-high}
use Rattle.protocol_stuck.proofs.Informed.{Stuck}
use Rattle.protocol_stuck.proofs.Finished.{awake-finished, part-awake, nothing}

-- a way to another node begins with an edge
pub leaves : {g : Graph} {S : ℕ → Type 0} {v w : ℕ} → Way g S v w → v ≢ w → (k : ℕ) × (u : ℕ) × Joins g k v u
leaves stop d = absurd (d refl)
leaves (go {v = u} k j h w) d = (k, u, j)

module _ {p : Network} {s : ProtocolState} (i : Inv p s) (t : Stuck p s) where
  -- MARKS: Branch at both ends, or Rejected at both
  pub joined-or-rejected : (k v u : ℕ) → Edge p k v u → s.st v ≢ 0 → Jn s k v u ⊎ ((s.mark v k ≡ 2) × (s.mark u k ≡ 2))
  joined-or-rejected k v u e a =
      let d = awake-finished i t v a in
      let f = awake-finished i t u (part-awake i t v u a (edge-way e tt)) in
      by-eq (s.mark v k) 1
      (λ b. by-eq (s.mark u k) 1 (λ c. inl (b, c)) (λ c. absurd (omega (arith, (i.halves.m2 k v u e b c).0))))
      (λ b.
      let c : s.mark v k ≡ 2 = omega (arith, i.ranges.mark-le v k, i.finishes.d4 k v u e d) in
      inr (c, omega (arith, i.ranges.mark-le u k, i.finishes.d4 k u v (flip e) f, (i.markings.m1 k v u e c).1)))

  -- a Rejected edge is not in the tree: joined edges, all in the tree, connect its ends
  pub not-tree : (k v u : ℕ) → Edge p k v u → s.mark v k ≡ 2 → ¬ Tree p k
  not-tree k v u e m h =
      let j = needed p.g p.order k (joins-lt e) h (JoinedEdge p s.mark) (λ f l o. i.markings.m5 f (p.g.lo f) (p.g.hi f) (up l refl refl) o.0) (way-low-high e (i.markings.m4 v u (i.markings.m1 k v u e m).0)) in
      omega (arith, (joined-both p s.mark e j).0)

  -- so both ends of a tree edge say branch, of another rejected
  pub tree-branch : (k v u : ℕ) → Edge p k v u → s.st v ≢ 0 → Tree p k → Jn s k v u
  tree-branch k v u e a h = ⊎_elim (λ j. j) (λ m. absurd (not-tree k v u e m.0 h)) (joined-or-rejected k v u e a)

  pub other-rejected : (k v u : ℕ) → Edge p k v u → s.st v ≢ 0 → ¬ Tree p k → (s.mark v k ≡ 2) × (s.mark u k ≡ 2)
  other-rejected k v u e a n = ⊎_elim (λ j. absurd (n (i.markings.m5 k v u e j.0))) (λ m. m) (joined-or-rejected k v u e a)

  -- a part with an edge has a core, a tree edge, whose ends have halted
  pub level-pos : (k v u : ℕ) → Edge p k v u → s.st v ≢ 0 → 1 ≤ GL s v
  level-pos k v u e a = by-eq (GL s v) 0 (λ z. absurd (omega (arith, i.sleepers.g7 k v u e a z, awake-finished i t v a))) (λ n. omega arith)

  pub core-tree : (v x y : ℕ) → 1 ≤ GL s v → Edge p (GC s v) x y → Tree p (GC s v)
  core-tree v x y l e = i.markings.m5 (GC s v) x y e (i.cores.g5 v x y l e).0.0

  pub core-halted : (v x y : ℕ) → s.st v ≢ 0 → 1 ≤ GL s v → Edge p (GC s v) x y → s.halt x ≡ 1
  core-halted v x y a l e =
      let q = (i.cores.g5 v x y l e).1 in
      by-eq (s.halt x) 0
      (λ z. absurd (nothing i t (GC s v) y x (report none) (flip e) (i.tokens.d4r (GC s v) x y e (ap s.gc q) (ap s.dk q ∙ awake-finished i t v a) (omega (arith, ap s.gl q)) z)))
      (λ n. omega (arith, i.ranges.halt-le x))

  -- nobody else has; a node without edges has
  pub halted-core : (k v u : ℕ) → Edge p k v u → s.halt v ≢ 0 → (y : ℕ) × Edge p (GC s v) v y
  halted-core k v u e h = i.finishes.d6c k v u e h

  pub lone-halted : (v : ℕ) → s.st v ≢ 0 → ((k u : ℕ) → ¬ Edge p k v u) → s.halt v ≡ 1
  lone-halted v a n = by-eq (GL s v) 0 (λ z. (i.sleepers.g7n v a z n).1)
      (λ z.
      let k = GC s v in
      let e : Edge p k (p.g.lo k) (p.g.hi k) = up (i.cores.g5r v (omega arith)) refl refl in
      let w = leaves (i.markings.m4 v (p.g.lo k) (sym (i.cores.g5 v (p.g.lo k) (p.g.hi k) (omega arith) e).1)) (λ q. n k (p.g.hi k) (subst (λ x. Edge p k x (p.g.hi k)) (sym q) e)) in
      absurd (n w.0 w.1 w.2))
