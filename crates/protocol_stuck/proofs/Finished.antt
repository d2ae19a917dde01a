-- THE STUCK LEMMA: in a stuck state the fragment of every awake node is finished (`awake-finished`), is its whole part of the graph (`part`), and no message
-- waits (`nothing`).
use Rattle.protocol.proofs.Prelude.{ℕ, ◌≤◌, ◌<◌, arith, ◌≡◌, refl, sym, ap, ◌∙◌, ◌≢◌, ◌⊎◌, inl, inr, ⊎_elim, by-eq, strong}
use Rattle.protocol.proofs.Prelude.{Msg, connect, initiate, test, accept, reject, report, change, Network, Edge, rank, Way, stop, go, up, down, flip, way-append, edge-way, wider, ProtocolState}
use Rattle.protocol.proofs.Prelude.{In, Blocked, GL, DK, Inv, waits-find}
use Rattle.std.proofs.Math.Decide.{ℕ_discrete}
use Rattle.base.proofs.laws.Search.{least, Least}
use Rattle.graph.specs.Graph.{Any}
use Rattle.graph.proofs.laws.Ways.{way-reverse}
use Rattle.protocol_stuck.proofs.Informed.{Stuck, no-changing, no-rooting, all-inf}
use Rattle.protocol_stuck.proofs.Waiting.{lower, half_meets, half-earlier}

-- a node has an edge, or none
pub edge? : (p : Network) (v : ℕ) → ((k : ℕ) × (u : ℕ) × Edge p k v u) ⊎ ((k u : ℕ) → ¬ Edge p k v u)
edge? p v = low (least (λ k. p.g.lo k ≡ v) (λ k. ℕ_discrete (p.g.lo k) v) p.g.L)
  where
    high : ((k : ℕ) → k < p.g.L → ¬ (p.g.lo k ≡ v)) → ((k : ℕ) → k < p.g.L → ¬ (p.g.hi k ≡ v)) ⊎ Least (λ k. p.g.hi k ≡ v) p.g.L → ((k : ℕ) × (u : ℕ) × Edge p k v u) ⊎ ((k u : ℕ) → ¬ Edge p k v u)
    high f (inl g) = inr (λ k u e. none-at k u e)
      where
        none-at : (k u : ℕ) → ¬ Edge p k v u
        none-at k u (up l a b) = f k l a
        none-at k u (down l a b) = g k l a
    high f (inr m) = inl (m.at, p.g.lo (m.at), down (m.below) (m.holds) refl)

    low : ((k : ℕ) → k < p.g.L → ¬ (p.g.lo k ≡ v)) ⊎ Least (λ k. p.g.lo k ≡ v) p.g.L → ((k : ℕ) × (u : ℕ) × Edge p k v u) ⊎ ((k u : ℕ) → ¬ Edge p k v u)
    low (inl f) = high f (least (λ k. p.g.hi k ≡ v) (λ k. ℕ_discrete (p.g.hi k) v) p.g.L)
    low (inr m) = inl (m.at, p.g.hi (m.at), up (m.below) (m.holds) refl)

module _ {p : Network} {s : ProtocolState} (i : Inv p s) (t : Stuck p s) where
  -- an awake node of a finished fragment, joined to v by edges
  abbrev Goal : ℕ → Type 0
  Goal v = (w : ℕ) × Way p.g Any v w × (s.st w ≢ 0) × (DK s w ≡ 4)

  -- within a fragment
  mates : (v w : ℕ) → s.fr v ≡ s.fr w → Way p.g Any v w
  mates v w q = wider (λ e l h. tt) (i.markings.m4 v w q)

  far : {v w : ℕ} → Way p.g Any v w → Goal w → Goal v
  far a g = (g.0, way-append a g.1, g.2, g.3)

  -- an awake single node is half or finished
  single : (v : ℕ) → s.st v ≢ 0 → GL s v ≡ 0 → DK s v ≢ 0
  single v a g d = ⊎_elim
      (λ e. omega (arith, i.sleepers.g7 e.0 v e.1 e.2 a g))
      (λ n. omega (arith, (i.sleepers.g7n v a g n).0)) (edge? p v)

  -- undecided, half or finished: given the goal for lower levels, and for those that are half
  settle : (v : ℕ) → s.st v ≢ 0 → ((w : ℕ) → s.st w ≢ 0 → GL s w < GL s v → Goal w) → (DK s v ≡ 3 → Goal v) → Goal v
  settle v a low half = by-eq (DK s v) 4 (λ z. (v, stop, a, z))
      (λ n4. by-eq (DK s v) 3 half
      (λ n3.
      let d : DK s v ≡ 0 = zero_of (DK s v) (i.ranges.dk-le (s.fr v)) n4 n3 (no-changing i t v) (no-rooting i t v) in
      let g : 1 ≤ GL s v = by-eq (GL s v) 0 (λ z. absurd (single v a z d)) (λ n. omega arith) in
      let r = lower i t v d (all-inf i t v g) in
      far (way-append (mates v r.0 (sym r.3)) (edge-way r.4 tt)) (low r.2 r.5 (omega (arith, r.6, ap s.gl r.3)))))
    where
      zero_of : (x : ℕ) → x ≤ 4 → x ≢ 4 → x ≢ 3 → x ≢ 2 → x ≢ 1 → x ≡ 0
      zero_of x l a b c d = omega arith

  -- by the level, and for one level by the rank of the half edge
  reach : (g v : ℕ) → GL s v ≡ g → s.st v ≢ 0 → Goal v
  reach = strong (λ g. (v : ℕ) → GL s v ≡ g → s.st v ≢ 0 → Goal v) by_level
    where
      by_level : (g : ℕ) → ((m : ℕ) → m < g → (v : ℕ) → GL s v ≡ m → s.st v ≢ 0 → Goal v) → (v : ℕ) → GL s v ≡ g → s.st v ≢ 0 → Goal v
      by_level g ih v q a = settle v a (lower-ones v q) (λ d. halves (rank p (s.de (s.fr v))) v q d refl)
        where
          lower-ones : (v : ℕ) → GL s v ≡ g → (w : ℕ) → s.st w ≢ 0 → GL s w < GL s v → Goal w
          lower-ones v q w b l = ih (GL s w) (omega arith) w refl b

          by_rank : (r : ℕ) → ((m : ℕ) → m < r → (v : ℕ) → GL s v ≡ g → DK s v ≡ 3 → rank p (s.de (s.fr v)) ≡ m → Goal v)
              → (v : ℕ) → GL s v ≡ g → DK s v ≡ 3 → rank p (s.de (s.fr v)) ≡ r → Goal v
          by_rank r ir v q d e =
              let m = half_meets i t v d in
              far (way-append (mates v (m.z) (sym (m.mate))) (edge-way (m.ends) tt))
              (settle (m.y) (m.wakes) (lower-ones (m.y) (m.alike ∙ q)) (λ h. ir (rank p (s.de (s.fr (m.y)))) (omega (arith, half-earlier i t v m h)) (m.y) (m.alike ∙ q) h refl))

          halves : (r v : ℕ) → GL s v ≡ g → DK s v ≡ 3 → rank p (s.de (s.fr v)) ≡ r → Goal v
          halves = strong (λ r. (v : ℕ) → GL s v ≡ g → DK s v ≡ 3 → rank p (s.de (s.fr v)) ≡ r → Goal v) by_rank

  -- no edge leaves a finished fragment
  inner : (k v u : ℕ) → Edge p k v u → DK s v ≡ 4 → s.fr v ≡ s.fr u
  inner k v u e d = by-eq (s.mark v k) 1
      (λ a. by-eq (s.mark u k) 1 (λ b. i.markings.m3 k v u e (a, b)) (λ b. absurd (omega (arith, (i.halves.m2 k v u e a b).0))))
      (λ a. (i.markings.m1 k v u e (omega (arith, i.ranges.mark-le v k, i.finishes.d4 k v u e d))).0)

  pub closed : {w x : ℕ} → Way p.g Any w x → DK s w ≡ 4 → s.fr w ≡ s.fr x
  closed stop d = refl
  closed (go {u = a} {v = b} k e o w) d = let q = inner k a b e d in q ∙ closed w (ap s.dk (sym q) ∙ d)

  -- THE FRAGMENT OF EVERY AWAKE NODE IS FINISHED
  pub awake-finished : (v : ℕ) → s.st v ≢ 0 → DK s v ≡ 4
  awake-finished v a = let r = reach (GL s v) v refl a in ap s.dk (sym (closed (way-reverse r.1) r.3)) ∙ r.3

  -- AND IS ITS WHOLE PART, all of it awake
  pub part : (v w : ℕ) → s.st v ≢ 0 → Way p.g Any v w → s.fr v ≡ s.fr w
  part v w a y = closed y (awake-finished v a)

  pub part-awake : (v w : ℕ) → s.st v ≢ 0 → Way p.g Any v w → s.st w ≢ 0
  part-awake v w a y z = omega (arith, awake-finished v a, ap s.dk (part v w a y), (i.sleepers.g6 w z).g6d)

  -- NO MESSAGE WAITS
  pub nothing : (k u v : ℕ) (m : Msg) → Edge p k u v → ¬ In m (s.ch u k)
  nothing k u v m e n = let b = t.back k u v m e n in which m n b.0 b.1
    where
      not-find : (w : ℕ) → s.st w ≢ 0 → s.st w ≢ 1
      not-find w a f = omega (arith, awake-finished w a, (i.finds.f1 w f).f1k)

      awake-u : s.st v ≢ 0 → s.st u ≢ 0
      awake-u a = part-awake v u a (edge-way (flip e) tt)

      which : (m : Msg) → In m (s.ch u k) → s.st v ≢ 0 → Blocked s v k m → ⊥
      which (connect l) n a b = i.finishes.d4 k v u (flip e) (awake-finished v a) b.1
      which (initiate l f x) n a b = b
      which (test l f) n a b = ⊎_elim (λ r. not-find u (awake-u a) (waits-find i k u v e r.0)) (λ r. not-find v a (waits-find i k v u (flip e) r.2)) (i.testing.e1w k u v l f e n)
      which accept n a b = b
      which reject n a b = b
      which (report w) n a b = not-find v a b.1
      which change n a b = b
