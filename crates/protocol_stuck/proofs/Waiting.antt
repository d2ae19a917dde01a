-- In a stuck state an undecided fragment waits for one of a lower level (`lower`), and one that is half for one that is half on an earlier edge (`half_meets`,
-- `half-earlier`).
use Rattle.protocol.proofs.Prelude.{ℕ, zero, suc, ◌-◌, ◌≤◌, ◌<◌, arith, ◌≡◌, refl, sym, ap, ◌∙◌, ◌≢◌, ◌⊎◌, inl, inr, ⊎_elim, by-eq, sum, sum_l, le-sum}
use Rattle.protocol.proofs.Prelude.{none, connect, test, report, Network, Edge, end_lt, up, joins-lt, flip, same-edge, ProtocolState}
use Rattle.protocol.proofs.Prelude.{rank, rank-inj, is_t, is_r, In, some-test, some-report, GL, GC, DK, Inf, Jn, Half, Waits, Inv, down-core, half_of}
use Rattle.std.proofs.Math.Logic.Dec
use Rattle.std.proofs.Math.Decide.{ℕ_discrete}
use Rattle.base.proofs.laws.Search.{best, Best}
use Rattle.protocol_stuck.proofs.Informed.{Stuck, no-ans, all-inf, stuck-level, not_low}

-- a sum that is not zero has a term that is not
pub some-term : (n : ℕ) (f : ℕ → ℕ) → sum n f ≢ 0 → (k : ℕ) × (k < n) × (f k ≢ 0)
some-term zero f h = absurd (h refl)
some-term (suc n) f h = by-eq (f n) 0
    (λ z. let t = some-term n f (λ e. h (omega arith)) in (t.0, omega (arith, t.1), t.2))
    (λ z. (n, omega arith, z))

module _ {p : Network} {s : ProtocolState} (i : Inv p s) (t : Stuck p s) where
  -- a Report is waited for by a Find node, over its in-branch
  report-find : (k u v : ℕ) → Edge p k u v → 1 ≤ sum_l is_r (s.ch u k) → (s.ib v ≡ k) × (s.st v ≡ 1)
  report-find k u v e h = let n = some-report (s.ch u k) h in (t.back k u v (report n.0) e n.1).1

  -- ---- an undecided fragment

  awake : (a : ℕ) → Inf s a → s.st a ≢ 0
  awake a f z = omega (arith, f.0, (i.sleepers.g6 a z).g6g)

  -- a core end is Find: Found ones would have a Report that is not put back
  find-end : (k a b : ℕ) → Edge p k a b → Jn s k a b → GC s a ≡ k → DK s a ≡ 0 → Inf s a → (x : ℕ) × (x < p.N) × (s.fr x ≡ s.fr a) × (s.st x ≡ 1)
  find-end k a b e j g d f = by-eq (s.st a) 1 (λ z. (a, end_lt p e, refl, z))
      (λ z. ⊎_elim
      (λ n. (b, end_lt p (flip e), sym (i.markings.m3 k a b e j), (report-find k a b e n).1))
      (λ n. absurd (z (report-find k b a (flip e) n.3).1))
      (i.tokens.d7 k a b e g d f (omega (arith, i.ranges.st-le a, awake a f))))

  find-one : (v : ℕ) → DK s v ≡ 0 → Inf s v → (x : ℕ) × (x < p.N) × (s.fr x ≡ s.fr v) × (s.st x ≡ 1)
  find-one v d h =
      let k = GC s v in
      let e : Edge p k (p.g.lo k) (p.g.hi k) = up (i.cores.g5r v h.0) refl refl in
      let c = i.cores.g5 v (p.g.lo k) (p.g.hi k) h.0 e in
      let r = find-end k (p.g.lo k) (p.g.hi k) e c.0 (ap s.gc c.1) (ap s.dk c.1 ∙ d) (all-inf i t (p.g.lo k) (omega (arith, h.0, ap s.gl c.1))) in
      (r.0, r.1, r.2 ∙ c.1, r.3)

  -- one of greatest depth: none of its children is Find
  pub record Deepest (v : ℕ) : Type 0 where
    pub node : ℕ
    pub mate : s.fr node ≡ s.fr v
    pub find : s.st node ≡ 1
    pub deep : (w : ℕ) → w < p.N → s.fr w ≡ s.fr v → s.st w ≡ 1 → s.dep w ≤ s.dep node

  deepest : (v : ℕ) → DK s v ≡ 0 → Inf s v → Deepest v
  deepest v d h = pick (best F (λ w. Dec.and (ℕ_discrete (s.fr w) (s.fr v)) (ℕ_discrete (s.st w) 1)) low p.N)
    where
      F : ℕ → Type 0
      F w = (s.fr w ≡ s.fr v) × (s.st w ≡ 1)

      -- less is deeper
      low : ℕ → ℕ
      low w = sum p.N s.dep - s.dep w

      pick : ((k : ℕ) → k < p.N → ¬ F k) ⊎ Best F (λ w. Dec.and (ℕ_discrete (s.fr w) (s.fr v)) (ℕ_discrete (s.st w) 1)) low p.N → Deepest v
      pick (inl n) = let x = find-one v d h in absurd (n x.0 x.1 (x.2, x.3))
      pick (inr b) = record {
        node = b.pick;
        mate = (b.has).0;
        find = (b.has).1;
        deep = λ w l q f. omega (arith, b.no-better w l (q, f), le-sum p.N w s.dep l, le-sum p.N (b.pick) s.dep (b.in-range));
      }

  -- it waits for no Report
  no-count : (v : ℕ) (x : Deepest v) → s.fc (x.node) ≡ 0
  no-count v x = by-eq (s.fc (x.node)) 0 (λ z. z)
      (λ n.
      let a = x.node in
      let o = some-term p.g.L (s.owe a) (λ z. n (i.find_counts.f4 a ∙ z)) in
      let k = o.0 in
      let e = i.find_counts.f4o a k o.2 in
      let c = e.0 in
      let y = i.owing.f4y k a c e.1 o.2 in
      absurd (⊎_elim
      (λ r. ⊎_elim
      (λ f. child k a c e.1 y.0 y.1 y.2 r.0 (x.deep c (end_lt p (flip e.1)) (sym (i.markings.m3 k a c e.1 y.1) ∙ x.mate) f))
      (λ f. y.2 (report-find k c a (flip e.1) f).0) r.1)
      (λ r. not_low i t c r.0) y.3))
    where
      -- a child is one deeper
      child : (k a c : ℕ) → Edge p k a c → Inf s a → Jn s k a c → s.ib a ≢ k → Inf s c → s.dep c ≤ s.dep a → ⊥
      child k a c e h j n g l =
          let q = i.markings.m3 k a c e j in
          let m : GC s c ≢ k = λ z. down-core i k a c e h n (ap s.gc q ∙ z) in
          omega (arith, (i.parents.t1p k c a (flip e) g (i.kids.t2 k a c e j h n g) m).1)

  -- so its Test waits, at a node of lower level
  pub lower : (v : ℕ) → DK s v ≡ 0 → Inf s v → (x : ℕ) × (k : ℕ) × (u : ℕ) × (s.fr x ≡ s.fr v) × Edge p k x u × (s.st u ≢ 0) × (GL s u < GL s x)
  lower v d h =
      let a = deepest v d h in
      let x = a.node in
      let n : s.te x ≢ none = ⊎_elim (λ z. absurd (z (no-count v a)))
      (⊎_elim (λ z. z) (⊎_elim (λ z. absurd (omega (arith, (t.idle).0))) (λ z. absurd (omega (arith, (t.idle).1))))) (i.pending.f2 x (a.find)) in
      let e = i.tests.e2o x n in
      let r = tested (s.te x) x e.0 e.1 (refl, λ z. omega (arith, (t.idle).0)) in
      (x, s.te x, e.0, a.mate, e.1, r.0, r.1)
    where
      -- x's Test is there: no answer is, and a Test of the other end would not be put back
      sent : (k x u : ℕ) → Edge p k x u → Waits s x k → 1 ≤ sum_l is_t (s.ch x k)
      sent k x u e w = by-eq (s.te u) k
          (λ z. omega (arith, i.testing.e2w k x u e w (z, λ y. omega (arith, (t.idle).0)), no-ans i t k u x (flip e)))
          (λ z. by-eq (sum_l is_t (s.ch u k)) 0 (λ y. omega (arith, i.testing.e2c k x u e w (inl z), no-ans i t k u x (flip e)))
          (λ y. let m = some-test (s.ch u k) (omega arith) in absurd (crossed k u x (flip e) z m.0 m.1 m.2)))
        where
          crossed : (k u x : ℕ) → Edge p k u x → s.te u ≢ k → (l f : ℕ) → In (test l f) (s.ch u k) → ⊥
          crossed k u x e z l f m = ⊎_elim (λ r. z r.0.0)
              (λ r. omega (arith, (t.back k u x (test l f) e m).1, (i.testing.e1 k u x l f e m).0, stuck-level i t u, stuck-level i t x, ap s.gl r.3)) (i.testing.e1w k u x l f e m)

      tested : (k x u : ℕ) → Edge p k x u → Waits s x k → (s.st u ≢ 0) × (GL s u < GL s x)
      tested k x u e w =
          let m = some-test (s.ch x k) (sent k x u e w) in
          let b = t.back k x u (test m.0 m.1) e m.2 in
          (b.0, omega (arith, b.1, (i.testing.e1 k x u m.0 m.1 e m.2).0, stuck-level i t u, stuck-level i t x))

  -- ---- a fragment that is half

  -- its Connect waits at y, of the same level, which is not finished
  pub record HalfMeets (v : ℕ) : Type 0 where
    pub z : ℕ
    pub k : ℕ
    pub y : ℕ
    pub ends : Edge p k z y
    pub half : Half s z k
    pub mate : s.fr z ≡ s.fr v
    pub wakes : s.st y ≢ 0
    pub alike : GL s y ≡ GL s v
    pub basic : s.mark y k ≡ 0

  pub half_meets : (v : ℕ) → DK s v ≡ 3 → HalfMeets v
  half_meets v d =
      let h = half_of i v d in
      let b = t.back h.1 h.0 h.2 (connect (GL s h.0)) h.3 (i.tokens.d1c h.1 h.0 h.2 h.3 h.4) in
      let o = i.halves.d1 h.1 h.0 h.2 h.3 h.4 in
      record {
        z = h.0;
        k = h.1;
        y = h.2;
        ends = h.3;
        half = h.4;
        mate = h.5;
        wakes = b.0;
        alike = omega (arith, b.1.0, o.d1g, stuck-level i t h.2, ap s.gl h.5);
        basic = o.d1y;
      }

  -- where y's fragment is half too, it is on an earlier edge
  pub half-earlier : (v : ℕ) (m : HalfMeets v) → DK s (m.y) ≡ 3 → rank p (s.de (s.fr (m.y))) < rank p (s.de (s.fr v))
  half-earlier v m d =
      let h = half_of i (m.y) d in
      let o = i.halves.d1 h.1 h.0 h.2 h.3 h.4 in
      let own = i.halves.d1 (m.k) (m.z) (m.y) (m.ends) (m.half) in
      let l = o.d1b (m.y) (m.k) (m.z) (sym h.5) (flip (m.ends)) (m.basic) in
      let n : rank p h.1 ≢ rank p (m.k) = λ q. same h.1 (m.k) h.0 h.2 (m.z) (m.y) h.3 (m.ends) (rank-inj p h.1 (m.k) (joins-lt h.3) (joins-lt (m.ends)) q)
      (o.d1m) (m.basic) (λ q. own.d1o (sym h.5 ∙ ap s.fr q)) in
      omega (arith, l, n, ap (rank p) (sym h.4.2 ∙ ap s.de h.5), ap (rank p) (sym (m.half).2 ∙ ap s.de (m.mate)))
    where
      -- not on the same edge: its end there is Basic
      same : (j k a b z y : ℕ) → Edge p j a b → Edge p k z y → j ≡ k → s.mark a j ≡ 1 → s.mark y k ≡ 0 → a ≢ z → ⊥
      same j k a b z y e f q m n d = ⊎_elim (λ r. d r.0) (λ r. omega (arith, m, n, ap (λ x. s.mark x j) r.0, ap (s.mark y) q)) (same-edge e f q)
