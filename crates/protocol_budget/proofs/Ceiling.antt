-- THE CEILING: at most N × (5 ⌊log2 N⌋ − 2) + 2 L messages for N ≥ 2, none for N ≤ 1; so at most 5 N ⌊log2 N⌋ + 2 L (`paid-low`, `sent-step`, `sent-ceiling`).
use Rattle.protocol.proofs.Prelude.{ℕ, suc, ◌+◌, ◌*◌, ◌≤◌, ◌<◌, arith, ◌≡◌, refl, sym, ap, ◌∙◌, ◌≢◌, ◌⊎◌, inl, inr, by-eq, sum-le, sum-add, none}
use Rattle.protocol.proofs.Prelude.{Network, end_lt, flip, ProtocolState, SmallStep, setup_state, GL, DK, Inf, Inv, sends, half_of, changing-of, root-of, edge-some}
use Rattle.base.specs.Log.{log2}
use Rattle.base.proofs.laws.Log.{level-le}
use Rattle.base.specs.Ceiling.{ceiling}
use Rattle.base.proofs.laws.Ceiling.{within-ceiling}
use Rattle.base.proofs.laws.Sum.{sum-const}
use Rattle.graph.proofs.laws.Size.{level-one, level-two}
use Rattle.protocol_budget.proofs.Paid.{Paid}
use Rattle.protocol_budget.proofs.Height.{tb-le}
use Rattle.protocol_budget.proofs.Pick.{sum-times}
use Rattle.protocol_budget.proofs.Steps.{paid-step, lone-step}

module _ {p : Network} {s : ProtocolState} (i : Inv p s) where
  -- no level is above the logarithm; two fragments: the lower is below it
  pub level-log : (v : ℕ) → v < p.N → GL s v ≤ log2 p.N
  level-log v l = level-one p.N s.fr (s.fr v) (GL s v) (i.sizes.g4 v l)

  two : (x y : ℕ) → x < p.N → y < p.N → s.fr x ≢ s.fr y → GL s x ≤ GL s y → suc (GL s x) ≤ log2 p.N
  two x y a b n l = level-two p.N s.fr (s.fr x) (s.fr y) (GL s x) (GL s y) n (i.sizes.g4 x a) (i.sizes.g4 y b) l

  -- who knows a way out is below the last level
  way_out : (x : ℕ) → Inf s x → s.bw x ≢ none → suc (GL s x) ≤ log2 p.N
  way_out x f n =
      let t = i.weights.b1 x f n in
      omega (arith, two t.0 t.1 (end_lt p t.2) (end_lt p (flip t.2)) (λ e. t.4 (sym e ∙ t.3)) (omega (arith, t.5, i.levels.g2 t.1, ap s.gl t.3)), ap s.gl t.3)

  -- at the last level nobody is decided but finished
  last : (v : ℕ) → GL s v ≡ log2 p.N → (DK s v ≡ 0) ⊎ (DK s v ≡ 4)
  last v e = by-eq (DK s v) 0 (λ d. inl d) (λ n0. by-eq (DK s v) 4 (λ d. inr d) (λ n4. absurd (rest n0 n4)))
    where
      half : DK s v ≢ 3
      half d =
          let h = half_of i v d in
          let o = i.halves.d1 h.1 h.0 h.2 h.3 h.4 in
          omega (arith, two h.0 h.2 (end_lt p h.3) (end_lt p (flip h.3)) (λ q. o.d1o (sym q)) (omega (arith, o.d1g, i.levels.g2 h.2)), ap s.gl h.5, e)

      changing : DK s v ≢ 2
      changing d =
          let h = changing-of i v d in
          let o = i.change_roots.d2 h.1 h.0 h.2 h.3 h.4 in
          omega (arith, way_out h.2 (o.d2x) (o.d2w), ap s.gl (i.markings.m3 h.1 h.0 h.2 h.3 (o.d2j)), ap s.gl h.5, e)

      root : DK s v ≢ 1
      root d =
          let h = root-of i v d in
          let o = i.rootings.d3 h.0 h.1 in
          omega (arith, way_out h.0 (o.d3i) (o.d3w), ap s.gl h.2, e)

      rest : DK s v ≢ 0 → DK s v ≢ 4 → ⊥
      rest n0 n4 = five (DK s v) (i.ranges.dk-le (s.fr v)) n0 root changing half n4
        where
          five : (x : ℕ) → x ≤ 4 → x ≢ 0 → x ≢ 1 → x ≢ 2 → x ≢ 3 → x ≢ 4 → ⊥
          five x l a b c d f = omega arith

  pub paid-low : {n : ℕ} → Paid p (log2 p.N) s n → n + 2 * p.N ≤ p.N * (5 * log2 p.N) + 2 * p.g.L
  paid-low {n} h = omega (
    arith,
    h.bal,
    sum-le p.N (λ v. 5 * h.tb v + 3) (λ v. 5 * log2 p.N + (h.ts v + h.rt v)) each,
    sum-add p.N (λ v. 5 * h.tb v) (λ v. 3),
    sum-times p.N 5 (h.tb),
    sum-const p.N 3,
    sum-add p.N (λ v. 5 * log2 p.N) (λ v. h.ts v + h.rt v),
    sum-add p.N (h.ts) (h.rt),
    sum-const p.N (5 * log2 p.N),
  )
    where
      -- a node of the last level keeps 3
      each : (v : ℕ) → v < p.N → 5 * h.tb v + 3 ≤ 5 * log2 p.N + (h.ts v + h.rt v)
      each v l =
          let a = tb-le i (h.H) v in
          let b = level-log v l in
          by-eq (h.tb v) (log2 p.N)
          (λ e.
          let g : GL s v ≡ log2 p.N = omega arith in
          let o : h.tb v ≡ GL s v = omega arith in
          omega (arith, (h.T).ts0 v o g, (h.D).rt0 v o (last v g)))
          (λ d. omega arith)

-- ---- setup

pub paid-setup : (p : Network) (z : ℕ) → 1 ≤ z → Paid p z setup_state 0
paid-setup p z l = record {
  tb = λ v. 0;
  rp = λ v. 0;
  ts = λ v. 0;
  rt = λ v. 1;
  lk = λ k. 2;
  H = record { tb0 = λ v e. refl; tb1 = λ k u v e q. refl };
  D = record { rp1 = λ v e. omega arith; rt0 = λ v e d. omega arith; rt1 = λ v e d m. omega arith; rt2 = λ v e d m. omega arith; rt3 = λ v e d m. omega arith };
  T = record { ts0 = λ v e q. absurd (omega arith); ts1 = λ v e q d. absurd (omega arith); ts2 = λ v e. absurd (omega arith) };
  L = record { ts3 = λ k v u e w m. absurd (edge-some p e (sym w.0)); lk1 = λ k x y e a b. omega arith; lk2 = λ k x y e a b. omega arith };
  bal = omega (arith, sum-const p.N 0, sum-const p.N 1, sum-const p.g.L 2);
}

-- ---- for every N: what was sent so far

pub record Sent (p : Network) (s : ProtocolState) (n : ℕ) : Type 0 where
  pub many : 2 ≤ p.N → Paid p (log2 p.N) s n
  pub few : p.N ≤ 1 → n ≡ 0

pub sent-setup : (p : Network) → Sent p setup_state 0
sent-setup p = record { many = λ l. paid-setup p (log2 p.N) (level-le 1 p.N l); few = λ l. refl }

pub sent-step : {p : Network} {s s' : ProtocolState} {n : ℕ} → Inv p s → (t : SmallStep p s s') → Sent p s n → Sent p s' (n + sends t)
sent-step i t h = record { many = λ l. paid-step i t (h.many l); few = λ l. omega (arith, h.few l, lone-step l t) }

-- the lower ceiling of N ≥ 2
pub sent-low : {p : Network} {s : ProtocolState} {n : ℕ} → Inv p s → Sent p s n → 2 ≤ p.N → n + 2 * p.N ≤ p.N * (5 * log2 p.N) + 2 * p.g.L
sent-low i h l = paid-low i (h.many l)

-- NO MORE THAN M
pub sent-ceiling : {p : Network} {s : ProtocolState} {n : ℕ} → Inv p s → Sent p s n → n ≤ ceiling p.N p.g.L
sent-ceiling {p} i h = within-ceiling p.N p.g.L (λ l. sent-low i h l) h.few
