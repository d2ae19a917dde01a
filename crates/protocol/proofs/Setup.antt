-- The invariant holds at setup: everybody sleeps, each node is a fragment, nothing is under way (`inv-setup`).
use Rattle.std.proofs.Common.{zero-le, arith, sym}
use Rattle.std.specs.Prelude.{refl}
use Rattle.base.specs.Pool.{nil}
use Rattle.base.proofs.laws.Sum.{sum-zero}
use Rattle.graph.proofs.laws.Size.{size-start}
use Rattle.graph.proofs.laws.Ways.{here}
use Rattle.protocol.specs.Network.{Network, edge-some}
use Rattle.protocol.specs.State.{setup_state}
use Rattle.protocol.specs.Chan.{in-nil, bef-nil}
use Rattle.protocol.specs.Inv.{Inv}

pub inv-setup : (p : Network) → Inv p setup_state
inv-setup p = record {
  ranges = record { st-le = λ v. zero-le; halt-le = λ v. zero-le; due-le = λ v. zero-le; dk-le = λ a. zero-le; mark-le = λ v k. zero-le };
  values = record { w1w = λ v n. absurd (n refl); w1e = λ v n. absurd (n refl) };
  levels = record { g2 = λ v. zero-le; g2i = λ v h. absurd (omega (arith, h.0)); g3z = λ v z. refl; g3r = λ v n. absurd (n refl); g3 = λ v x y n e. absurd (n refl) };
  sizes = record { g4 = λ v l. omega (arith, size-start p.N v l); g4s = λ v w z e. e };
  cores = record { g5r = λ v h. absurd (omega arith); g5 = λ v x y h e. absurd (omega arith) };
  sleepers = record { g6 = λ v z. record { g6g = refl; g6d = refl; g6u = refl; g6w = refl; g6e = refl }; g6m = λ v k z. refl; u1a = λ k v u e n. absurd (n refl); g7 = λ k v u e n z. absurd (n refl); g7n = λ v n z f. absurd (n refl) };
  markings = record { own = λ v k n. absurd (n refl); m1 = λ k v u e h. absurd (omega arith); m3 = λ k v u e h. absurd (omega (arith, h.0)); m4 = λ u v e. here e; m5 = λ k v u e h. absurd (omega arith) };
  inbounds = record { u1o = λ v n. absurd (n refl); u1 = λ k v u e h. absurd (edge-some p e (sym h)); u1r = λ v n. absurd (n refl); u1i = λ k v u e h. absurd (edge-some p e (sym h)); m3u = λ k v u e h. absurd (omega (arith, h.0)) };
  halves = record { m2 = λ k v u e h n. absurd (omega arith); d1f = λ v h0. absurd (omega arith); d1e = λ v h0. absurd (omega arith); d1 = λ k z y h0 h1. absurd (omega (arith, h1.0)) };
  change_roots = record { d2f = λ v h0. absurd (omega arith); d2e = λ v h0. absurd (omega arith); d2 = λ k u x h0 h1. absurd (omega (arith, h1.0)) };
  rootings = record { d3f = λ v h. absurd (omega arith); d3o = λ v h. absurd (omega arith); f5r = λ v h. absurd (omega arith); d3 = λ x h0. absurd (omega (arith, h0.0)) };
  finishes = record { d4 = λ k v u e h. absurd (omega arith); d4i = λ k x y e g h l. absurd (omega arith); d5 = λ v n. absurd (n refl); d6 = λ v n. absurd (n refl); d6c = λ k v u e n. absurd (n refl) };
  parents = record { t1 = λ v h0. absurd (omega (arith, h0.0)); t1d = λ v h0 h1. absurd (omega (arith, h0.0)); t1p = λ k v u e h b n. absurd (omega (arith, h.0)); t1e = λ k v u h0 h1 h2. absurd (omega (arith, h1.0)); t1u = λ v h0 h1. absurd (omega (arith, h0.0)) };
  kids = record { t2 = λ k v c h0 h1 h2 h3 h4. absurd (omega (arith, h1.0)); t3 = λ k a b h0 h1 h2 h3. absurd (omega (arith, h1.0)); t4u = λ k x y h0 h1 h2 h3. absurd (omega (arith, h1.0)) };
  finds = record { f1 = λ v h. absurd (omega arith); f1d = λ v h d. absurd (omega arith) };
  pending = record { f2 = λ v h. absurd (omega arith); f3t = λ v n. refl; f3c = λ v n. refl; f5t = λ v h. absurd (omega arith); f5p = λ v h. absurd (omega arith) };
  find_counts = record { f4 = λ v. sym (sum-zero p.g.L (λ k. 0) (λ k l. refl)); f4l = λ v k. zero-le; f4o = λ v k n. absurd (n refl) };
  tests = record { e2o = λ v n. absurd (n refl); e2b = λ k v u j w h0 h1 h2 h3. absurd (edge-some p h0 (sym h1.0)); e2r = λ k v u h0 h1. absurd (edge-some p h0 (sym h1.0)); e2i = λ k v u h0 h1 h2. absurd (edge-some p h0 (sym h1.0)); m6 = λ k v u e h z. absurd (omega arith) };
  weights = record { b1n = λ v h0 h1. absurd (omega (arith, h0.0)); b1m = λ v h0 h1. absurd (omega (arith, h0.0)); b1 = λ v h n. absurd (omega (arith, h.0)) };
  hush = record { g6o = λ k v u e z. refl; g6i = λ k u v e z. nil };
  tokens = record { d1c = λ k z y h0 h1. absurd (omega (arith, h1.0)); d1a = λ k z y h0 h1. absurd (omega (arith, h1.0)); d2c = λ k u x h0 h1. absurd (omega (arith, h1.0)); k1 = λ k u x h0 h1. absurd (in-nil h1); d3r = λ k x y h0 h1 h2. absurd (omega (arith, h1.0)); d4h = λ k x y h0 h1 h2 h3 h4. absurd (omega arith); d4r = λ k x y h0 h1 h2 h3 h4. absurd (omega arith); d7 = λ k x y e g d h f. absurd (omega arith) };
  connects = record { c1m = λ k u v l h0 h1. absurd (in-nil h1); c1 = λ k u v l e h m. absurd (in-nil h) };
  initiates = record { i1 = λ k u v l f x h0 h1. absurd (in-nil h1) };
  telling = record { u2 = λ k v c h0 h1 h2. absurd (omega (arith, h1.0)); t2i = λ k v c h0 h1 h2 h3 h4. absurd (omega (arith, h1.0)); t4 = λ k x y h0 h1 h2. absurd (omega (arith, h1.0)); t4n = λ k x y h0 h1 h2 h3. absurd (omega (arith, h1.0)) };
  testing = record { e1 = λ k u v l f e h. absurd (in-nil h); e1w = λ k u v l f e h. absurd (in-nil h); e2w = λ k v u h0 h1 h2. absurd (edge-some p h0 (sym h1.0)); e2c = λ k v u h0 h1 h2. absurd (edge-some p h0 (sym h1.0)); m6t = λ k v u h0 h1 h2. absurd (omega arith) };
  answers = record { a1 = λ k u v h0 h1. absurd (in-nil h1); j1 = λ k u v h0 h1. absurd (in-nil h1) };
  reports = record { r1r = λ k u v w h0 h1 h2. absurd (in-nil h1); r1j = λ k u v w h0 h1. absurd (in-nil h1); r1 = λ k u v w e h. absurd (in-nil h); r1c = λ k u v w h0 h1 h2 h3 h4. absurd (in-nil h1) };
  owing = record { f4y = λ k v c e n. absurd (n refl); f4n = λ k v c h0 h1 h2 h3 h4. absurd (omega (arith, h1.0)) };
  bests = record { b1e = λ v h n b. absurd (omega (arith, h.0)); b2 = λ k u w e m d h. absurd (omega arith) };
  ordered = record { q1 = λ k u v m n e b. absurd (bef-nil b) };
}
