-- The graph that the protocol runs on, with its nodes and the order of its edges. In one part or several. Ranks and keys are that order (`rank_lt`,
-- `ends-rank`).
use Rattle.std.specs.Prelude.{ℕ, ◌≤◌, ◌<◌, ◌≡◌, ◌≢◌, eqb}
use Rattle.std.proofs.Common.{arith}
use Rattle.std.proofs.Math.Path.{refl}
use Rattle.std.proofs.Math.Bool.{cond}
use Rattle.base.proofs.laws.Cond.{eqb-cases}
use Rattle.graph.specs.Graph.{Graph, Joins, up, down}
use Rattle.graph.specs.Order.{Order, InTree}
use Rattle.graph.proofs.laws.Ways.{joins-lt, ends-diff}
use Rattle.graph.proofs.laws.Rank.{rank-bound, rank_in, rank_in-inj}
use Rattle.format_message.specs.Msg.{none}

pub record Network : Type 0 where
  pub g : Graph
  -- number of nodes
  pub N : ℕ
  -- which of two edges is earlier
  pub order : Order g.L
  pub ends-lt : (k : ℕ) → k < g.L → (g.lo k < N) × (g.hi k < N)
  pub no_loop : (k : ℕ) → k < g.L → g.lo k ≢ g.hi k
  -- no edge number is `none`
  pub small : g.L ≤ 65535

-- edge k joins u and v
abbrev pub Edge : Network → ℕ → ℕ → ℕ → Type 0
Edge p k u v = Joins p.g k u v

-- edge k is in the tree
abbrev pub Tree : Network → ℕ → Type 0
Tree p k = InTree p.g (p.order.earlier) k

-- place of an edge in the order: smaller is earlier
abbrev pub rank : Network → ℕ → ℕ
rank p k = rank_in p.order k

-- the same for an edge or none: none is later than all
unfoldable pub key : Network → ℕ → ℕ
key p k = cond (eqb k none) p.g.L (rank p k)

module _ (p : Network) where
  pub key-none : key p none ≡ p.g.L
  unfolding key
  key-none = refl

  pub key-some : (k : ℕ) → k ≢ none → key p k ≡ rank p k
  unfolding key
  key-some k n = eqb-cases k none (λ b. cond b p.g.L (rank p k) ≡ rank p k) (λ e. absurd (n e)) (λ m. refl)

  pub key-edge : (k : ℕ) → k < p.g.L → key p k ≡ rank p k
  key-edge k l = key-some k (λ e. omega (arith, p.small))

  pub rank_lt : (k : ℕ) → k < p.g.L → rank p k < p.g.L
  rank_lt k l = rank-bound p.order k l

  pub rank-inj : (e f : ℕ) → e < p.g.L → f < p.g.L → rank p e ≡ rank p f → e ≡ f
  rank-inj e f a b q = rank_in-inj p.order e f a b q

  -- an edge of the graph is not none, and its ends differ
  pub edge-some : {k u v : ℕ} → Edge p k u v → k ≢ none
  edge-some e n = omega (arith, joins-lt e, p.small)

  pub ends-irr : {k u v : ℕ} → Edge p k u v → u ≢ v
  ends-irr {k} e = ends-diff (p.no_loop k (joins-lt e)) e

  pub ends-key : {k u v : ℕ} → Edge p k u v → key p k ≡ rank p k
  ends-key {k} e = key-edge k (joins-lt e)

  pub ends-rank : {k u v : ℕ} → Edge p k u v → rank p k < p.g.L
  ends-rank {k} e = rank_lt k (joins-lt e)

  -- an end of an edge is a node
  pub end_lt : {k u v : ℕ} → Edge p k u v → u < p.N
  end_lt {k} (up l a b) = omega (arith, (p.ends-lt k l).0)
  end_lt {k} (down l a b) = omega (arith, (p.ends-lt k l).1)
