-- What a stuck state says of each part of the graph: it is finished (`PartFinished`) or as at setup (`PartAsleep`), and no message waits (`AllFinished`).
use Rattle.protocol.proofs.Prelude.{ℕ, ◌<◌, ◌≡◌, ◌≢◌, ◌⊎◌, [], Network, Edge, Tree, ProtocolState, setup_state}
use Rattle.std.specs.Prelude.{◌↔◌}
use Rattle.graph.specs.Parts.{SamePart}

-- exactly two of v's part have halted, the ends of one of its tree edges
pub record PartCore (p : Network) (s : ProtocolState) (v : ℕ) : Type 0 where
  pub edge : ℕ
  pub within : edge < p.g.L
  pub tree : Tree p edge
  pub inside : SamePart p.g v (p.g.lo edge)
  pub apart : p.g.lo edge ≢ p.g.hi edge
  pub halted : (u : ℕ) → SamePart p.g v u → (s.halt u ≡ 1) ↔ ((u ≡ p.g.lo edge) ⊎ (u ≡ p.g.hi edge))

-- v is a part by itself, has no edge, and has halted
pub record PartOfOne (p : Network) (s : ProtocolState) (v : ℕ) : Type 0 where
  pub only : (u : ℕ) → SamePart p.g v u → u ≡ v
  pub edgeless : (k u : ℕ) → ¬ Edge p k v u
  pub halted : s.halt v ≡ 1

-- v's part is finished: both ends of each of its tree edges Branch, of its other edges Rejected, and who has halted
pub record PartFinished (p : Network) (s : ProtocolState) (v : ℕ) : Type 0 where
  pub tree : (k a b : ℕ) → Edge p k a b → SamePart p.g v a → Tree p k → (s.mark a k ≡ 1) × (s.mark b k ≡ 1)
  pub others : (k a b : ℕ) → Edge p k a b → SamePart p.g v a → ¬ Tree p k → (s.mark a k ≡ 2) × (s.mark b k ≡ 2)
  pub halted : PartCore p s v ⊎ PartOfOne p s v

-- v's values in the tables, and its marks, are as at setup
pub record NodeAsleep (s : ProtocolState) (v : ℕ) : Type 0 where
  pub status : s.st v ≡ setup_state.st v
  pub level : s.lev v ≡ setup_state.lev v
  pub identity : s.id v ≡ setup_state.id v
  pub weight : s.bw v ≡ setup_state.bw v
  pub best : s.be v ≡ setup_state.be v
  pub test : s.te v ≡ setup_state.te v
  pub branch : s.ib v ≡ setup_state.ib v
  pub count : s.fc v ≡ setup_state.fc v
  pub halted : s.halt v ≡ setup_state.halt v
  pub markings : (k : ℕ) → s.mark v k ≡ setup_state.mark v k

-- v's part is as at setup, its channels with it
pub record PartAsleep (p : Network) (s : ProtocolState) (v : ℕ) : Type 0 where
  pub nodes : (u : ℕ) → SamePart p.g v u → NodeAsleep s u
  pub channels : (k a b : ℕ) → Edge p k a b → SamePart p.g v a → s.ch a k ≡ setup_state.ch a k

-- no message is on any channel; each part with an awake node, u, is finished; each part with none is asleep
pub record AllFinished (p : Network) (s : ProtocolState) : Type 0 where
  pub silent : (k a b : ℕ) → Edge p k a b → s.ch a k ≡ []
  pub awake : (v u : ℕ) → SamePart p.g v u → s.st u ≢ 0 → PartFinished p s v
  pub asleep : (v : ℕ) → ((u : ℕ) → SamePart p.g v u → s.st u ≡ 0) → PartAsleep p s v
