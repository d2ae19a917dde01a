-- Clauses on values, fragments, sleepers, marks and inbound edges. They speak of tables, not of channels:
-- a step that leaves these tables alone keeps the record itself.
use Rattle.std.specs.Prelude.{ℕ, ◌^◌, ◌≤◌, ◌<◌, ◌≡◌, ◌≢◌, ◌⊎◌}
use Rattle.base.specs.Names.{ASLEEP, FOUND, BASIC, BRANCH, REJECTED}
use Rattle.graph.specs.Graph.{Way}
use Rattle.format_message.specs.Msg.{none}
use Rattle.protocol.specs.Network.{Network, Edge, Tree}
use Rattle.protocol.specs.Notion.{Informed, Both, JoinedEdge, members}

-- ranges of what is coded by numbers
pub record Ranges (st halt due dk : ℕ → ℕ) (mark : ℕ → ℕ → ℕ) : Type 0 where
  pub st-le : (v : ℕ) → st v ≤ FOUND
  pub halt-le : (v : ℕ) → halt v ≤ 1
  pub due-le : (v : ℕ) → due v ≤ 1
  pub dk-le : (a : ℕ) → dk a ≤ 4
  pub mark-le : (v k : ℕ) → mark v k ≤ REJECTED

-- values that are edges or none
pub record Values (p : Network) (bw be : ℕ → ℕ) : Type 0 where
  -- a best weight is an edge
  pub w1w : (v : ℕ) → bw v ≢ none → bw v < p.g.L
  -- a best edge is an own edge
  pub w1e : (v : ℕ) → be v ≢ none → (u : ℕ) × Edge p (be v) v u

-- level and identity
pub record Levels (p : Network) (lev id fr gl gc : ℕ → ℕ) : Type 0 where
  -- nobody is above the fragment's level
  pub g2 : (v : ℕ) → lev v ≤ gl (fr v)
  -- who is informed has the core as identity
  pub g2i : (v : ℕ) → Informed lev fr gl v → id v ≡ gc (fr v)
  -- identity none exactly at level 0
  pub g3z : (v : ℕ) → lev v ≡ 0 → id v ≡ none
  pub g3r : (v : ℕ) → lev v ≢ 0 → id v < p.g.L
  -- the ends of an identity lie in the fragment
  pub g3 : (v x y : ℕ) → lev v ≢ 0 → Edge p (id v) x y → fr x ≡ fr v

-- sizes
pub record Sizes (p : Network) (fr gl : ℕ → ℕ) : Type 0 where
  -- a fragment of level l has at least 2 ^ l nodes
  pub g4 : (v : ℕ) → v < p.N → 2 ^ gl (fr v) ≤ members p fr (fr v)
  -- a fragment of level 0 is a single node
  pub g4s : (v w : ℕ) → gl (fr v) ≡ 0 → fr w ≡ fr v → w ≡ v

-- above level 0 the core is a joined edge of the fragment
pub record Cores (p : Network) (fr gl gc : ℕ → ℕ) (mark : ℕ → ℕ → ℕ) : Type 0 where
  pub g5r : (v : ℕ) → 1 ≤ gl (fr v) → gc (fr v) < p.g.L
  pub g5 : (v x y : ℕ) → 1 ≤ gl (fr v) → Edge p (gc (fr v)) x y → Both mark (gc (fr v)) x y × (fr x ≡ fr v)

-- a sleeper is as at setup. (Level, identity, test edge, in-branch, inbound edge, find-count, halted follow: `sleep-lev` .. in Facts)
pub record AsleepOk (fr gl dk due bw be : ℕ → ℕ) (v : ℕ) : Type 0 where
  pub g6g : gl (fr v) ≡ 0
  pub g6d : dk (fr v) ≡ 0
  pub g6u : due v ≡ 0
  pub g6w : bw v ≡ none
  pub g6e : be v ≡ none

-- sleepers and single nodes
pub record Sleepers (p : Network) (st fr gl dk due bw be ub halt : ℕ → ℕ) (mark : ℕ → ℕ → ℕ) : Type 0 where
  pub g6 : (v : ℕ) → st v ≡ ASLEEP → AsleepOk fr gl dk due bw be v
  pub g6m : (v k : ℕ) → st v ≡ ASLEEP → mark v k ≡ BASIC
  -- an awake node with edges has an inbound edge
  pub u1a : (k v u : ℕ) → Edge p k v u → st v ≢ ASLEEP → ub v ≢ none
  -- an awake single node has sent its Connect; without edges it has halted
  pub g7 : (k v u : ℕ) → Edge p k v u → st v ≢ ASLEEP → gl (fr v) ≡ 0 → dk (fr v) ≡ 3
  pub g7n : (v : ℕ) → st v ≢ ASLEEP → gl (fr v) ≡ 0 → ((k u : ℕ) → Edge p k v u → ⊥) → (dk (fr v) ≡ 4) × (halt v ≡ 1)

-- marks and fragments
pub record Markings (p : Network) (fr : ℕ → ℕ) (mark : ℕ → ℕ → ℕ) : Type 0 where
  -- only own edges are marked
  pub own : (v k : ℕ) → mark v k ≢ BASIC → (u : ℕ) × Edge p k v u
  -- Rejected: inside the fragment, and not Branch at the other end
  pub m1 : (k v u : ℕ) → Edge p k v u → mark v k ≡ REJECTED → (fr v ≡ fr u) × (mark u k ≢ BRANCH)
  -- joined: inside the fragment
  pub m3 : (k v u : ℕ) → Edge p k v u → Both mark k v u → fr v ≡ fr u
  -- the joined edges connect each fragment
  pub m4 : (u v : ℕ) → fr u ≡ fr v → Way p.g (JoinedEdge p mark) u v
  -- a Branch is in the tree
  pub m5 : (k v u : ℕ) → Edge p k v u → mark v k ≡ BRANCH → Tree p k

-- inbound edges
pub record Inbounds (p : Network) (ub ib : ℕ → ℕ) (mark : ℕ → ℕ → ℕ) : Type 0 where
  -- the inbound edge is an own edge, and Branch
  pub u1o : (v : ℕ) → ub v ≢ none → (u : ℕ) × Edge p (ub v) v u
  pub u1 : (k v u : ℕ) → Edge p k v u → ub v ≡ k → mark v k ≡ BRANCH
  -- the in-branch is an own edge, and joined
  pub u1r : (v : ℕ) → ib v ≢ none → (u : ℕ) × Edge p (ib v) v u
  pub u1i : (k v u : ℕ) → Edge p k v u → ib v ≡ k → Both mark k v u
  -- a joined edge is inbound for one of its ends
  pub m3u : (k v u : ℕ) → Edge p k v u → Both mark k v u → (ub v ≡ k) ⊎ (ub u ≡ k)
