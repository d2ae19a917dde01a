-- Clauses on the tree of informed nodes, the search, test edges and best weights that speak of tables, not of channels.
use Rattle.std.specs.Prelude.{ℕ, suc, ◌+◌, ◌≤◌, ◌<◌, ◌≡◌, ◌≢◌, ◌⊎◌}
use Rattle.base.specs.Sum.{sum}
use Rattle.base.specs.Names.{FIND, BASIC, REJECTED}
use Rattle.format_message.specs.Msg.{none}
use Rattle.protocol.specs.Network.{Network, Edge, rank}
use Rattle.protocol.specs.Notion.{Informed, Both, Awaits}

-- the in-branch of an informed node v
pub record Parents (p : Network) (lev fr gl gc ib ub dep side dk : ℕ → ℕ) : Type 0 where
  pub t1 : (v : ℕ) → Informed lev fr gl v → ib v ≢ none
  -- it is the core, at depth 0,
  pub t1d : (v : ℕ) → Informed lev fr gl v → ib v ≡ gc (fr v) → (dep v ≡ 0) × (side v ≡ v)
  -- or leads to an informed node u one less deep, of the same side
  pub t1p : (k v u : ℕ) → Edge p k v u → Informed lev fr gl v → ib v ≡ k → gc (fr v) ≢ k → Informed lev fr gl u × (dep v ≡ suc (dep u)) × (side v ≡ side u)
  -- the in-branch of a core end is the core
  pub t1e : (k v u : ℕ) → Edge p k v u → Informed lev fr gl v → gc (fr v) ≡ k → ib v ≡ k
  -- undecided: it is the inbound edge
  pub t1u : (v : ℕ) → Informed lev fr gl v → dk (fr v) ≡ 0 → ub v ≡ ib v

-- an uninformed core end is due, one level below, with the core inbound but not as in-branch
pub record LowOk (lev fr gl ib ub due : ℕ → ℕ) (k x : ℕ) : Type 0 where
  pub t4d : due x ≡ 1
  pub t4l : lev x + 1 ≡ gl (fr x)
  pub t4b : ub x ≡ k
  pub t4i : ib x ≢ k

-- those beyond a joined edge, those not informed yet
pub record Kids (p : Network) (lev fr gl gc ib ub due : ℕ → ℕ) (mark : ℕ → ℕ → ℕ) : Type 0 where
  -- an informed node beyond a joined edge that is not the in-branch is a child
  pub t2 : (k v c : ℕ) → Edge p k v c → Both mark k v c → Informed lev fr gl v → ib v ≢ k → Informed lev fr gl c → ib c ≡ k
  -- joined nodes that are both uninformed are equally due
  pub t3 : (k a b : ℕ) → Edge p k a b → Both mark k a b → lev a < gl (fr a) → lev b < gl (fr b) → due a ≡ due b
  pub t4u : (k x y : ℕ) → Edge p k x y → Both mark k x y → gc (fr x) ≡ k → lev x < gl (fr x) → LowOk lev fr gl ib ub due k x

-- Find means informed, undecided and due
pub record FindOk (lev fr gl dk due : ℕ → ℕ) (v : ℕ) : Type 0 where
  pub f1i : Informed lev fr gl v
  pub f1k : dk (fr v) ≡ 0
  pub f1u : due v ≡ 1

pub record Finds (st lev fr gl dk due : ℕ → ℕ) : Type 0 where
  pub f1 : (v : ℕ) → st v ≡ FIND → FindOk lev fr gl dk due v
  pub f1d : (v : ℕ) → Informed lev fr gl v → due v ≡ 1 → st v ≡ FIND

-- what a node in Find waits for
pub record Pending (st te fc : ℕ → ℕ) (ot op : ℕ) : Type 0 where
  -- Find: a Report, an answer, or its response is under way
  pub f2 : (v : ℕ) → st v ≡ FIND → (fc v ≢ 0) ⊎ ((te v ≢ none) ⊎ ((ot ≡ suc v) ⊎ (op ≡ suc v)))
  -- else there is no test edge, and nothing to count
  pub f3t : (v : ℕ) → st v ≢ FIND → te v ≡ none
  pub f3c : (v : ℕ) → st v ≢ FIND → fc v ≡ 0
  -- procedures test and report are executed in Find
  pub f5t : (v : ℕ) → ot ≡ suc v → st v ≡ FIND
  pub f5p : (v : ℕ) → op ≡ suc v → st v ≡ FIND

-- the find-count is the number of edges over which a Report is owed (what is owed: Traffic)
pub record FindCounts (p : Network) (fc : ℕ → ℕ) (owe : ℕ → ℕ → ℕ) : Type 0 where
  pub f4 : (v : ℕ) → fc v ≡ sum p.g.L (owe v)
  pub f4l : (v k : ℕ) → owe v k ≤ 1
  pub f4o : (v k : ℕ) → owe v k ≢ 0 → (c : ℕ) × Edge p k v c

-- the test edge of v
pub record Tests (p : Network) (te ib : ℕ → ℕ) (mark : ℕ → ℕ → ℕ) (ot : ℕ) : Type 0 where
  -- it is an own edge,
  pub e2o : (v : ℕ) → te v ≢ none → (u : ℕ) × Edge p (te v) v u
  -- and while v waits: earlier own edges are not Basic,
  pub e2b : (k v u j w : ℕ) → Edge p k v u → Awaits te ot v k → Edge p j v w → mark v j ≡ BASIC → rank p k ≤ rank p j
  -- it is not Rejected; if joined, it is neither the in-branch nor the test edge of the other end
  pub e2r : (k v u : ℕ) → Edge p k v u → Awaits te ot v k → mark v k ≢ REJECTED
  pub e2i : (k v u : ℕ) → Edge p k v u → Awaits te ot v k → Both mark k v u → (ib v ≢ k) × (te u ≢ k)
  -- Rejected at v and Basic at u: u waits for the answer
  pub m6 : (k v u : ℕ) → Edge p k v u → mark v k ≡ REJECTED → mark u k ≡ BASIC → Awaits te ot u k

-- the best weight of an informed node v
pub record Weights (p : Network) (lev fr gl bw be side : ℕ → ℕ) : Type 0 where
  -- best edge none exactly if best weight none
  pub b1n : (v : ℕ) → Informed lev fr gl v → bw v ≡ none → be v ≡ none
  pub b1m : (v : ℕ) → Informed lev fr gl v → be v ≡ none → bw v ≡ none
  -- it leaves the fragment, from an informed node x of v's side to a node y of no lower level
  pub b1 : (v : ℕ) → Informed lev fr gl v → bw v ≢ none
      → (x : ℕ) × (y : ℕ) × Edge p (bw v) x y × (fr x ≡ fr v) × (fr y ≢ fr v) × (gl (fr v) ≤ lev y) × Informed lev fr gl x × (side x ≡ side v)
