-- Clauses on what is under way on the channels.
use Rattle.std.specs.Prelude.{ℕ, suc, ◌+◌, ◌≤◌, ◌<◌, ◌≡◌, ◌≢◌, ◌⊎◌, []}
use Rattle.base.specs.Pool.{All, sum_l}
use Rattle.base.specs.Names.{ASLEEP, FOUND, BASIC, BRANCH, REJECTED}
use Rattle.format_message.specs.Msg.{Msg, none, connect, initiate, test, accept, reject, report, change}
use Rattle.protocol.specs.Network.{Network, Edge, key, rank}
use Rattle.protocol.specs.State.{ProtocolState}
use Rattle.protocol.specs.Kind.{is_c, is_t, is_a, is_r, Only, Rouse, Fits, top}
use Rattle.protocol.specs.Chan.{In, Bef}
use Rattle.protocol.specs.Notion.{Informed, Both, Awaits, GL, GC, DK, Inf, Jn, Half, Changing, Root, Waits, Outst, Covered, Child, CoreEnds, Spent}

-- a sleeper has sent nothing, and only Connect and Test are on their way to it
pub record Hush (p : Network) (s : ProtocolState) : Type 0 where
  pub g6o : (k v u : ℕ) → Edge p k v u → s.st v ≡ ASLEEP → s.ch v k ≡ []
  pub g6i : (k u v : ℕ) → Edge p k u v → s.st v ≡ ASLEEP → All Rouse (s.ch u k)

-- the messages of a decision
pub record Tokens (p : Network) (s : ProtocolState) : Type 0 where
  -- half: besides answers the channel holds just that Connect of the fragment's level
  pub d1c : (k z y : ℕ) → Edge p k z y → Half s z k → In (connect (GL s z)) (s.ch z k)
  pub d1a : (k z y : ℕ) → Edge p k z y → Half s z k → All (Only (GL s z)) (s.ch z k)
  -- changing: the Change-root is there, and a Change-root is the fragment's decision
  pub d2c : (k u x : ℕ) → Edge p k u x → Changing s u k → In change (s.ch u k)
  pub k1 : (k u x : ℕ) → Edge p k u x → In change (s.ch u k) → Changing s u k
  -- root: no Report is on its way to it by its in-branch
  pub d3r : (k x y : ℕ) → Edge p k x y → Root s x → s.ib x ≡ k → sum_l is_r (s.ch y k) ≡ 0
  -- finished: a core end has halted, or its partner's Report of none waits, and not both
  pub d4h : (k x y : ℕ) → Edge p k x y → GC s x ≡ k → DK s x ≡ 4 → 1 ≤ GL s x → s.halt x ≢ 0 → ¬ In (report none) (s.ch y k)
  pub d4r : (k x y : ℕ) → Edge p k x y → GC s x ≡ k → DK s x ≡ 4 → 1 ≤ GL s x → s.halt x ≡ 0 → In (report none) (s.ch y k)
  -- undecided: the Report of a Found core end waits, or its partner is Found with a later best weight and its Report waits
  pub d7 : (k x y : ℕ) → Edge p k x y → GC s x ≡ k → DK s x ≡ 0 → Inf s x → s.st x ≡ FOUND
      → (1 ≤ sum_l is_r (s.ch x k)) ⊎ (Inf s y × (s.st y ≡ FOUND) × (key p (s.bw x) < key p (s.bw y)) × (1 ≤ sum_l is_r (s.ch y k)))

-- a Connect from u to v over k
pub record Connects (p : Network) (s : ProtocolState) : Type 0 where
  pub c1m : (k u v l : ℕ) → Edge p k u v → In (connect l) (s.ch u k) → s.mark u k ≡ BRANCH
  -- on a joined edge: the core, one level below, to an end of that level
  pub c1 : (k u v l : ℕ) → Edge p k u v → In (connect l) (s.ch u k) → s.mark v k ≡ BRANCH → (GC s u ≡ k) × (l + 1 ≡ GL s u) × (s.lev v ≡ l)

-- an Initiate (l, f, x) from u to v over k
pub record InitOk (p : Network) (lev fr gl gc ub due : ℕ → ℕ) (mark : ℕ → ℕ → ℕ) (k u v l f x : ℕ) : Type 0 where
  -- on a joined edge that is inbound for its receiver, whose level it raises, to at most the fragment's
  pub i1j : Both mark k u v
  pub i1u : ub v ≡ k
  pub i1l : lev v < l
  pub i1g : l ≤ gl (fr v)
  -- its identity is an edge inside the fragment
  pub i1f : f < p.g.L
  pub i1i : (a b : ℕ) → Edge p f a b → fr a ≡ fr v
  -- at the fragment's level: the core, Find exactly if due, the sender informed or the edge the core
  pub i1c : l ≡ gl (fr v) → f ≡ gc (fr v)
  pub i1d : l ≡ gl (fr v) → x ≡ due v
  pub i1s : l ≡ gl (fr v) → gc (fr v) ≢ k → Informed lev fr gl u
  -- below it: Found
  pub i1z : l < gl (fr v) → x ≡ 0

pub record Initiates (p : Network) (s : ProtocolState) : Type 0 where
  pub i1 : (k u v l f x : ℕ) → Edge p k u v → In (initiate l f x) (s.ch u k) → InitOk p s.lev s.fr s.gl s.gc s.ub s.due s.mark k u v l f x

-- Initiates to come
pub record Telling (p : Network) (s : ProtocolState) : Type 0 where
  -- what v was told has arrived across a joined edge that is not inbound for v, or is on its way, and nothing newer
  pub u2 : (k v c : ℕ) → Edge p k v c → Jn s k v c → s.ub v ≢ k → s.lev v ≡ top (s.lev c) (s.ch v k)
  -- an uninformed child has the Initiate of the fragment's level on its way
  pub t2i : (k v c : ℕ) → Edge p k v c → Jn s k v c → Inf s v → s.ib v ≢ k → s.lev c < GL s c → In (initiate (GL s v) (GC s v) (s.due c)) (s.ch v k)
  -- a core end: its Connect is on the core, or its Initiate, or it is informed
  pub t4 : (k x y : ℕ) → Edge p k x y → Jn s k x y → GC s x ≡ k → (1 ≤ sum_l is_c (s.ch x k)) ⊎ (In (initiate (GL s x) k 1) (s.ch y k) ⊎ Inf s x)
  -- while its Connect is there it is not informed, and its Initiate is not there
  pub t4n : (k x y : ℕ) → Edge p k x y → Jn s k x y → GC s x ≡ k → 1 ≤ sum_l is_c (s.ch x k) → (s.lev x < GL s x) × (¬ In (initiate (GL s x) k 1) (s.ch y k))

-- a Test, and what the owner of a test edge waits for
pub record Testing (p : Network) (s : ProtocolState) : Type 0 where
  -- it carries level and identity of its informed sender
  pub e1 : (k u v l f : ℕ) → Edge p k u v → In (test l f) (s.ch u k) → (s.lev u ≡ l) × (s.id u ≡ f) × Inf s u
  -- its sender waits for the answer, or it crossed: Rejected at the sender, and the receiver waits
  pub e1w : (k u v l f : ℕ) → Edge p k u v → In (test l f) (s.ch u k)
      → (Waits s u k × (s.mark u k ≢ REJECTED) × (s.mark u k ≡ BRANCH → s.mark v k ≡ BRANCH))
      ⊎ (((s.te u ≢ k) ⊎ (s.ot ≡ suc u)) × (s.mark u k ≡ REJECTED) × Waits s v k × (s.fr u ≡ s.fr v))
  -- who waits has exactly one of: its Test, an answer, a Test of the other end that crossed
  pub e2w : (k v u : ℕ) → Edge p k v u → Waits s v k → Waits s u k → sum_l is_t (s.ch v k) + sum_l is_a (s.ch u k) ≡ 1
  pub e2c : (k v u : ℕ) → Edge p k v u → Waits s v k → (s.te u ≢ k) ⊎ (s.ot ≡ suc u) → sum_l is_t (s.ch v k) + sum_l is_a (s.ch u k) + sum_l is_t (s.ch u k) ≡ 1
  -- Rejected at v and Basic at u: u's Test has been served
  pub m6t : (k v u : ℕ) → Edge p k v u → s.mark v k ≡ REJECTED → s.mark u k ≡ BASIC → sum_l is_t (s.ch u k) ≡ 0

-- an Accept from u to v over k: v waits, the edge is Basic, u is of another fragment and of no lower level
pub record AcceptOk (te fr lev : ℕ → ℕ) (mark : ℕ → ℕ → ℕ) (ot k u v : ℕ) : Type 0 where
  pub a1w : Awaits te ot v k
  pub a1m : mark v k ≡ BASIC
  pub a1f : fr u ≢ fr v
  pub a1l : lev v ≤ lev u

-- a Reject from u to v over k: v waits, u is of the same fragment, and where v is Basic u is Rejected
pub record RejectOk (te fr : ℕ → ℕ) (mark : ℕ → ℕ → ℕ) (ot k u v : ℕ) : Type 0 where
  pub j1w : Awaits te ot v k
  pub j1f : fr u ≡ fr v
  pub j1m : mark v k ≡ BASIC → mark u k ≡ REJECTED

-- answers on their way
pub record Answers (p : Network) (s : ProtocolState) : Type 0 where
  pub a1 : (k u v : ℕ) → Edge p k u v → In accept (s.ch u k) → AcceptOk s.te s.fr s.lev s.mark s.ot k u v
  pub j1 : (k u v : ℕ) → Edge p k u v → In reject (s.ch u k) → RejectOk s.te s.fr s.mark s.ot k u v

-- a Report w from u to v over k
pub record Reports (p : Network) (s : ProtocolState) : Type 0 where
  pub r1r : (k u v w : ℕ) → Edge p k u v → In (report w) (s.ch u k) → w ≢ none → w < p.g.L
  pub r1j : (k u v w : ℕ) → Edge p k u v → In (report w) (s.ch u k) → Jn s k u v
  pub r1 : (k u v w : ℕ) → Edge p k u v → In (report w) (s.ch u k) → Child s u v k w ⊎ (CoreEnds s u v k w ⊎ Spent p s u v k w)
  -- to an informed end of an undecided core it is a core end's
  pub r1c : (k u v w : ℕ) → Edge p k u v → In (report w) (s.ch u k) → Inf s v → DK s v ≡ 0 → GC s v ≡ k → CoreEnds s u v k w

-- over which edges a Report is owed
pub record Owing (p : Network) (s : ProtocolState) : Type 0 where
  pub f4y : (k v c : ℕ) → Edge p k v c → s.owe v k ≢ 0 → Inf s v × Jn s k v c × (s.ib v ≢ k) × Outst s c k
  pub f4n : (k v c : ℕ) → Edge p k v c → Inf s v → Jn s k v c → s.ib v ≢ k → Outst s c k → s.owe v k ≡ 1

-- best weights
pub record Bests (p : Network) (s : ProtocolState) : Type 0 where
  -- a best edge other than the best weight leads to an informed Found child with that best weight, whose Report is consumed
  pub b1e : (v : ℕ) → Inf s v → s.bw v ≢ none → s.be v ≢ s.bw v
      → (c : ℕ) × Edge p (s.be v) v c × Jn s (s.be v) v c × (s.ib v ≢ s.be v) × Inf s c × (s.ib c ≡ s.be v) × (s.bw c ≡ s.bw v) × (s.st c ≡ FOUND) × (sum_l is_r (s.ch c (s.be v)) ≡ 0)
  -- undecided: an edge that is Basic at u is still to be searched, or not earlier than u's test edge, or than a live best weight
  pub b2 : (k u w : ℕ) → Edge p k u w → s.mark u k ≡ BASIC → DK s u ≡ 0 → 1 ≤ GL s u
      → ((s.lev u < GL s u) × (s.due u ≡ 1)) ⊎ ((s.ot ≡ suc u) ⊎ (((s.te u ≢ none) × (key p (s.te u) ≤ rank p k)) ⊎ Covered p s u (rank p k)))

-- the order in a channel
pub record Ordered (p : Network) (s : ProtocolState) : Type 0 where
  pub q1 : (k u v : ℕ) (m n : Msg) → Edge p k u v → Bef m n (s.ch u k) → Fits m n
