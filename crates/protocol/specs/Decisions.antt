-- Clauses on the decisions of fragments that speak of tables, not of channels.
use Rattle.std.specs.Prelude.{ℕ, suc, ◌≤◌, ◌≡◌, ◌≢◌}
use Rattle.base.specs.Names.{BASIC, BRANCH}
use Rattle.format_message.specs.Msg.{none}
use Rattle.protocol.specs.Network.{Network, Edge, key, rank}
use Rattle.protocol.specs.Notion.{Informed, Both, Bounding, Decision, Rooting}

-- dk 3, node z has sent Connect over k, whose other end is y
pub record HalfOk (p : Network) (fr gl lev ub : ℕ → ℕ) (mark : ℕ → ℕ → ℕ) (k z y : ℕ) : Type 0 where
  -- Branch here, Basic at the other end, which lies outside and is of no lower level
  pub d1m : mark z k ≡ BRANCH
  pub d1y : mark y k ≡ BASIC
  pub d1o : fr y ≢ fr z
  pub d1g : gl (fr z) ≤ lev y
  -- z has its fragment's level, and the edge is inbound for it
  pub d1l : lev z ≡ gl (fr z)
  pub d1u : ub z ≡ k
  -- the edge is not later than any edge that is Basic in the fragment
  pub d1b : Bounding p fr mark (rank p k) z

-- decisions half
pub record Halves (p : Network) (dk dn de fr gl lev ub : ℕ → ℕ) (mark : ℕ → ℕ → ℕ) : Type 0 where
  -- an edge that is Branch at one end only is that end's decision
  pub m2 : (k v u : ℕ) → Edge p k v u → mark v k ≡ BRANCH → mark u k ≢ BRANCH → Decision 3 dk dn de fr v k
  -- the node of the decision lies in the fragment, the edge is its own
  pub d1f : (v : ℕ) → dk (fr v) ≡ 3 → fr (dn (fr v)) ≡ fr v
  pub d1e : (v : ℕ) → dk (fr v) ≡ 3 → (y : ℕ) × Edge p (de (fr v)) (dn (fr v)) y
  pub d1 : (k z y : ℕ) → Edge p k z y → Decision 3 dk dn de fr z k → HalfOk p fr gl lev ub mark k z y

-- dk 2, node u has sent Change-root over k to x
pub record ChangingOk (p : Network) (fr gl gc lev ib ub bw : ℕ → ℕ) (mark : ℕ → ℕ → ℕ) (k u x : ℕ) : Type 0 where
  -- the edge is joined, and not the core
  pub d2j : Both mark k u x
  pub d2g : gc (fr u) ≢ k
  -- both ends are informed; it is the receiver's in-branch, and inbound for both
  pub d2i : Informed lev fr gl u
  pub d2x : Informed lev fr gl x
  pub d2b : ib x ≡ k
  pub d2u : ub u ≡ k
  pub d2v : ub x ≡ k
  -- the receiver's best weight is not later than any edge that is Basic in the fragment
  pub d2w : bw x ≢ none
  pub d2n : Bounding p fr mark (key p (bw x)) x

-- decisions changing
pub record ChangeRoots (p : Network) (dk dn de fr gl gc lev ib ub bw : ℕ → ℕ) (mark : ℕ → ℕ → ℕ) : Type 0 where
  pub d2f : (v : ℕ) → dk (fr v) ≡ 2 → fr (dn (fr v)) ≡ fr v
  pub d2e : (v : ℕ) → dk (fr v) ≡ 2 → (x : ℕ) × Edge p (de (fr v)) (dn (fr v)) x
  pub d2 : (k u x : ℕ) → Edge p k u x → Decision 2 dk dn de fr u k → ChangingOk p fr gl gc lev ib ub bw mark k u x

-- dk 1, node x is about to execute procedure change-root
pub record RootOk (p : Network) (fr gl lev ib ub bw : ℕ → ℕ) (mark : ℕ → ℕ → ℕ) (x : ℕ) : Type 0 where
  -- it is informed, and its best weight is not later than any edge that is Basic in the fragment
  pub d3i : Informed lev fr gl x
  pub d3w : bw x ≢ none
  pub d3b : Bounding p fr mark (key p (bw x)) x
  -- its in-branch is inbound for both ends
  pub d3u : ub x ≡ ib x
  pub d3v : (k y : ℕ) → Edge p k x y → ib x ≡ k → ub y ≡ k

-- decisions root
pub record Rootings (p : Network) (dk dn fr gl lev ib ub bw : ℕ → ℕ) (mark : ℕ → ℕ → ℕ) (oo : ℕ) : Type 0 where
  pub d3f : (v : ℕ) → dk (fr v) ≡ 1 → fr (dn (fr v)) ≡ fr v
  pub d3o : (v : ℕ) → dk (fr v) ≡ 1 → oo ≡ suc (dn (fr v))
  pub f5r : (v : ℕ) → oo ≡ suc v → Rooting dk dn fr v
  pub d3 : (x : ℕ) → Rooting dk dn fr x → RootOk p fr gl lev ib ub bw mark x

-- dk 4, the fragment is finished
pub record Finishes (p : Network) (dk fr gl gc lev bw halt due : ℕ → ℕ) (mark : ℕ → ℕ → ℕ) : Type 0 where
  -- nothing is Basic in the fragment
  pub d4 : (k v u : ℕ) → Edge p k v u → dk (fr v) ≡ 4 → mark v k ≢ BASIC
  -- above level 0 both core ends are informed and found nothing
  pub d4i : (k x y : ℕ) → Edge p k x y → gc (fr x) ≡ k → dk (fr x) ≡ 4 → 1 ≤ gl (fr x) → Informed lev fr gl x × (bw x ≡ none)
  -- once decided, nobody is due
  pub d5 : (v : ℕ) → dk (fr v) ≢ 0 → due v ≡ 0
  -- who has halted is a core end, or has no edge, of a finished fragment
  pub d6 : (v : ℕ) → halt v ≢ 0 → dk (fr v) ≡ 4
  pub d6c : (k v u : ℕ) → Edge p k v u → halt v ≢ 0 → (y : ℕ) × Edge p (gc (fr v)) v y
