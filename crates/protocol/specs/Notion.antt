-- The notions that the clauses of the invariant speak of. Those over a few tables come first; the others take the state.
use Rattle.std.specs.Prelude.{ℕ, suc, ◌≤◌, ◌<◌, ◌≡◌, ◌≢◌, ◌⊎◌}
use Rattle.base.specs.Pool.{sum_l}
use Rattle.base.specs.Names.{FIND, FOUND, BASIC, BRANCH}
use Rattle.graph.proofs.laws.Size.{part_size}
use Rattle.format_message.specs.Msg.{Msg, none, initiate, report}
use Rattle.protocol.specs.Network.{Network, Edge, key, rank}
use Rattle.protocol.specs.State.{ProtocolState}
use Rattle.protocol.specs.Kind.{is_ci, is_r}
use Rattle.protocol.specs.Chan.{In, Bef}

-- v has its fragment's level, which is 1 or more
abbrev pub Informed : (ℕ → ℕ) → (ℕ → ℕ) → (ℕ → ℕ) → ℕ → Type 0
Informed lev fr gl v = (1 ≤ gl (fr v)) × (lev v ≡ gl (fr v))

-- edge k is Branch at both its ends a and b
abbrev pub Both : (ℕ → ℕ → ℕ) → ℕ → ℕ → ℕ → Type 0
Both mark k a b = (mark a k ≡ BRANCH) × (mark b k ≡ BRANCH)

-- the same of k alone
abbrev pub JoinedEdge : Network → (ℕ → ℕ → ℕ) → ℕ → Type 0
JoinedEdge p mark k = Both mark k (p.g.lo k) (p.g.hi k)

-- no edge that a node of a's fragment has marked Basic has a rank below n
abbrev pub Bounding : Network → (ℕ → ℕ) → (ℕ → ℕ → ℕ) → ℕ → ℕ → Type 0
Bounding p fr mark n a = (u j w : ℕ) → fr u ≡ fr a → Edge p j u w → mark u j ≡ BASIC → n ≤ rank p j

-- the decision of z's fragment is of kind d, with node z and edge k
abbrev pub Decision : ℕ → (ℕ → ℕ) → (ℕ → ℕ) → (ℕ → ℕ) → (ℕ → ℕ) → ℕ → ℕ → Type 0
Decision d dk dn de fr z k = (dk (fr z) ≡ d) × (dn (fr z) ≡ z) × (de (fr z) ≡ k)

-- x executes procedure change-root for its fragment
abbrev pub Rooting : (ℕ → ℕ) → (ℕ → ℕ) → (ℕ → ℕ) → ℕ → Type 0
Rooting dk dn fr x = (dk (fr x) ≡ 1) × (dn (fr x) ≡ x)

-- u waits for the answer to its Test over k
abbrev pub Awaits : (ℕ → ℕ) → ℕ → ℕ → ℕ → Type 0
Awaits te ot u k = (te u ≡ k) × (ot ≢ suc u)

-- the number of nodes of label a
abbrev pub members : Network → (ℕ → ℕ) → ℕ → ℕ
members p fr a = part_size p.N fr a

-- ---- over the state

-- level, core and decision of v's fragment
abbrev pub GL : ProtocolState → ℕ → ℕ
GL s v = s.gl (s.fr v)

abbrev pub GC : ProtocolState → ℕ → ℕ
GC s v = s.gc (s.fr v)

abbrev pub DK : ProtocolState → ℕ → ℕ
DK s v = s.dk (s.fr v)

abbrev pub Inf : ProtocolState → ℕ → Type 0
Inf s v = Informed s.lev s.fr s.gl v

-- k is joined
abbrev pub Jn : ProtocolState → ℕ → ℕ → ℕ → Type 0
Jn s k a b = Both s.mark k a b

abbrev pub Bounds : Network → ProtocolState → ℕ → ℕ → Type 0
Bounds p s n a = Bounding p s.fr s.mark n a

-- z has sent Connect over k, and k is not Branch at its other end
abbrev pub Half : ProtocolState → ℕ → ℕ → Type 0
Half s z k = Decision 3 s.dk s.dn s.de s.fr z k

-- u has sent Change-root over k
abbrev pub Changing : ProtocolState → ℕ → ℕ → Type 0
Changing s u k = Decision 2 s.dk s.dn s.de s.fr u k

abbrev pub Root : ProtocolState → ℕ → Type 0
Root s x = Rooting s.dk s.dn s.fr x

abbrev pub Waits : ProtocolState → ℕ → ℕ → Type 0
Waits s u k = Awaits s.te s.ot u k

-- the Report of c, over k, is still to come
abbrev pub Outst : ProtocolState → ℕ → ℕ → Type 0
Outst s c k = (Inf s c × ((s.st c ≡ FIND) ⊎ (1 ≤ sum_l is_r (s.ch c k)))) ⊎ ((s.lev c < GL s c) × (s.due c ≡ 1))

-- the best weight of x still counts: x is Find, or a core end, or its Report is on its way
abbrev pub Counting : ProtocolState → ℕ → Type 0
Counting s x = (s.st x ≡ FIND) ⊎ ((s.ib x ≡ GC s x) ⊎ (1 ≤ sum_l is_r (s.ch x (s.ib x))))

-- some live best weight in u's fragment has a rank of at most n
abbrev pub Covered : Network → ProtocolState → ℕ → ℕ → Type 0
Covered p s u n = (x : ℕ) × (s.fr x ≡ s.fr u) × Inf s x × (s.bw x ≢ none) × Counting s x × (key p (s.bw x) ≤ n)

-- A Report w from u to v over k is of one of three kinds:
-- a child's, to its parent that searches,
abbrev pub Child : ProtocolState → ℕ → ℕ → ℕ → ℕ → Type 0
Child s u v k w =
    Inf s u × (s.ib u ≡ k) × (GC s u ≢ k) × (s.st u ≡ FOUND) × (s.bw u ≡ w) × Inf s v × (s.st v ≡ FIND) × (sum_l is_ci (s.ch u k) ≡ 0)

-- one between the core ends (no Connect or Initiate behind it; ahead of it none, or the receiver's Initiate),
abbrev pub CoreEnds : ProtocolState → ℕ → ℕ → ℕ → ℕ → Type 0
CoreEnds s u v k w =
    (GC s u ≡ k) × (DK s u ≡ 0) × Inf s u × (s.st u ≡ FOUND) × (s.bw u ≡ w) × ((m : Msg) → Bef (report w) m (s.ch u k) → is_ci m ≡ 0)
    × ((Inf s v × (sum_l is_ci (s.ch u k) ≡ 0)) ⊎ ((s.lev v < GL s v) × In (initiate (GL s v) k 1) (s.ch u k)))

-- or one that will do nothing (no Connect or Initiate ahead of it), but for none against none in a finished fragment
abbrev pub Spent : Network → ProtocolState → ℕ → ℕ → ℕ → ℕ → Type 0
Spent p s u v k w =
    (s.ib v ≡ k) × (s.id v ≡ k) × (s.ub v ≡ k) × (s.st v ≡ FOUND) × ((m : Msg) → Bef m (report w) (s.ch u k) → is_ci m ≡ 0)
    × ((key p w < key p (s.bw v)) ⊎ ((w ≡ none) × (s.bw v ≡ none) × (DK s v ≡ 4) × (GC s v ≡ k)))
