-- The small steps. A response of the appendix is one or more of them, one after the other; between them `ot`, `op`, `oo`
-- name the node at which procedure test, report or change-root is still to be executed.
use Rattle.std.specs.Prelude.{ℕ, suc, ◌+◌, ◌-◌, ◌*◌, ◌≤◌, ◌<◌, ◌≡◌, ◌≢◌, ◌⊎◌, Bool, cond, ◌&&◌, List, [], ◌∷◌, ◌++◌, eqb}
use Rattle.base.specs.Cond.{upd, upd2, bit}
use Rattle.base.specs.Sum.{sum}
use Rattle.base.specs.Names.{ASLEEP, FIND, FOUND, BASIC, BRANCH, REJECTED, branches}
use Rattle.format_message.specs.Msg.{Msg, none, connect, initiate, test, accept, reject, report, change}
use Rattle.protocol.specs.Network.{Network, Edge, key, rank}
use Rattle.protocol.specs.State.{ProtocolState, set-st, set-lev, set-id, set-bw, set-be, set-te, set-ib, set-fc, set-halt, set-mark, set-ch, set-fr, set-gl}
use Rattle.protocol.specs.State.{set-gc, set-dk, set-dn, set-de, set-due, set-dep, set-side, set-ub, set-owe, set-ot, set-op, set-oo}

-- ---- guards

-- no response is under way
abbrev pub Idle : ProtocolState → Type 0
Idle s = (s.ot ≡ 0) × (s.op ≡ 0) × (s.oo ≡ 0)

-- m, which came over k, is put back by v
abbrev pub Blocked : ProtocolState → ℕ → ℕ → Msg → Type 0
Blocked s v k (connect l) = (s.lev v ≤ l) × (s.mark v k ≡ BASIC)
Blocked s v k (initiate l f x) = ⊥
Blocked s v k (test l f) = s.lev v < l
Blocked s v k accept = ⊥
Blocked s v k reject = ⊥
Blocked s v k (report w) = (s.ib v ≡ k) × (s.st v ≡ FIND)
Blocked s v k change = ⊥

-- k is the earliest own edge of v
abbrev pub FirstOwn : Network → ℕ → ℕ → Type 0
FirstOwn p v k = (j w : ℕ) → Edge p j v w → rank p k ≤ rank p j

-- k is the earliest own edge of v with mark Basic
abbrev pub FirstBasic : Network → ProtocolState → ℕ → ℕ → Type 0
FirstBasic p s v k = (s.mark v k ≡ BASIC) × ((j w : ℕ) → Edge p j v w → s.mark v j ≡ BASIC → rank p k ≤ rank p j)

-- x is v's Find bit
abbrev pub Flag : ProtocolState → ℕ → ℕ → Type 0
Flag s v x = ((s.st v ≡ FIND) × (x ≡ 1)) ⊎ ((s.st v ≢ FIND) × (x ≡ 0))

-- weight w, from edge k, against v's best: b and e are the new best weight and best edge
abbrev pub Better : Network → ProtocolState → ℕ → ℕ → ℕ → ℕ → ℕ → Type 0
Better p s v w k b e = ((key p w < key p (s.bw v)) × (b ≡ w) × (e ≡ k)) ⊎ ((key p (s.bw v) ≤ key p w) × (b ≡ s.bw v) × (e ≡ s.be v))

-- c is v's mark for k once Basic has become Rejected
abbrev pub Strike : ProtocolState → ℕ → ℕ → ℕ → Type 0
Strike s v k c = ((s.mark v k ≡ BASIC) × (c ≡ REJECTED)) ⊎ ((s.mark v k ≢ BASIC) × (c ≡ s.mark v k))

-- an Initiate with Find bit x makes v's status a; b is the open test afterwards
abbrev pub Mode : ℕ → ℕ → ℕ → ℕ → Type 0
Mode v x a b = ((x ≡ 1) × (a ≡ FIND) × (b ≡ suc v)) ⊎ ((x ≡ 0) × (a ≡ FOUND) × (b ≡ 0))

-- depth d and side e of v, told by u over k
abbrev pub Place : ProtocolState → ℕ → ℕ → ℕ → ℕ → ℕ → Type 0
Place s u v k d e = ((k ≡ s.gc (s.fr v)) × (d ≡ 0) × (e ≡ v)) ⊎ ((k ≢ s.gc (s.fr v)) × (d ≡ suc (s.dep u)) × (e ≡ s.side u))

-- ---- what a step does

-- m goes to the end of the channel from v over k
abbrev pub send_over : ProtocolState → ℕ → ℕ → Msg → ProtocolState
send_over s v k m = set-ch s (upd2 s.ch v k (s.ch v k ++ (m ∷ [])))

-- the channel from u over k becomes r
abbrev pub pop : ProtocolState → ℕ → ℕ → List Msg → ProtocolState
pop s u k r = set-ch s (upd2 s.ch u k r)

abbrev pub remarked : ProtocolState → ℕ → ℕ → ℕ → ProtocolState
remarked s v k c = set-mark s (upd2 s.mark v k c)

-- (2) procedure wakeup, with document 01's list of what waking sets
abbrev pub woken_up : ProtocolState → ℕ → ProtocolState
woken_up s v =
    set-fc
    (set-ib
    (set-bw
    (set-te
    (set-be
    (set-id
    (set-lev
    (set-st s (upd s.st v FOUND))
    (upd s.lev v 0))
    (upd s.id v none))
    (upd s.be v none))
    (upd s.te v none))
    (upd s.bw v none))
    (upd s.ib v none))
    (upd s.fc v 0)

-- decision of v's fragment: kind d, node n, edge k
abbrev pub decided : ProtocolState → ℕ → ℕ → ℕ → ℕ → ProtocolState
decided s v d n k = set-de (set-dn (set-dk s (upd s.dk (s.fr v) d)) (upd s.dn (s.fr v) n)) (upd s.de (s.fr v) k)

-- v sends Connect of level l over k and marks it Branch
abbrev pub halved : ProtocolState → ℕ → ℕ → ℕ → ProtocolState
halved s v k l = decided (set-ub (remarked (send_over s v k (connect l)) v k BRANCH) (upd s.ub v k)) v 3 v k

-- those of label a get x
unfoldable pub bulk : {A : Type 0} → (ℕ → ℕ) → ℕ → A → (ℕ → A) → ℕ → A
bulk fr a x f w = cond (eqb (fr w) a) x (f w)

-- the fragments of v and y, of one level, become one of the next level, with core k
abbrev pub merged : ProtocolState → ℕ → ℕ → ℕ → ProtocolState
merged s v y k =
    set-due
    (set-dk
    (set-gc
    (set-gl
    (set-fr s (bulk s.fr (s.fr y) (s.fr v) s.fr))
    (upd s.gl (s.fr v) (suc (s.gl (s.fr v)))))
    (upd s.gc (s.fr v) k))
    (upd s.dk (s.fr v) 0))
    (bulk s.fr (s.fr y) 1 (bulk s.fr (s.fr v) 1 s.due))

-- (3) v absorbs u's fragment over k; x is v's Find bit
abbrev pub absorbed : ProtocolState → ℕ → ℕ → ℕ → ℕ → ProtocolState
absorbed s u v k x =
    set-owe
    (set-fc
    (set-due
    (set-fr
    (remarked (send_over s v k (initiate (s.lev v) (s.id v) x)) v k BRANCH)
    (bulk s.fr (s.fr u) (s.fr v) s.fr))
    (bulk s.fr (s.fr u) (s.due v) s.due))
    (upd s.fc v (s.fc v + x)))
    (upd2 s.owe v k x)

-- (4) the edges over which v, told over k, sends a copy
unfoldable pub copy : ProtocolState → ℕ → ℕ → ℕ → Bool
copy s v k j = branches k (s.mark v) j

-- m goes to the end of the channel from v over each edge with f
unfoldable pub fan : (ℕ → ℕ → List Msg) → ℕ → (ℕ → Bool) → Msg → ℕ → ℕ → List Msg
fan c v f m a j = cond (eqb v a && f j) (c a j ++ (m ∷ [])) (c a j)

-- v's entry becomes x for each edge with f
unfoldable pub fill_edges : (ℕ → ℕ → ℕ) → ℕ → (ℕ → Bool) → ℕ → ℕ → ℕ → ℕ
fill_edges t v f x a j = cond (eqb v a && f j) x (t a j)

-- (4) v takes the values of Initiate (l, f, x) that came over k and sends the copies. a: new status, d, e: depth and side, b: open test
abbrev pub initiated : Network → ProtocolState → ℕ → ℕ → ℕ → ℕ → ℕ → ℕ → ℕ → ℕ → ℕ → ProtocolState
initiated p s v k l f x a d e b =
    set-ot
    (set-owe
    (set-fc
    (set-ch
    (set-side
    (set-dep
    (set-bw
    (set-be
    (set-ib
    (set-st
    (set-id
    (set-lev s (upd s.lev v l))
    (upd s.id v f))
    (upd s.st v a))
    (upd s.ib v k))
    (upd s.be v none))
    (upd s.bw v none))
    (upd s.dep v d))
    (upd s.side v e))
    (fan s.ch v (copy s v k) (initiate l f x)))
    (upd s.fc v (s.fc v + x * sum p.g.L (λ j. bit (copy s v k j)))))
    (fill_edges s.owe v (copy s v k) x))
    b

-- v's best weight and best edge become b and e
abbrev pub bested : ProtocolState → ℕ → ℕ → ℕ → ProtocolState
bested s v b e = set-be (set-bw s (upd s.bw v b)) (upd s.be v e)

-- v is to execute procedure change-root
abbrev pub rooted : ProtocolState → ℕ → ProtocolState
rooted s v = set-oo (set-dn (set-dk s (upd s.dk (s.fr v) 1)) (upd s.dn (s.fr v) v)) (suc v)

-- (9) v sends its Report over k
abbrev pub report_sent : ProtocolState → ℕ → ℕ → ProtocolState
report_sent s v k = set-op (set-due (set-st (send_over s v k (report (s.bw v))) (upd s.st v FOUND)) (upd s.due v 0)) 0

-- ---- the steps

pub data SmallStep (p : Network) (s : ProtocolState) : ProtocolState → Type 0 where
  -- (2) wakeup of a node without edges, of one whose earliest edge k is no branch at the other end y, of one where it is
  wake-lone : {v : ℕ} → Idle s → v < p.N → s.st v ≡ ASLEEP → ((k u : ℕ) → Edge p k v u → ⊥)
      → SmallStep p s (set-halt (set-dk (woken_up s v) (upd s.dk (s.fr v) 4)) (upd s.halt v 1))
  wake-half : {v k y : ℕ} → Idle s → Edge p k v y → s.st v ≡ ASLEEP → FirstOwn p v k → s.mark y k ≢ BRANCH → SmallStep p s (halved (woken_up s v) v k 0)
  wake-merge : {v k y : ℕ} → Idle s → Edge p k v y → s.st v ≡ ASLEEP → FirstOwn p v k → s.mark y k ≡ BRANCH → SmallStep p s (merged (halved (woken_up s v) v k 0) v y k)
  -- a put-back: the message at the head goes to a later place
  back : {u v k : ℕ} {m : Msg} (a b : List Msg) → Idle s → Edge p k u v → s.st v ≢ ASLEEP → s.ch u k ≡ m ∷ (a ++ b) → Blocked s v k m
      → SmallStep p s (pop s u k (a ++ (m ∷ b)))
  -- (3) Connect: of a lower level; of the same level, on an edge that is not Basic
  absorb : {u v k l x : ℕ} {r : List Msg} → Idle s → Edge p k u v → s.st v ≢ ASLEEP → s.ch u k ≡ connect l ∷ r → l < s.lev v → Flag s v x
      → SmallStep p s (absorbed (pop s u k r) u v k x)
  core-reply : {u v k l : ℕ} {r : List Msg} → Idle s → Edge p k u v → s.st v ≢ ASLEEP → s.ch u k ≡ connect l ∷ r → s.lev v ≤ l → s.mark v k ≢ BASIC
      → SmallStep p s (send_over (pop s u k r) v k (initiate (s.lev v + 1) k 1))
  -- (4) Initiate
  tell : {u v k l f x a b d e : ℕ} {r : List Msg} → Idle s → Edge p k u v → s.ch u k ≡ initiate l f x ∷ r → Mode v x a b → Place s u v k d e
      → SmallStep p s (initiated p (pop s u k r) v k l f x a d e b)
  -- (6) Test: of another fragment; of the same; of the same over v's own test edge
  accept-test : {u v k l f : ℕ} {r : List Msg} → Idle s → Edge p k u v → s.st v ≢ ASLEEP → s.ch u k ≡ test l f ∷ r → l ≤ s.lev v → s.id v ≢ f
      → SmallStep p s (send_over (pop s u k r) v k accept)
  reject-test : {u v k l f c : ℕ} {r : List Msg} → Idle s → Edge p k u v → s.st v ≢ ASLEEP → s.ch u k ≡ test l f ∷ r → l ≤ s.lev v → s.id v ≡ f → s.te v ≢ k
      → Strike s v k c → SmallStep p s (send_over (remarked (pop s u k r) v k c) v k reject)
  crossed-test : {u v k l f c : ℕ} {r : List Msg} → Idle s → Edge p k u v → s.st v ≢ ASLEEP → s.ch u k ≡ test l f ∷ r → l ≤ s.lev v → s.id v ≡ f → s.te v ≡ k
      → Strike s v k c → SmallStep p s (set-ot (remarked (pop s u k r) v k c) (suc v))
  -- (7) Accept, (8) Reject
  accepted : {u v k b e : ℕ} {r : List Msg} → Idle s → Edge p k u v → s.ch u k ≡ accept ∷ r → Better p s v k k b e
      → SmallStep p s (set-op (bested (set-te (pop s u k r) (upd s.te v none)) v b e) (suc v))
  rejected : {u v k c : ℕ} {r : List Msg} → Idle s → Edge p k u v → s.ch u k ≡ reject ∷ r → Strike s v k c
      → SmallStep p s (set-ot (remarked (pop s u k r) v k c) (suc v))
  -- (10) Report: of a child; between the ends of the core, where it does nothing, halts, or decides
  child-report : {u v k w b e : ℕ} {r : List Msg} → Idle s → Edge p k u v → s.ch u k ≡ report w ∷ r → s.ib v ≢ k → Better p s v w k b e
      → SmallStep p s (set-op (set-owe (set-fc (bested (pop s u k r) v b e) (upd s.fc v (s.fc v - 1))) (upd2 s.owe v k 0)) (suc v))
  core-nothing : {u v k w : ℕ} {r : List Msg} → Idle s → Edge p k u v → s.ch u k ≡ report w ∷ r → s.ib v ≡ k → s.st v ≢ FIND → key p w ≤ key p (s.bw v)
      → (w ≢ none) ⊎ (s.bw v ≢ none) → SmallStep p s (pop s u k r)
  core-halt : {u v k w : ℕ} {r : List Msg} → Idle s → Edge p k u v → s.ch u k ≡ report w ∷ r → s.ib v ≡ k → s.st v ≢ FIND → w ≡ none → s.bw v ≡ none
      → SmallStep p s (set-halt (set-dk (pop s u k r) (upd s.dk (s.fr v) 4)) (upd s.halt v 1))
  decide : {u v k w : ℕ} {r : List Msg} → Idle s → Edge p k u v → s.ch u k ≡ report w ∷ r → s.ib v ≡ k → s.st v ≢ FIND → key p (s.bw v) < key p w
      → SmallStep p s (rooted (pop s u k r) v)
  -- (12) Change-root
  change-root : {u v k : ℕ} {r : List Msg} → Idle s → Edge p k u v → s.ch u k ≡ change ∷ r → SmallStep p s (rooted (pop s u k r) v)
  -- (5) procedure test
  test-next : {v k u : ℕ} → s.ot ≡ suc v → s.op ≡ 0 → s.oo ≡ 0 → Edge p k v u → FirstBasic p s v k
      → SmallStep p s (set-ot (set-te (send_over s v k (test (s.lev v) (s.id v))) (upd s.te v k)) 0)
  test-none : {v : ℕ} → s.ot ≡ suc v → s.op ≡ 0 → s.oo ≡ 0 → ((k u : ℕ) → Edge p k v u → s.mark v k ≢ BASIC)
      → SmallStep p s (set-op (set-ot (set-te s (upd s.te v none)) 0) (suc v))
  -- (9) procedure report
  report-now : {v k u : ℕ} → s.ot ≡ 0 → s.op ≡ suc v → s.oo ≡ 0 → Edge p k v u → s.ib v ≡ k → s.fc v ≡ 0 → s.te v ≡ none → SmallStep p s (report_sent s v k)
  report-later : {v : ℕ} → s.ot ≡ 0 → s.op ≡ suc v → s.oo ≡ 0 → (s.fc v ≢ 0) ⊎ (s.te v ≢ none) → SmallStep p s (set-op s 0)
  -- (11) procedure change-root, for best edge k
  root-branch : {v k c : ℕ} → s.ot ≡ 0 → s.op ≡ 0 → s.oo ≡ suc v → Edge p k v c → s.be v ≡ k → s.mark v k ≡ BRANCH
      → SmallStep p s (set-oo (decided (set-ub (send_over s v k change) (upd s.ub v k)) v 2 v k) 0)
  root-half : {v k y : ℕ} → s.ot ≡ 0 → s.op ≡ 0 → s.oo ≡ suc v → Edge p k v y → s.be v ≡ k → s.mark v k ≢ BRANCH → s.mark y k ≢ BRANCH
      → SmallStep p s (set-oo (halved s v k (s.lev v)) 0)
  root-merge : {v k y : ℕ} → s.ot ≡ 0 → s.op ≡ 0 → s.oo ≡ suc v → Edge p k v y → s.be v ≡ k → s.mark v k ≢ BRANCH → s.mark y k ≡ BRANCH
      → SmallStep p s (set-oo (merged (halved s v k (s.lev v)) v y k) 0)
