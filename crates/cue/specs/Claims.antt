-- What request 01 claims, as types: of every start that is taken and every list of deliveries after it (`CueClaim`), and of 73 (`Exact73`).
use Rattle.std.specs.Prelude.{ℕ, suc, ◌+◌, ◌*◌, ◌≤◌, ◌<◌, ◌≡◌, ◌↔◌, Bool, true, false, cond, List, [], ◌∷◌, map, length, ltb}
use Rattle.base.specs.None.{none}
use Rattle.base.specs.Pool.{All}
use Rattle.base.specs.Twice.{NoTwice}
use Rattle.graph.specs.Path.{edges_of, last_or}
use Rattle.graph.specs.Parts.{SamePart, part_nodes}
use Rattle.plan.specs.Links.{Plan, modules_of, links_of, graph_of}
use Rattle.plan_tree.specs.Claim.{TreePath}
use Rattle.field.specs.Edges.{from, dest}
use Rattle.field.specs.Held.{Held, valid}
use Rattle.cue.specs.declared.Cue.{Cue}
use Rattle.cue.specs.Delivery.{Delivery, Refused, Idle, Heard}
use Rattle.cue.specs.Record.{unheard, record_of, has_heard}
use Rattle.cue.specs.Copies.{waits_on, copies_sent, copies_waiting}
use Rattle.cue.specs.Calls.{branches_agree, left_by_sending, start_cue, deliver_cue, refusal_number}
use Rattle.cue.specs.Follow.{follow_start, follow}

-- what a list of deliveries leaves, any numbers: those that are refused or idle among them
unfoldable pub deliveries : Held → List ℕ → List Cue → List Cue
deliveries h [] cues = cues
deliveries h (d ∷ ds) cues = deliveries h ds (deliver_cue h cues d).cues

abbrev pub says_heard : Delivery → Bool
says_heard (Refused r) = false
says_heard Idle = false
says_heard Heard = true

-- the directed links whose deliveries were answered "heard", in order
unfoldable pub heard_over : Held → List ℕ → List Cue → List ℕ
heard_over h [] cues = []
heard_over h (d ∷ ds) cues =
    let rest = heard_over h ds (deliver_cue h cues d).cues in
    cond (says_heard (deliver_cue h cues d).answer) (d ∷ rest) rest

-- every module of the sender's part has heard
abbrev pub AllHeard : Plan → ℕ → List Cue → Type 0
AllHeard p sender cues = (v : ℕ) → v < modules_of p → SamePart (graph_of p) sender v → has_heard (record_of cues v) ≡ true

-- a module's record tells the tree's path from the sender: its length, and its last link
pub record TellsPath (p : Plan) (sender v : ℕ) (c : Cue) : Type 0 where
  pub path : TreePath p sender v
  pub hops : c.hops ≡ length (edges_of path.way)
  pub link : c.link ≡ last_or none (edges_of path.way)
  -- and there is no other
  pub only : (q : TreePath p sender v) → edges_of q.way ≡ edges_of path.way

-- deliveries that bring the cue to all of the part: fewer than it has modules
pub record Reaches (h : Held) (p : Plan) (sender : ℕ) (cues : List Cue) : Type 0 where
  pub order : List ℕ
  pub few : length order < part_nodes (graph_of p) (modules_of p) sender
  pub all : AllHeard p sender (deliveries h order cues)

-- What holds of a start with these arguments, `cues` what the deliveries ds after it left; p is the field's plan.
pub record CueHolds (h : Held) (p : Plan) (lent : List Cue) (sender cue : ℕ) (ds : List ℕ) (cues : List Cue) : Type 0 where
  -- "each module hears the cue at most once": what a module that has heard holds never changes again, ..
  pub kept : (v : ℕ) → v < modules_of p → has_heard (record_of cues v) ≡ true → (es : List ℕ) → record_of (deliveries h es cues) v ≡ record_of cues v
  -- .. and the answers "heard" are for different modules, none of them the sender
  pub once : NoTwice (sender ∷ map (dest p) (heard_over h ds (start_cue h lent sender cue).state))
  -- copies sent = copies delivered + copies waiting
  pub copies : copies_sent p cues ≡ length (heard_over h ds (start_cue h lent sender cue).state) + copies_waiting p cues
  -- "A cue reaches its sender's part, with one copy fewer than its modules." (request 08): so many are sent when none waits, and then every module of the part
  -- has heard; none of another part ever does
  pub sent : copies_waiting p cues ≡ 0 → suc (copies_sent p cues) ≡ part_nodes (graph_of p) (modules_of p) sender
  pub all : copies_waiting p cues ≡ 0 → AllHeard p sender cues
  pub part : (v : ℕ) → v < modules_of p → has_heard (record_of cues v) ≡ true → SamePart (graph_of p) sender v
  -- "and hops equal the tree's path"; every module that has heard holds the cue that was started
  pub path : (v : ℕ) → v < modules_of p → has_heard (record_of cues v) ≡ true → TellsPath p sender v (record_of cues v)
  pub same : (v : ℕ) → v < modules_of p → has_heard (record_of cues v) ≡ true → (record_of cues v).cue ≡ cue
  -- "a module that has not heard has zeros and none"
  pub others : (v : ℕ) → v < modules_of p → has_heard (record_of cues v) ≡ false → record_of cues v ≡ unheard
  -- a copy waits only for a module that has not heard
  pub fresh : (d : ℕ) → d < 2 * links_of p → waits_on p cues d ≡ true → record_of cues (dest p d) ≡ unheard
  -- some order of deliveries, fewer than the part has modules, brings the cue to all of it
  pub reaches : Reaches h p sender cues
  -- "records past N always keep", and none is added or lost
  pub past : (i : ℕ) → modules_of p ≤ i → record_of cues i ≡ record_of lent i
  pub many : length cues ≡ length lent
  -- of the refusals only 42 can occur
  pub refusals : (d : ℕ) → refusal_number (deliver_cue h cues d).answer ≡ cond (ltb d (2 * links_of p)) 0 42
  -- following the copies one by one leaves the same records, and in each channel the copy that waits there by the records, or none
  pub followed : (follow p ds (follow_start p lent sender cue)).cues ≡ cues
  pub channels : (d : ℕ) → d < 2 * links_of p → (follow p ds (follow_start p lent sender cue)).channel d ≡ cond (waits_on p cues d) (record_of cues (from p d) ∷ []) []

-- "In any order of deliveries ..": every start that is taken, and every list of deliveries after it
abbrev pub CueClaim : Type 0
CueClaim =
    (h : Held) (lent : List Cue) (sender cue : ℕ) → (start_cue h lent sender cue).refusal ≡ 0
    → (ds : List ℕ) → CueHolds h h.field.plan lent sender cue ds (deliveries h ds (start_cue h lent sender cue).state)

-- a start, on any lent records, and deliveries of its cue that leave these records
pub record Sending (h : Held) (p : Plan) (cues : List Cue) : Type 0 where
  pub lent : List Cue
  pub sender : ℕ
  pub cue : ℕ
  pub order : List ℕ
  pub taken : (start_cue h lent sender cue).refusal ≡ 0
  pub within : All (λ d. d < 2 * links_of p) order
  pub leaves : deliveries h order (start_cue h lent sender cue).state ≡ cues

-- 73 is exact: on a field that 31 and 71 let pass, and of records not fewer than N, those pass that some start and some deliveries of one cue leave
abbrev pub Exact73 : Type 0
Exact73 =
    (h : Held) (cues : List Cue) → valid h ≡ true → branches_agree h.field.plan h.field.marks ≡ true
    → modules_of h.field.plan ≤ length cues
    → (left_by_sending h.field.plan cues ≡ true) ↔ Sending h h.field.plan cues
