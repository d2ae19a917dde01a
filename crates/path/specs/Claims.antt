-- What requests 07 and 08 claim, as types: of every answer that is no refusal (`PathClaim`), of the same path from its other end (`TurnedClaim`), of the room that it
-- needs (`RoomClaim`), of the marks (`NearClaim`).
use Rattle.std.specs.Prelude.{ℕ, suc, ◌≤◌, ◌<◌, ◌≡◌, ◌≢◌, ◌⊎◌, false, List, reverse, length, get_or, take, drop, leb}
use Rattle.base.specs.Cond.{bit}
use Rattle.base.specs.None.{none}
use Rattle.base.specs.Twice.{NoTwice}
use Rattle.graph.specs.Graph.{Way, Any}
use Rattle.graph.specs.Parts.{SamePart}
use Rattle.graph.specs.Path.{edges_of}
use Rattle.graph.specs.Between.{Latest}
use Rattle.plan.specs.Links.{graph_of, Plan, modules_of}
use Rattle.plan.specs.Weights.{earlier}
use Rattle.plan_tree.specs.Claim.{TreePath}
use Rattle.path.specs.Between.{PathShown, path_between}
use Rattle.path.specs.Near.{mark_near}

-- THE PATH

-- the links that an answer shows
abbrev pub shown_links : PathShown → List ℕ
shown_links r = take r.answer.length r.buffer

-- of a path that was answered, from u to v in this lent buffer
pub record PathHolds (p : Plan) (u v : ℕ) (lent : List ℕ) (r : PathShown) : Type 0 where
  pub found : r.answer.way ≡ 1
  -- "the tree path as link numbers, from the first module on, at the front": a way over tree links on which no module comes twice, ..
  pub path : TreePath p u v
  pub shows : shown_links r ≡ edges_of path.way
  pub many : r.answer.length ≡ length (edges_of path.way)
  -- .. and no link
  pub once : NoTwice (edges_of path.way)
  -- and there is no other
  pub only : (q : TreePath p u v) → edges_of q.way ≡ edges_of path.way
  -- "and the latest link on it"
  pub worst : u ≢ v → Latest (earlier p) (edges_of path.way) r.answer.worst
  -- "for two different modules, no way between them over any of the plan's links has an earlier latest link"
  pub best : u ≢ v → (w : Way (graph_of p) Any u v) (k : ℕ) → Latest (earlier p) (edges_of w) k → earlier p k r.answer.worst ≡ false
  -- "The same module twice gives an empty path and no worst link."
  pub same : u ≡ v → (r.answer.length ≡ 0) × (r.answer.worst ≡ none)
  -- fewer links than modules
  pub few : r.answer.length < modules_of p
  -- "The rest .. keeps."
  pub rest : drop r.answer.length r.buffer ≡ drop r.answer.length lent
  pub size : length r.buffer ≡ length lent

-- "A path between parts is answered "no way"." (request 08): no links join the two modules, and the buffer keeps
pub record NoWay (p : Plan) (u v : ℕ) (lent : List ℕ) (r : PathShown) : Type 0 where
  pub found : r.answer.way ≡ 0
  pub apart : ¬ SamePart (graph_of p) u v
  pub empty : (r.answer.length ≡ 0) × (r.answer.worst ≡ none)
  pub keeps : r.buffer ≡ lent

-- every plan value, any two numbers and any buffer
abbrev pub PathClaim : Type 0
PathClaim =
    (p : Plan) (u v : ℕ) (lent : List ℕ) → (path_between p u v lent).answer.refusal ≡ 0
    → PathHolds p u v lent (path_between p u v lent) ⊎ NoWay p u v lent (path_between p u v lent)

-- from the other end it is the same path turned round, with the same worst link, wherever there is room for it, or no way again
pub record TurnedRound (r s : PathShown) : Type 0 where
  pub taken : s.answer.refusal ≡ 0
  pub found : s.answer.way ≡ r.answer.way
  pub links : shown_links s ≡ reverse (shown_links r)
  pub worst : s.answer.worst ≡ r.answer.worst

abbrev pub TurnedClaim : Type 0
TurnedClaim =
    (p : Plan) (u v : ℕ) (lent lent' : List ℕ) → (path_between p u v lent).answer.refusal ≡ 0 → (path_between p u v lent).answer.length ≤ length lent'
    → TurnedRound (path_between p u v lent) (path_between p v u lent')

-- "79 a buffer shorter than the path", and so than N − 1 numbers: with as many every path fits
pub record TooShort (p : Plan) (room u v : ℕ) : Type 0 where
  pub there : TreePath p u v
  pub path : (q : TreePath p u v) → room < length (edges_of q.way)
  pub most : suc room < modules_of p

abbrev pub RoomClaim : Type 0
RoomClaim = (p : Plan) (u v : ℕ) (lent : List ℕ) → (path_between p u v lent).answer.refusal ≡ 79 → TooShort p (length lent) u v

-- THE MARKS

-- of marks that were written for this module and h in this lent buffer
pub record NearHolds (p : Plan) (m h : ℕ) (lent bytes : List ℕ) : Type 0 where
  -- "1 for each module within h branches of one module and 0 otherwise": where there is a path its length decides, and there is one to each module of the part;
  -- modules of other parts get 0 (request 08)
  pub paths : (v : ℕ) → v < modules_of p → SamePart (graph_of p) m v → TreePath p m v
  pub apart : (v : ℕ) → v < modules_of p → ¬ SamePart (graph_of p) m v → get_or bytes v 0 ≡ 0
  pub marks : (v : ℕ) → v < modules_of p → (q : TreePath p m v) → get_or bytes v 0 ≡ bit (leb (length (edges_of q.way)) h)
  -- "The rest .. keeps."
  pub rest : drop (modules_of p) bytes ≡ drop (modules_of p) lent
  pub size : length bytes ≡ length lent

abbrev pub NearClaim : Type 0
NearClaim = (p : Plan) (m h : ℕ) (lent : List ℕ) → (mark_near p m h lent).refusal ≡ 0 → NearHolds p m h lent (mark_near p m h lent).state
