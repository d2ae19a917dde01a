-- Demand 3, as one type.
use Rattle.std.specs.Prelude.{ℕ, ◌+◌, ◌≤◌, ◌<◌, ◌≡◌, ◌≢◌, ◌⊎◌, ◌↔◌, List, [], map, length}
use Rattle.base.specs.Pool.{All}
use Rattle.base.specs.Loop.{Ran}
use Rattle.graph.specs.Order.{InTree}
use Rattle.graph.specs.Parts.{SamePart}
use Rattle.plan.specs.Links.{graph_of, Plan, modules_of, links_of, lower_of, higher_of}
use Rattle.plan.specs.Trimmed.{trimmed}
use Rattle.plan.specs.Weights.{earlier}
use Rattle.node.specs.Work.{BRANCH, REJECTED}
use Rattle.format_word.specs.Word.{link_in}
use Rattle.field.specs.Edges.{from, ceiling_of}
use Rattle.field.specs.State.{State, node_at, mark_at}
use Rattle.field.specs.Held.{Held, state_of, set_up}
use Rattle.field_calls.specs.Call.{Call, one, run, rounds, after, answers, run_rounds}
use Rattle.field_calls.specs.Trail.{Message, carried_by, times_in, trail, sent_in, messages_sent, consumed_in, woken_in}

-- "A link is a tree link exactly if no other way between its ends, over the plan's links, uses only earlier links."
abbrev pub TreeLink : Plan → ℕ → Type 0
TreeLink p k = InTree (graph_of p) (earlier p) k

-- "An end of a link says branch or rejected if that module's mark for it is 1 or 2."
-- both ends of link k have this mark
pub record BothSay (p : Plan) (s : State) (mark k : ℕ) : Type 0 where
  pub lower : mark_at p s (lower_of p k) k ≡ mark
  pub higher : mark_at p s (higher_of p k) k ≡ mark

-- "Of the refusals only 41 to 45 and 51 to 54 can occur, and none in a run of rounds." (0 is no refusal.)
abbrev pub Allowed : Call → ℕ → Type 0
Allowed (one kind number) r = (r ≡ 0) ⊎ ((41 ≤ r) × (r ≤ 45)) ⊎ ((51 ≤ r) × (r ≤ 54))
Allowed (run bytes) r = (r ≡ 0) ⊎ ((41 ≤ r) × (r ≤ 45)) ⊎ ((51 ≤ r) × (r ≤ 54))
Allowed (rounds limit) r = r ≡ 0

-- PARTS

-- the modules of w's part: those that the plan's links join to w
abbrev pub InPart : Plan → ℕ → ℕ → Type 0
InPart p w v = (v < modules_of p) × SamePart (graph_of p) w v

-- "a larger part exactly two, the ends of one of its tree links" (request 08): of the modules that are In, these two have halted and no other
pub record Core (p : Plan) (s : State) (In : ℕ → Type 0) : Type 0 where
  pub link : ℕ
  pub within : link < links_of p
  pub tree : TreeLink p link
  pub inside : In (lower_of p link)
  pub across : In (higher_of p link)
  pub apart : lower_of p link ≢ higher_of p link
  pub halted : (v : ℕ) → In v → ((node_at s v).halted ≡ 1) ↔ ((v ≡ lower_of p link) ⊎ (v ≡ higher_of p link))

-- "both ends of each tree link say branch, both ends of all others say rejected": of the links between modules that are In; "and a part of one has one halted
-- module, a larger part exactly two, the ends of one of its tree links" (request 08)
pub record Agreed (p : Plan) (s : State) (In : ℕ → Type 0) : Type 0 where
  pub tree : (k : ℕ) → k < links_of p → In (lower_of p k) → TreeLink p k → BothSay p s BRANCH k
  pub others : (k : ℕ) → k < links_of p → In (lower_of p k) → ¬ TreeLink p k → BothSay p s REJECTED k
  pub alone : (v : ℕ) → In v → ((u : ℕ) → In u → u ≡ v) → (node_at s v).halted ≡ 1
  pub core : (u v : ℕ) → In u → In v → u ≢ v → Core p s In

-- "Parts with nobody woken stay asleep." (request 08): each module that is In is as at setup, its marks with it, and sent nothing that waits
pub record AsAtSetup (p : Plan) (start s : State) (In : ℕ → Type 0) : Type 0 where
  pub nodes : (v : ℕ) → In v → node_at s v ≡ node_at start v
  pub marks : (v k : ℕ) → In v → mark_at p s v k ≡ mark_at p start v k
  pub words : All (λ x. ¬ In (from p (link_in x))) s.words

-- "comes to rest unrefused within N more rounds than the ceiling"
pub record ComesToRest (p : Plan) (r : Ran Held) : Type 0 where
  pub rest : (state_of r.state).words ≡ []
  pub unrefused : r.refusal ≡ 0
  pub within : r.done ≤ ceiling_of p + modules_of p

-- what demand 3 says of one list of calls on the field and words of a setup
pub record Claim (p : Plan) (start : Held) (calls : List Call) : Type 0 where
  -- "after it, every link that a module marks branch is in that tree;"
  pub branches : (v k : ℕ) → mark_at p (state_of (after calls start)) v k ≡ BRANCH → TreeLink p k
  -- "the sent count equals the number of messages sent"
  pub exact : (state_of (after calls start)).sent ≡ messages_sent p (trail calls start)
  -- ("A message waits, in one word, from its send until a service that does not put it back.": each, by its directed link, header byte and
  -- carried number, was sent as often as it was consumed and waits ..
  pub messages : (m : Message) → times_in m (sent_in p (trail calls start)) ≡ times_in m (consumed_in p (trail calls start)) + times_in m (map carried_by (state_of (after calls start)).words)
  -- .. and what waits and what was consumed is as many as were sent)
  pub waiting : length (state_of (after calls start)).words + length (consumed_in p (trail calls start)) ≡ (state_of (after calls start)).sent
  -- "and is at most the ceiling, 5 × N × ⌊log2 N⌋ + 2 × L;"
  pub ceiling : (state_of (after calls start)).sent ≤ ceiling_of p
  -- "and nothing in the list was refused by 31, 32 or 33."
  pub refusals : All (λ a. Allowed a.call a.refusal) (answers calls start)
  -- "If a module was woken and the field is at rest, ..": "When the field rests, each part with a woken module has the marks demand 3 gives" (request 08)
  pub agreed : (state_of (after calls start)).words ≡ [] → All (λ w. Agreed p (state_of (after calls start)) (InPart p w)) (woken_in p (trail calls start))
  -- "Parts with nobody woken stay asleep.", at rest or not
  pub asleep : (w : ℕ) → All (λ v. ¬ InPart p w v) (woken_in p (trail calls start)) → AsAtSetup p (state_of start) (state_of (after calls start)) (InPart p w)
  -- "Whatever such a list leaves, a run of rounds from there, its limit the ceiling plus N or more, comes to rest .."
  pub rests : (limit : ℕ) → ceiling_of p + modules_of p ≤ limit → ComesToRest p (run_rounds limit (after calls start))

-- "For every accepted plan of N modules and L links, and every list of wakeups, hand-overs and services from its setup on, given singly or in
-- runs, refused ones included": accepted, and lent M words or more, is a setup that is not refused. The claim is of the plan as the field holds it, the same
-- plan with zeros past its links (`trimmed-same`, plan/laws/Trimmed), which has the same tree (`tree-same`, plan/laws/Same).
abbrev pub Demand3 : Type 0
Demand3 = (p : Plan) (lent : List ℕ) → (set_up p lent).refusal ≡ 0 → (calls : List Call) → Claim (trimmed p) (set_up p lent).state calls

-- ONE PART, as document 01 has it: what demand 3 says where the plan's links join all modules

-- every two of the modules are in one part
abbrev pub OnePart : Plan → Type 0
OnePart p = (u v : ℕ) → u < modules_of p → v < modules_of p → SamePart (graph_of p) u v

-- "both ends of each tree link say branch, both ends of all others say rejected, and for N of 2 or more exactly two modules have halted, the
-- ends of one tree link"
pub record AllAgreed (p : Plan) (s : State) : Type 0 where
  pub tree : (k : ℕ) → k < links_of p → TreeLink p k → BothSay p s BRANCH k
  pub others : (k : ℕ) → k < links_of p → ¬ TreeLink p k → BothSay p s REJECTED k
  pub core : 2 ≤ modules_of p → Core p s (λ v. v < modules_of p)

-- "If a module was woken and the field is at rest, .."
abbrev pub Demand3OnePart : Type 0
Demand3OnePart =
    (p : Plan) (lent : List ℕ) → (set_up p lent).refusal ≡ 0 → OnePart (trimmed p) → (calls : List Call)
    → woken_in (trimmed p) (trail calls (set_up p lent).state) ≢ [] → (state_of (after calls (set_up p lent).state)).words ≡ []
    → AllAgreed (trimmed p) (state_of (after calls (set_up p lent).state))
