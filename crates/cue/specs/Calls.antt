-- The two calls on a field and the lent records: a cue is started, a copy is delivered. Their refusals, "by the first number that applies".
use Rattle.std.specs.Prelude.{ℕ, ◌+◌, ◌*◌, Bool, cond, not, ◌&&◌, ◌||◌, List, length, get_or, eqb, ltb, leb}
use Rattle.base.specs.None.{none}
use Rattle.base.specs.Names.{BRANCH}
use Rattle.base.specs.Cond.{bit}
use Rattle.base.specs.Sum.{sum}
use Rattle.base.specs.Test.{every}
use Rattle.base.specs.Loop.{After, answering}
use Rattle.base.specs.Refuse.{or_else}
use Rattle.plan.specs.Links.{Plan, modules_of, links_of}
use Rattle.plan_tree.specs.Tree.{tree_link}
use Rattle.field.specs.Edges.{is_own, end_of, dest}
use Rattle.field.specs.Held.{Held, valid}
use Rattle.cue.specs.declared.Cue.{Cue}
use Rattle.cue.specs.Delivery.{Delivery, Refused, Idle, Heard}
use Rattle.cue.specs.Record.{unheard, record_of, has_heard, sender_record, heard_record, alike, begun_cues}
use Rattle.cue.specs.Copies.{waits_on, delivered}

-- 71

-- what the mark of an end must be: Branch exactly where its link is in the tree
abbrev pub end_agrees : Bool → ℕ → Bool
end_agrees tree mark = cond tree (eqb mark BRANCH) (not (eqb mark BRANCH))

-- both marks of link k, which stand at 2 × k and 2 × k + 1
abbrev pub ends_agree : Bool → List ℕ → ℕ → Bool
ends_agree tree marks k = end_agrees tree (get_or marks (2 * k) 0) && end_agrees tree (get_or marks (2 * k + 1) 0)

-- not "an end of a tree link isn't marked Branch, or an end of another link is"
unfoldable pub branches_agree : Plan → List ℕ → Bool
branches_agree p marks = every (links_of p) (λ k. ends_agree (tree_link p k) marks k)

-- 73 AT A DELIVERY: "records that no sending followed by deliveries of one cue leaves", as a rule that one pass over the first N records decides.
-- That it is exact is a theorem (`Exact73` of Claims).

-- module v's record c, `near` the one at the other end of its link: of a module that has not heard; the sender's; or of one that heard over an own
-- link of the tree, from a module that has heard, the same cue one hop further
unfoldable pub right_of : Plan → ℕ → Cue → Cue → Bool
right_of p v c near =
    cond (eqb c.heard 0) (alike c unheard)
    (cond (eqb c.link none) (alike c (sender_record c.cue))
    (is_own p v c.link && (tree_link p c.link && (has_heard near && alike c (heard_record near c.link)))))

unfoldable pub right_at : Plan → List Cue → ℕ → Bool
right_at p cues v = let c = record_of cues v in right_of p v c (record_of cues (dest p (end_of p v c.link)))

-- a sender's record
abbrev pub is_sender : Cue → Bool
is_sender c = has_heard c && eqb c.link none

abbrev pub senders : ℕ → List Cue → ℕ
senders n cues = sum n (λ v. bit (is_sender (record_of cues v)))

unfoldable pub left_by_sending : Plan → List Cue → Bool
left_by_sending p cues = every (modules_of p) (right_at p cues) && eqb (senders (modules_of p) cues) 1

-- THE CALLS

-- "They follow 31 in that order": 31 and 71 of the field, then the rest
abbrev pub field_refusal : Held → ℕ → ℕ
field_refusal h rest = or_else (not (valid h)) 31 (or_else (not (branches_agree h.field.plan h.field.marks)) 71 rest)

-- "72 sender not below N; 73 fewer records than N", where so many records are lent
unfoldable pub start_refusal : Held → ℕ → ℕ → ℕ
start_refusal h lent sender =
    field_refusal h
    (or_else (leb (modules_of h.field.plan) sender) 72
    (or_else (ltb lent (modules_of h.field.plan)) 73 0))

-- a cue is started: the answer, and what the records are then. Nothing else is written.
unfoldable pub start_cue : Held → List Cue → ℕ → ℕ → After (List Cue)
start_cue h cues sender cue =
    answering (start_refusal h (length cues) sender) cues (begun_cues (modules_of h.field.plan) sender cue cues)

-- "73 fewer records than N, or, at a delivery, records that no sending .. leaves", "and 42 comes after them at a delivery": directed link d is
-- not below 2 × L
unfoldable pub delivery_refusal : Held → ℕ → List Cue → ℕ → ℕ
delivery_refusal h lent cues d =
    field_refusal h
    (or_else (ltb lent (modules_of h.field.plan) || not (left_by_sending h.field.plan cues)) 73
    (or_else (leb (2 * links_of h.field.plan) d) 42 0))

-- what a delivery answers, and what the records are then
pub record Delivered : Type 0 where
  pub answer : Delivery
  pub cues : List Cue

-- "if no copy waits there, no record changes and the answer says idle instead of heard"
unfoldable pub deliver_cue : Held → List Cue → ℕ → Delivered
deliver_cue h cues d =
    let r = delivery_refusal h (length cues) cues d in
    cond (not (eqb r 0)) (record { answer = Refused r; cues = cues })
    (record { answer = cond (waits_on h.field.plan cues d) Heard Idle; cues = delivered h.field.plan cues d })

-- The answer's numbers: the refusal's or 0, and 1 for heard, 0 for idle and beside a refusal.
abbrev pub refusal_number : Delivery → ℕ
refusal_number (Refused r) = r
refusal_number Idle = 0
refusal_number Heard = 0

abbrev pub heard_number : Delivery → ℕ
heard_number (Refused r) = 0
heard_number Idle = 0
heard_number Heard = 1
