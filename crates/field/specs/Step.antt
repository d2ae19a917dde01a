-- The three steps: wake, hand over, serve. Each answers 0 and leaves the new state, or answers the refusal's number and leaves the state as it was.
use Rattle.std.specs.Prelude.{ℕ, suc, ◌+◌, ◌*◌, Bool, cond, not, ◌&&◌, List, [], ◌∷◌, ◌++◌, length, get_or, take, drop, eqb, ltb, leb}
use Rattle.base.specs.Loop.{After, taken_to, refused_by}
pub use Rattle.base.specs.Keep.{place}
use Rattle.format_word.specs.Word.{link_in, handed_in, hand_over}
use Rattle.plan.specs.Links.{Plan, modules_of, links_of}
use Rattle.node.specs.Work.{Work, ASLEEP, BACK, REFUSED}
use Rattle.node.specs.Rules.{respond, wakes}
use Rattle.field.specs.Edges.{own_of, link_of, dest, limit_of, ceiling_of}
use Rattle.field.specs.State.{State, node_at, mark_at, msg_in, placed}

-- a word of directed link d "with bit 40 clear"
abbrev pub in_air : ℕ → ℕ → Bool
in_air d w = not (handed_in w) && eqb (link_in w) d

-- a word "with bit 40 set that leads to its module": in v's queue
abbrev pub in_queue : Plan → ℕ → ℕ → Bool
in_queue p v w = handed_in w && eqb (dest p (link_in w)) v

-- no word passes the test; `place` is where "the first word" that does stands
abbrev pub absent : (ℕ → Bool) → List ℕ → Bool
absent q l = leb (length l) (place q l)

-- "When a word leaves, later words move one place forward and earlier ones are not touched."
abbrev pub without : ℕ → List ℕ → List ℕ
without i l = take i l ++ drop (suc i) l

-- Module v's response w is carried out: refused by 32 or 33, or placed.
-- "32 ..; 33 sent would pass M": all sends of the response are counted
unfoldable pub carry_out : Plan → ℕ → Work → State → List ℕ → List ℕ → After State
carry_out p v w s words back =
    cond (eqb w.answer REFUSED) (refused_by REFUSED s)
    (cond (ltb (ceiling_of p) (s.sent + length w.sends)) (refused_by 33 s)
    (taken_to (placed p v w s words back)))

-- "41 module not below N; .. 43 waking an awake module"
abbrev pub wake_work : Plan → ℕ → State → Work
wake_work p v s = wakes (own_of p v) (node_at s v) (mark_at p s v)

unfoldable pub wake : Plan → ℕ → State → After State
wake p v s =
    cond (leb (modules_of p) v) (refused_by 41 s)
    (cond (not (eqb (node_at s v).status ASLEEP)) (refused_by 43 s)
    (carry_out p v (wake_work p v s) s s.words []))

-- "A hand-over takes the first word of its directed link with bit 40 clear, sets it and moves it to the end."
abbrev pub moved : ℕ → State → State
moved i s =
    record { cells = s.cells; marks = s.marks; words = without i s.words ++ (hand_over (get_or s.words i 0) ∷ []); sent = s.sent }

-- "42 directed link not below 2 × L; .. 44 nothing to hand over"
unfoldable pub hand : Plan → ℕ → State → After State
hand p d s =
    cond (leb (2 * links_of p) d) (refused_by 42 s)
    (cond (absent (in_air d) s.words) (refused_by 44 s)
    (taken_to (moved (place (in_air d) s.words) s)))

-- "A service takes the first word with bit 40 set that leads to its module": word x at module v
abbrev pub serve_work : Plan → ℕ → ℕ → State → Work
serve_work p v x s = respond (own_of p v) (limit_of p) (msg_in x) (link_of (link_in x)) (node_at s v) (mark_at p s v)

-- the word again where the response puts it back, else nothing
unfoldable pub back_of : Work → ℕ → List ℕ
back_of w x = cond (eqb w.answer BACK) (x ∷ []) []

-- "41 module not below N; .. 45 empty queue"
unfoldable pub serve : Plan → ℕ → State → After State
serve p v s =
    cond (leb (modules_of p) v) (refused_by 41 s)
    (cond (absent (in_queue p v) s.words) (refused_by 45 s)
    (let i = place (in_queue p v) s.words in
    let x = get_or s.words i 0 in
    let w = serve_work p v x s in
    carry_out p v w s (without i s.words) (back_of w x)))

-- "kind (1 wake, 2 hand over, 3 serve) and a number"; "54 a kind not 1 to 3"
abbrev pub WAKE : ℕ
WAKE = 1

abbrev pub HAND : ℕ
HAND = 2

abbrev pub SERVE : ℕ
SERVE = 3

unfoldable pub step : Plan → ℕ → ℕ → State → After State
step p kind number s =
    cond (eqb kind WAKE) (wake p number s)
    (cond (eqb kind HAND) (hand p number s)
    (cond (eqb kind SERVE) (serve p number s) (refused_by 54 s)))
