-- Refusal 31, item by item: "the plan is refused; words fewer than M, not as laid out, with a carried link not below L, a directed link not
-- below 2 × L, or a level above ⌊log2 N⌋; a module's value outside its list, its level above ⌊log2 N⌋, find-count above its links; identity
-- none at a level above 0, or present at level 0; or not waiting ≤ sent ≤ M." Each test says what must hold.
-- "Refusal 31 also covers a value that is neither none nor an own link, and a sleeper whose value is not none." (request 05, the waking link)
use Rattle.std.specs.Prelude.{ℕ, ◌*◌, Bool, true, cond, not, ◌&&◌, ◌||◌, List, [], ◌∷◌, length, get_or, drop, eqb, ltb, leb}
use Rattle.base.specs.None.{none}
use Rattle.base.specs.Test.{every}
use Rattle.format_message.specs.Header.{level_at}
use Rattle.format_word.specs.Word.{header_in, carried_in, link_in, laid_out}
use Rattle.plan.specs.Links.{Plan, modules_of, links_of}
use Rattle.node.specs.declared.Node.{Node}
use Rattle.node.specs.Work.{ASLEEP, FOUND, REJECTED, degree}
use Rattle.field.specs.Edges.{is_own, own_of, limit_of, ceiling_of}
use Rattle.field.specs.State.{State, node_at}

-- every member of a list passes
unfoldable pub all_of : (ℕ → Bool) → List ℕ → Bool
all_of q [] = true
all_of q (x ∷ l) = q x && all_of q l

-- "Waiting messages lie in lent 64-bit words, from the front and without gaps, zero after the last."
unfoldable pub waiting_in : List ℕ → List ℕ
waiting_in [] = []
waiting_in (x ∷ l) = cond (eqb x 0) [] (x ∷ waiting_in l)

-- no word but 0 stands behind the waiting ones
abbrev pub zero_after : List ℕ → Bool
zero_after lent = all_of (λ x. eqb x 0) (drop (length (waiting_in lent)) lent)

abbrev pub link_or_none : Plan → ℕ → Bool
link_or_none p x = eqb x none || ltb x (links_of p)

-- a word: as laid out; its carried link below L; its directed link below 2 × L; its level at most ⌊log2 N⌋
unfoldable pub word_fits : Plan → ℕ → Bool
word_fits p w =
    laid_out w && link_or_none p (carried_in w) && ltb (link_in w) (2 * links_of p) && leb (level_at (header_in w)) (limit_of p)

-- a module's values: "status (0 asleep, 1 Find, 2 Found), level, identity, best weight (the last two are link numbers or none), best edge, test
-- edge, in-branch (own links or none), find-count, halted (0 or 1)"; the waking link "none" or "an own link"
abbrev pub own_or_none : Plan → ℕ → ℕ → Bool
own_or_none p v x = eqb x none || is_own p v x

abbrev pub values_listed : Plan → ℕ → Node → Bool
values_listed p v n =
    leb n.status FOUND && link_or_none p n.identity && link_or_none p n.weight && own_or_none p v n.best && own_or_none p v n.test
    && own_or_none p v n.branch && leb n.halted 1 && own_or_none p v n.waking

-- identity none exactly at level 0
abbrev pub identity_fits : Node → Bool
identity_fits n = cond (eqb n.level 0) (eqb n.identity none) (not (eqb n.identity none))

-- a sleeper's waking link is none
abbrev pub waking_fits : Node → Bool
waking_fits n = not (eqb n.status ASLEEP) || eqb n.waking none

-- a module: its values listed; its level at most ⌊log2 N⌋; its find-count at most its links; identity and waking link
unfoldable pub node_fits : Plan → ℕ → Node → Bool
node_fits p v n =
    values_listed p v n && leb n.level (limit_of p) && leb n.count (degree (own_of p v)) && identity_fits n && waking_fits n

-- All that 31 asks of the state, the words that wait among it.
-- "a mark for each own link: 0 Basic, 1 Branch, 2 Rejected": link k's marks stand at 2 × k and 2 × k + 1
unfoldable pub fits : Plan → State → Bool
fits p s =
    all_of (word_fits p) s.words && every (modules_of p) (λ v. node_fits p v (node_at s v))
    && every (2 * links_of p) (λ d. leb (get_or s.marks d 0) REJECTED)
    && leb (length s.words) s.sent && leb s.sent (ceiling_of p)
