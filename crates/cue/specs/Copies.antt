-- Which copies wait, read off the records alone. That this is the same as following each copy from its sending on is a theorem: Follow has the
-- channels, cue_laws/Follow the proof.
use Rattle.std.specs.Prelude.{ℕ, ◌*◌, Bool, cond, not, ◌&&◌, List, set, eqb}
use Rattle.base.specs.Cond.{bit}
use Rattle.base.specs.Sum.{sum}
use Rattle.plan.specs.Links.{Plan, links_of}
use Rattle.plan_tree.specs.Tree.{tree_link}
use Rattle.field.specs.Edges.{link_of, from, dest}
use Rattle.cue.specs.declared.Cue.{Cue}
use Rattle.cue.specs.Record.{record_of, has_heard, heard_record}

-- "Hearing a cue, a module passes a copy to each branch but the one it came by.": a copy was sent over directed link d
unfoldable pub sent_over : Plan → List Cue → ℕ → Bool
sent_over p cues d =
    tree_link p (link_of d) && (has_heard (record_of cues (from p d)) && not (eqb (record_of cues (from p d)).link (link_of d)))

-- and it has arrived: the module that d leads to heard by its link
unfoldable pub arrived_over : Plan → List Cue → ℕ → Bool
arrived_over p cues d = has_heard (record_of cues (dest p d)) && eqb (record_of cues (dest p d)).link (link_of d)

-- a copy waits: sent over the directed link, and not yet arrived by it
abbrev pub waits_on : Plan → List Cue → ℕ → Bool
waits_on p cues d = sent_over p cues d && not (arrived_over p cues d)

-- the copy of directed link d arrives
abbrev pub arrival : Plan → List Cue → ℕ → List Cue
arrival p cues d = set cues (dest p d) (heard_record (record_of cues (from p d)) (link_of d))

-- "A delivery names a directed link; if no copy waits there, no record changes"
unfoldable pub delivered : Plan → List Cue → ℕ → List Cue
delivered p cues d = cond (waits_on p cues d) (arrival p cues d) cues

-- how many copies were sent so far, and how many wait
abbrev pub copies_sent : Plan → List Cue → ℕ
copies_sent p cues = sum (2 * links_of p) (λ d. bit (sent_over p cues d))

abbrev pub copies_waiting : Plan → List Cue → ℕ
copies_waiting p cues = sum (2 * links_of p) (λ d. bit (waits_on p cues d))
