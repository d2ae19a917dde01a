-- What follows from the claim alone, when none waits: the answers "heard" are one fewer than the part's modules (`heard-answers`), those that have heard are just the
-- part (`heard-exactly`), and where all modules are in one part all hear by N − 1 copies (`one-part-sent`, `one-part-heard`).
-- Some deliveries more bring it to the whole part, in one part fewer than N (`reached`, `reached-soon`).
use Rattle.std.specs.Prelude.{ℕ, suc, ◌<◌, ◌≡◌, true, List, length}
use Rattle.std.proofs.Common.{arith, sym, ◌∙◌, true≢false}
use Rattle.base.proofs.laws.Cond.{bool_cases}
use Rattle.graph.specs.Parts.{SamePart, together, part_nodes}
use Rattle.graph.proofs.laws.Parts.{together-part, part-together, part-whole}
use Rattle.plan.specs.Links.{Plan, modules_of, graph_of}
use Rattle.field.specs.Held.{Held}
use Rattle.cue.specs.declared.Cue.{Cue}
use Rattle.cue.specs.Record.{record_of, has_heard}
use Rattle.cue.specs.Copies.{copies_sent, copies_waiting}
use Rattle.cue.specs.Calls.{start_cue}
use Rattle.cue.specs.Claims.{deliveries, heard_over, CueHolds}

module _ (h : Held) (p : Plan) (lent : List Cue) (sender cue : ℕ) (ds : List ℕ) (cues : List Cue) (c : CueHolds h p lent sender cue ds cues) (z : copies_waiting p cues ≡ 0) where
  pub heard-answers : suc (length (heard_over h ds (start_cue h lent sender cue).state)) ≡ part_nodes (graph_of p) (modules_of p) sender
  heard-answers = omega (arith, c.sent z, c.copies, z)

  pub heard-exactly : (v : ℕ) → v < modules_of p → has_heard (record_of cues v) ≡ together (graph_of p) sender v
  heard-exactly v l = bool_cases (together (graph_of p) sender v)
      (λ t. c.all z v l (together-part (graph_of p) sender v t) ∙ sym t)
      (λ f. bool_cases (has_heard (record_of cues v))
      (λ e. absurd (true≢false (sym (part-together (graph_of p) sender v (c.part v l e)) ∙ f)))
      (λ e. e ∙ sym f))

  -- ALL IN ONE PART

  module _ (one : (v : ℕ) → v < modules_of p → SamePart (graph_of p) sender v) where
    -- "N − 1 copies are sent when none waits" (request 01)
    pub one-part-sent : suc (copies_sent p cues) ≡ modules_of p
    one-part-sent = c.sent z ∙ part-whole (graph_of p) (modules_of p) sender one

    pub one-part-heard : (v : ℕ) → v < modules_of p → has_heard (record_of cues v) ≡ true
    one-part-heard v l = c.all z v l (one v l)

-- SOME DELIVERIES MORE, whether or not copies wait

module _ (h : Held) (p : Plan) (lent : List Cue) (sender cue : ℕ) (ds : List ℕ) (cues : List Cue) (c : CueHolds h p lent sender cue ds cues) where
  pub reached : (v : ℕ) → v < modules_of p → SamePart (graph_of p) sender v → has_heard (record_of (deliveries h c.reaches.order cues) v) ≡ true
  reached v l w = c.reaches.all v l w

  pub reached-soon : ((v : ℕ) → v < modules_of p → SamePart (graph_of p) sender v) → length c.reaches.order < modules_of p
  reached-soon one = omega (arith, c.reaches.few, part-whole (graph_of p) (modules_of p) sender one)
