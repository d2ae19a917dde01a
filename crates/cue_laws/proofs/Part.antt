-- Those that have heard, counted against the sender's part: fewer while one of it has not (`deaf-fewer`), as many when all have (`part-heads`).
use Rattle.std.specs.Prelude.{ℕ, ◌<◌, ◌≡◌, true, false, List}
use Rattle.std.proofs.Common.{arith, sym, ◌∙◌, true≢false}
use Rattle.base.specs.Cond.{bit}
use Rattle.base.proofs.laws.Cond.{bool_cases, bit-mono}
use Rattle.base.proofs.laws.Sum.{sum-eq, sum_lt}
use Rattle.graph.specs.Parts.{SamePart, together, part_nodes}
use Rattle.graph.proofs.laws.Parts.{together-part, part-together}
use Rattle.plan.specs.Links.{Plan, modules_of, graph_of}
use Rattle.cue.specs.declared.Cue.{Cue}
use Rattle.cue.specs.Claims.{AllHeard}
use Rattle.cue_laws.proofs.Net.{Net}
use Rattle.cue_laws.proofs.Good.{GoodCues}
use Rattle.cue_laws.proofs.AllHeard.{hearers}
use Rattle.cue_laws.proofs.Counts.{heads}
use Rattle.cue_laws.proofs.Paths.{heard-part}

-- `from` any module that has heard: the sender, or one that it has reached
module _ (p : Plan) (n : Net p) (cues : List Cue) (good : GoodCues p cues) (from : ℕ) (below : from < modules_of p) (heard : hearers cues from ≡ true) where
  abbrev in_part : ℕ → ℕ
  in_part v = bit (together (graph_of p) from v)

  hearer-together : (v : ℕ) → v < modules_of p → hearers cues v ≡ true → together (graph_of p) from v ≡ true
  hearer-together v l h = part-together (graph_of p) from v (heard-part p n cues good from v below l heard h)

  pub deaf-fewer : (v : ℕ) → v < modules_of p → SamePart (graph_of p) from v → hearers cues v ≡ false → heads p cues < part_nodes (graph_of p) (modules_of p) from
  unfolding part_nodes
  deaf-fewer v l w e =
      sum_lt (modules_of p) v (λ u. bit (hearers cues u)) in_part l
      (λ u lu. bit-mono (hearers cues u) (together (graph_of p) from u) (hearer-together u lu))
      (rw (e, part-together (graph_of p) from v w) (omega arith))

  pub part-heads : AllHeard p from cues → heads p cues ≡ part_nodes (graph_of p) (modules_of p) from
  unfolding part_nodes
  part-heads all = sum-eq (modules_of p) (λ u. bit (hearers cues u)) in_part each
    where
      each : (v : ℕ) → v < modules_of p → bit (hearers cues v) ≡ in_part v
      each v l = bool_cases (together (graph_of p) from v)
          (λ t. rw (t, all v l (together-part (graph_of p) from v t)))
          (λ f. rw f (bool_cases (hearers cues v) (λ h. absurd (true≢false (sym (hearer-together v l h) ∙ f))) (λ h. rw h)))
