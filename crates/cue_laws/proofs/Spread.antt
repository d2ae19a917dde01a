-- Liveness: from good records some order of arrivals, one for each module of the sender's part that has not heard, brings the cue to all of it (`spread`).
use Rattle.std.specs.Prelude.{ℕ, zero, suc, ◌+◌, ◌≤◌, ◌<◌, ◌≡◌, ◌⊎◌, true, false, not, ◌&&◌, List, [], ◌∷◌}
use Rattle.std.proofs.Common.{arith, ap, ◌∙◌, inl, inr, eqb-true}
use Rattle.std.proofs.Math.Bool.{and-eq-true_iff}
use Rattle.std.proofs.lemmas.Bool.{not-true}
use Rattle.base.proofs.laws.Cond.{bool_cases}
use Rattle.base.proofs.laws.Search.{least, Least}
use Rattle.base.proofs.laws.Test.{dec-test}
use Rattle.graph.specs.Decide.{Set}
use Rattle.graph.specs.Parts.{SamePart, together, part_nodes}
use Rattle.graph.proofs.laws.Parts.{together-part, part-together}
use Rattle.graph.proofs.laws.Ways.{Cross, cross}
use Rattle.plan.specs.Links.{Plan, modules_of, graph_of}
use Rattle.plan_tree.specs.Tree.{tree_link}
use Rattle.cue.specs.declared.Cue.{Cue}
use Rattle.cue.specs.Record.{has_heard}
use Rattle.cue.specs.Copies.{arrival}
use Rattle.cue.specs.Claims.{AllHeard}
use Rattle.cue_laws.proofs.Net.{Net}
use Rattle.cue_laws.proofs.Good.{GoodCues}
use Rattle.cue_laws.proofs.Once.{arrival-kept, arrival-good}
use Rattle.cue_laws.proofs.AllHeard.{hearers, edge-waits}
use Rattle.cue_laws.proofs.Counts.{heads, arrival-heads}
use Rattle.cue_laws.proofs.Part.{deaf-fewer}
use Rattle.cue_laws.proofs.Trail.{rests, goes-on}
use Rattle.cue_laws.proofs.Order.{Spread}

module _ (p : Plan) (sender : ℕ) (cues : List Cue) where
  -- of the part, and has not heard
  abbrev Deaf : ℕ → Type 0
  Deaf v = SamePart (graph_of p) sender v × (hearers cues v ≡ false)

  nobody-deaf : ((v : ℕ) → v < modules_of p → ¬ Deaf v) → AllHeard p sender cues
  nobody-deaf f v l w = bool_cases (hearers cues v) (λ h. h) (λ e. absurd (f v l (w, e)))

  someone : ((v : ℕ) → v < modules_of p → ¬ Deaf v) ⊎ Least Deaf (modules_of p)
  someone = least Deaf deaf? (modules_of p)
    where
      deaf? : (v : ℕ) → Dec (Deaf v)
      deaf? v = dec-test (together (graph_of p) sender v && not (hearers cues v))
          (λ e. let x = (and-eq-true_iff (together (graph_of p) sender v) _).0 e in (together-part (graph_of p) sender v x.0, not-true (hearers cues v) x.1))
          (λ d. rw (part-together (graph_of p) sender v d.0, d.1))

module _ (p : Plan) (n : Net p) (sender : ℕ) (below : sender < modules_of p) where
  -- what is asked of the records: m modules of the part at most have not heard
  record Lacks (m : ℕ) (cues : List Cue) : Type 0 where
    good : GoodCues p cues
    heard : hearers cues sender ≡ true
    most : part_nodes (graph_of p) (modules_of p) sender ≤ heads p cues + m

  spread-from : (m : ℕ) (cues : List Cue) → Lacks m cues → Spread p sender cues m
  spread-from zero cues x = record { order = []; end = cues; trail = rests; few = omega arith; all = nobody-deaf p sender cues full }
    where
      full : (v : ℕ) → v < modules_of p → ¬ Deaf p sender cues v
      full v l d = omega (arith, x.most, deaf-fewer p n cues x.good sender below x.heard v l d.0 d.1)
  spread-from (suc m) cues x = cases (λ e y. spread-from m e y) (someone p sender cues)
    where
      onward : ((e : List Cue) → Lacks m e → Spread p sender e m) → Cross (graph_of p) (Set (tree_link p)) (hearers cues) → Spread p sender cues (suc m)
      onward next c =
          let d = n.names c.edge c.from c.to c.joins in
          let w = edge-waits p n cues x.good c.edge c.from c.to c.joins c.used c.inside c.outside in
          let s = next (arrival p cues d.number) (record {
            good = arrival-good p n cues x.good d.number d.below w;
            heard = ap has_heard (arrival-kept p n cues x.good d.number d.below w sender (eqb-true _ _ x.heard)) ∙ x.heard;
            most = omega (arith, x.most, arrival-heads p n cues x.good d.number d.below w);
          }) in
          record { order = d.number ∷ s.order; end = s.end; trail = goes-on d.number d.below w s.trail; few = omega (arith, s.few); all = s.all }

      cases : ((e : List Cue) → Lacks m e → Spread p sender e m)
          → ((v : ℕ) → v < modules_of p → ¬ Deaf p sender cues v) ⊎ Least (Deaf p sender cues) (modules_of p) → Spread p sender cues (suc m)
      cases next (inl f) = record { order = []; end = cues; trail = rests; few = omega arith; all = nobody-deaf p sender cues f }
      cases next (inr y) = onward next (cross (hearers cues) (n.spans y.holds.0) x.heard y.holds.1)

  pub spread : (m : ℕ) (cues : List Cue) → GoodCues p cues → hearers cues sender ≡ true → part_nodes (graph_of p) (modules_of p) sender ≤ heads p cues + m
      → Spread p sender cues m
  spread m cues good heard most = spread-from m cues (record { good = good; heard = heard; most = most })
