-- What the report says of a plan that is taken, by demand 3: it is not refused, it is of that plan; its lines are those of the tree's links,
-- its total is the tree's, its core lines have, for each part, the ends of one of its tree links.
use Rattle.std.specs.Prelude.{ℕ, ◌+◌, ◌≤◌, ◌<◌, ◌≡◌, ◌≢◌, List, ◌++◌, replicate}
use Rattle.std.proofs.Common.{arith, ◌∙◌}
use Rattle.std.proofs.Math.Path.{refl, sym, ap, subst}
use Rattle.std.proofs.Math.ListN.{length-replicate}
use borrow.Author.Tests.{le-ltb}
use Rattle.base.specs.Loop.{Ran}
use Rattle.base.proofs.laws.Pool.{All-map}
use Rattle.format_text.specs.Ascii.{ascii}
use Rattle.graph.specs.Least.{total_cost}
use Rattle.graph.specs.Parts.{lowests}
use Rattle.graph.proofs.laws.Parts.{lowests-are}
use Rattle.plan.specs.Links.{graph_of, Plan, modules_of, links_of}
use Rattle.plan.specs.Trimmed.{trimmed}
use Rattle.plan.specs.Weights.{cost}
use Rattle.plan.proofs.laws.Accepted.{Accepted, accepted}
use Rattle.plan_file.specs.Reading.{read_plan}
use Rattle.plan_file.specs.Layout.{decode}
use Rattle.plan_file.proofs.laws.RoundTrip.{read_taken, read-refusal, read-plan, decode-trimmed}
use Rattle.plan_tree.specs.Tree.{tree_link}
use Rattle.field.specs.Edges.{ceiling_of}
use Rattle.field.specs.Held.{Held, state_of, set_up}
use Rattle.field_calls.specs.Call.{does, after}
use Rattle.field_calls.specs.Demand.{InPart, Agreed}
use Rattle.field_laws.proofs.Laid.{Live}
use Rattle.field_laws.proofs.After.{started, begun-live, after-plan}
use Rattle.host_job.specs.Job.{job_run}
use Rattle.host_job.proofs.laws.Agrees.{calls, job_is, job-outcome}
use Rattle.text_report.specs.Text.{sizes_text, core_text, tail_text, report_text}
use Rattle.format_text.specs.Lines.{line}
use Rattle.text_report.proofs.laws.Text.{report-of, core-blank, core-parts}
use Rattle.text_owed.specs.Reported.{reported}
use Rattle.text_owed.proofs.laws.Reported.{job-shown, plan-taken}
use Rattle.text_owed.specs.Tree.{tree_lines, CoreLines}
use Rattle.text_owed.proofs.laws.Tree.{lines-tree, total-tree}
use Rattle.text_owed.proofs.laws.Lines.{tree-marked, core-lines}

module _ (s : List ℕ) (z : (read_plan s).refusal ≡ 0) where
  abbrev p : Plan
  p = (read_plan s).plan

  abbrev lent : List ℕ
  lent = replicate (ceiling_of p) 0

  abbrev pub ran : Ran Held
  ran = job_run p lent

  set : (set_up p lent).refusal ≡ 0
  unfolding set_up
  set = rw (read_taken s (read_plan s) refl z, length-replicate {A = ℕ} (ceiling_of p) 0, le-ltb (ceiling_of p) (ceiling_of p) (omega arith)) refl

  -- not refused
  pub never-refused : reported s ≡ report_text ran.state.field ran.done
  never-refused = plan-taken (read_plan s) (read_plan s) refl z lent refl ∙ job-shown ran ran refl (job-outcome p lent set).rests.unrefused

  -- of that plan
  pub own-plan : ran.state.field.plan ≡ p
  unfolding after does
  own-plan =
      let q = started p lent set in
      let live : Live (set_up p lent).state = subst Live (sym q.is) (begun-live (trimmed p) lent q.plan q.room) in
      let y : p ≡ decode s = read-plan s (sym (read-refusal s) ∙ z) in
      ap (λ (r : Ran Held). r.state.field.plan) (job_is p lent set) ∙ after-plan (calls p) (set_up p lent).state live ∙ ap (λ (h : Held). h.field.plan) q.is
      ∙ ap trimmed y ∙ decode-trimmed s ∙ sym y

  acc : Accepted p
  acc = accepted p (read_taken s (read_plan s) refl z)

  agrees : (w : ℕ) → w < modules_of p → Agreed p (state_of ran.state) (InPart p w)
  agrees = (job-outcome p lent set).agreed

  -- WHAT IT SAYS: head; a line for each link of the tree, by number; the tree's total; a core line for each part, by its lowest module; sent, M and rounds
  pub record ReportSays : Type 0 where
    pub core : List ℕ
    pub says : reported s
        ≡ sizes_text (modules_of p) (links_of p) ++ tree_lines p (links_of p) ++ line "total " (total_cost (graph_of p) (cost p) (tree_link p)) ++ core
        ++ tail_text ran.state.field.sent (ceiling_of p) ran.done
    -- "the blank plan keeps its single line"
    pub nobody : modules_of p ≡ 0 → core ≡ ascii "core none\n"
    pub lines : modules_of p ≢ 0 → CoreLines p (lowests (graph_of p) (modules_of p)) core
    pub within : ran.state.field.sent ≤ ceiling_of p
    pub soon : ran.done ≤ ceiling_of p + modules_of p

  pub report-says : ReportSays
  unfolding total_cost
  report-says =
      let marks = tree-marked p acc (state_of ran.state) agrees in
      record {
        core = core_text p ran.state.field.cells;
        says = never-refused
            ∙ report-of ran.state.field ran.done p own-plan acc.links_ok (lines-tree p _ (links_of p) marks) (total-tree p _ (links_of p) marks) refl;
        nobody = core-blank p _;
        lines = λ n. subst (CoreLines p (lowests (graph_of p) (modules_of p))) (sym (core-parts p ran.state.field.cells n (read_taken s (read_plan s) refl z)))
            (core-lines p acc (state_of ran.state) agrees (lowests (graph_of p) (modules_of p)) (All-map (λ u h. h.0) (lowests-are (graph_of p) (modules_of p))));
        within = (job-outcome p lent set).ceiling;
        soon = (job-outcome p lent set).rests.within;
      }
