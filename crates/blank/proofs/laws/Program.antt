-- On a plan with nobody in it the program prints six lines (`blank-prints`); that which traces tells that no step was done (`blank-traces`).
use Rattle.std.specs.Prelude.{ℕ, ◌≡◌, true, List, [], ◌++◌, replicate}
use Rattle.std.proofs.Common.{arith, sym, ap, ◌∙◌, append-nil}
use Rattle.std.proofs.Math.Path.{refl}
use Rattle.std.proofs.lemmas.List.{length-replicate}
use Rattle.base.specs.Log.{log2-to, log2}
use Rattle.format_text.specs.Decimal.{decimal}
use Rattle.plan.specs.Links.{Plan}
use Rattle.plan.specs.Trimmed.{trimmed}
use Rattle.plan_file.specs.Layout.{blank}
use Rattle.plan_file.specs.Reading.{read_plan}
use Rattle.field.specs.Edges.{ceiling_of}
use Rattle.field.specs.Valid.{waiting_in}
use Rattle.field.specs.Held.{Held, valid}
use Rattle.field_calls.specs.Call.{run_bytes}
use Rattle.text_trace.specs.Text.{modules_text, words_text, summary_text, trace_text}
use Rattle.text_report.specs.Total.{total}
use Rattle.text_report.specs.Text.{branch_lines, core_text, report_text}
use Rattle.text_owed.specs.Reported.{job_text, reported}
use Rattle.text_owed.proofs.laws.Reported.{plan-taken}
use Rattle.text_owed.specs.Traced.{fresh_held, plan_part, ran_text, traced}
use Rattle.blank.specs.Claim.{Blank, blank_bytes, blank_report, blank_run, zero_words}
use Rattle.blank.proofs.laws.Plans.{blank-read, trimmed-blank, zeros-trimmed, blank-ceiling}
use Rattle.blank.proofs.laws.Fields.{blank-valid, blank-run}
use Rattle.blank.proofs.laws.Job.{blank_begun, held-blank, begun-is, blank-job}

module _ (p : Plan) (b : Blank p) (lent : List ℕ) where
  blank-text : job_text (record { done = 0; refusal = 0; state = blank_begun p b lent }) ≡ blank_report
  unfolding job_text report_text branch_lines total core_text decimal log2 log2-to
  blank-text = let held = held-blank p b lent in rw (held.nobody, held.unlinked) refl

pub blank-prints : reported blank_bytes ≡ blank_report
blank-prints =
    let p = trimmed blank in
    let lent = replicate {A = ℕ} (ceiling_of p) 0 in
    plan-taken (record { refusal = 0; plan = p }) (read_plan blank_bytes) (sym blank-read) refl lent refl
    ∙ ap job_text (blank-job p zeros-trimmed lent ∙ ap (λ (h : Held). record { done = 0; refusal = 0; state = h }) (begun-is p zeros-trimmed lent))
    ∙ blank-text p zeros-trimmed lent

blank-trace : (p : Plan) → Blank p → (s : List ℕ) → ran_text p (run_bytes s (fresh_held p)) ≡ summary_text 0 (blank_run s) 0 0
unfolding ran_text trace_text modules_text words_text waiting_in
blank-trace p b s =
    let h = fresh_held p in
    let v : valid h ≡ true = (blank-valid h (trimmed-blank p b)).1 (refl, ap zero_words (sym (length-replicate {A = ℕ} (ceiling_of p) 0))) in
    let t = summary_text 0 (blank_run s) 0 0 in
    rw (blank-run h (trimmed-blank p b) v s) (rw (blank-ceiling p b, b.nobody) (append-nil (t ++ []) ∙ append-nil t))

pub blank-traces : (s : List ℕ) → traced (blank_bytes ++ s) ≡ summary_text 0 (blank_run s) 0 0
unfolding traced
blank-traces s =
    let part : plan_part (blank_bytes ++ s) ≡ 7 = omega arith in
    rw part (rw blank-read (blank-trace (trimmed blank) zeros-trimmed s))
