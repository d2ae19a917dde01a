-- What is printed, by outcome: refused (`plan-refused`, `job-refused`), or a report (`job-shown`).
use Rattle.std.specs.Prelude.{ℕ, ◌≡◌, ◌≢◌, List, replicate}
use Rattle.std.proofs.Math.Path.{refl}
use Rattle.std.proofs.Common.{sym}
use borrow.Author.Tests.{eq-eqb, ne_eqb}
use Rattle.base.specs.Loop.{Ran}
use Rattle.plan_file.specs.Reading.{Outcome}
use Rattle.field.specs.Edges.{ceiling_of}
use Rattle.field.specs.Held.{Held}
use Rattle.host_job.specs.Job.{job_run}
use Rattle.text_report.specs.Text.{report_text}
use Rattle.format_text.specs.Lines.{refused_text}
use Rattle.text_owed.specs.Reported.{job_text, plan_text}

-- For code: which of the two.
module _ (r x : Ran Held) (e : r ≡ x) where
  pub job-refused : r.refusal ≢ 0 → job_text x ≡ refused_text r.refusal
  unfolding job_text
  job-refused h = rw (sym e, ne_eqb r.refusal 0 h) refl

  pub job-shown : r.refusal ≡ 0 → job_text x ≡ report_text r.state.field r.done
  unfolding job_text
  job-shown h = rw (sym e, eq-eqb r.refusal 0 h) refl

module _ (g x : Outcome) (e : g ≡ x) where
  pub plan-refused : g.refusal ≢ 0 → plan_text x ≡ refused_text g.refusal
  unfolding plan_text
  plan-refused h = rw (sym e, ne_eqb g.refusal 0 h) refl

  pub plan-taken : g.refusal ≡ 0 → (lent : List ℕ) → lent ≡ replicate (ceiling_of g.plan) 0 → plan_text x ≡ job_text (job_run g.plan lent)
  unfolding plan_text
  plan-taken h lent l = rw (sym e, l, eq-eqb g.refusal 0 h) refl
