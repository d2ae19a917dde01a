-- program_report::job_report: refused by `job-refused`, else by `job-shown`.
use mathlib.Core.Path.{◌≡◌, refl, sym, ap, ◌∙◌}
use Rattle.std.proofs.Common.{rules}
use Rattle.refusal.specs.Number.{numbered}
use Rattle.refusal.proofs.laws.Number.{positive}
use Rattle.field.specs.Held.{blank_field}
use Rattle.format_text.specs.Put.{put}
use Rattle.host_job.specs.Job.{job_run}
use Rattle.text_owed.proofs.laws.Reported.{job-refused, job-shown}
use Rattle.program_report.proofs.job_report.Goals as goal

pub returns-in-Ok : goal.returns-in-Ok
returns-in-Ok c =
    let j = c.in-Ok.job in
    let e : record { done = j.rounds; refusal = 0; state = record { field = j.field; words = c.run_job.new.words } } ≡ job_run c.args.p.now c.args.words.now = grind rules in
    c.render.ensures ∙ ap (put _) (sym (job-shown _ _ e refl))

pub returns-in-Err : goal.returns-in-Err
returns-in-Err c =
    let r = c.in-Err.r in
    let e : record { done = 0; refusal = numbered r; state = record { field = blank_field; words = c.run_job.new.words } } ≡ job_run c.args.p.now c.args.words.now = grind rules in
    c.put_refused.ensures ∙ rw c.number.ensures (ap (put _) (sym (job-refused _ _ e (positive r))))
