-- library_job::muruapy_job_parts: by `job-keeps` where the job was refused, else by `job-into`, with the field in its parts.
use Rattle.std.specs.Prelude.{◌≡◌, refl}
use Rattle.std.proofs.Common.{rules}
use Rattle.refusal.specs.Number.{numbered}
use Rattle.refusal.proofs.laws.Number.{positive}
use Rattle.field.specs.Held.{blank_field, held_from}
use Rattle.host_job.specs.Job.{job_run}
use Rattle.library_job.proofs.laws.Lent.{job-into, job-keeps}
use Rattle.library_job.proofs.muruapy_job_parts.Goals as goal

pub returns-in-Ok : goal.returns-in-Ok
returns-in-Ok c =
    let a = c.args in
    let j = c.in-Ok.job in
    let e : record { done = j.rounds; refusal = 0; state = record { field = j.field; words = c.run_job.new.words } } ≡ job_run a.plan.now a.words.now = grind rules in
    let b = c.hand_back.ensures in
    rw (b.0, b.1, b.2) (job-into a.plan.now (held_from a.held.now a.cells.now a.marks.now a.sent.now a.words.now) j.rounds 0 j.field c.run_job.new.words e refl)

pub returns-in-Err : goal.returns-in-Err
returns-in-Err c =
    let a = c.args in
    let r = c.in-Err.refusal in
    let e : record { done = 0; refusal = numbered r; state = record { field = blank_field; words = c.run_job.new.words } } ≡ job_run a.plan.now a.words.now = grind rules in
    rw c.number.ensures
    (job-keeps a.plan.now (held_from a.held.now a.cells.now a.marks.now a.sent.now a.words.now) 0 (numbered r) blank_field c.run_job.new.words e (positive r))
