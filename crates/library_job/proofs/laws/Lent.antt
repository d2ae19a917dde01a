-- The job into lent memory: taken, what the job leaves and its rounds (`job-into`); refused, the field that lay there (`job-keeps`). Only setup can
-- refuse it (`job-by-setup`, `job-stops`), so nothing is altered (`job-alters-nothing`).
use Rattle.std.specs.Prelude.{ℕ, ◌≡◌, refl, ◌≢◌, List}
use Rattle.std.proofs.Common.{sym}
use Rattle.base.proofs.laws.Cond.{eqb-diff}
use Rattle.plan.specs.Links.{Plan}
use Rattle.field.specs.declared.Field.{Field}
use Rattle.field.specs.Held.{Held, set_up}
use Rattle.field_calls.specs.Call.{refused_run}
use Rattle.host_job.specs.Job.{job_run}
use Rattle.host_job.proofs.laws.Agrees.{job-outcome}
use Rattle.library_field.proofs.laws.Lent.{refused-words}
use Rattle.library_job.specs.Lent.{job_into}

pub job-by-setup : (p : Plan) (lent : List ℕ) → (job_run p lent).refusal ≢ 0 → (set_up p lent).refusal ≢ 0
job-by-setup p lent n ok = n (job-outcome p lent ok).rests.unrefused

-- then nothing is done but setup
pub job-stops : (p : Plan) (lent : List ℕ) → (set_up p lent).refusal ≢ 0 → job_run p lent ≡ refused_run (set_up p lent).refusal (set_up p lent).state
unfolding job_run
job-stops p lent n = rw (eqb-diff _ 0 n) refl

pub job-alters-nothing : (p : Plan) (h : Held) → (job_into p h).refusal ≢ 0 → (job_into p h).state ≡ h
unfolding job_into
job-alters-nothing p h n =
    let s = job-by-setup p h.words n in
    rw (job-stops p h.words s, eqb-diff _ 0 s, refused-words p h.words s) refl

module _ (p : Plan) (old : Held) (done r : ℕ) (f : Field) (words : List ℕ)
    (e : record { done = done; refusal = r; state = record { field = f; words = words } } ≡ job_run p old.words) where
  pub job-into : r ≡ 0 → record { done = done; refusal = 0; state = record { field = f; words = words } } ≡ job_into p old
  unfolding job_into
  job-into z = rw (sym e, z)

  pub job-keeps : r ≢ 0 → record { done = done; refusal = r; state = record { field = old.field; words = words } } ≡ job_into p old
  unfolding job_into
  job-keeps n = rw (sym e, eqb-diff r 0 n)
