-- The whole job, where the field's memory is lent too.
use Rattle.base.specs.Loop.{Ran}
use Rattle.plan.specs.Links.{Plan}
use Rattle.field.specs.Held.{Held}
use Rattle.host_job.specs.Job.{job_run}
use Rattle.library_field.specs.Lent.{kept_unless}

-- as `set_up_into`: a refusal leaves the field that lay there
unfoldable pub job_into : Plan → Held → Ran Held
job_into p h =
    let a = job_run p h.words in
    record { done = a.done; refusal = a.refusal; state = kept_unless a.refusal h.field a.state }
