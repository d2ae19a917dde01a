-- What the reporting program prints for the bytes that it reads.
use Rattle.std.specs.Prelude.{ℕ, cond, List, replicate, eqb}
use Rattle.base.specs.Loop.{Ran}
use Rattle.plan_file.specs.Reading.{Outcome}
use Rattle.plan_file.specs.Reading.{read_plan}
use Rattle.field.specs.Edges.{ceiling_of}
use Rattle.field.specs.Held.{Held}
use Rattle.host_job.specs.Job.{job_run}
use Rattle.text_report.specs.Text.{report_text}
use Rattle.format_text.specs.Lines.{refused_text}

-- of what the whole job leaves
unfoldable pub job_text : Ran Held → List ℕ
job_text r = cond (eqb r.refusal 0) (report_text r.state.field r.done) (refused_text r.refusal)

-- of what the reader answers: the job is done over M words
unfoldable pub plan_text : Outcome → List ℕ
plan_text g = cond (eqb g.refusal 0) (job_text (job_run g.plan (replicate (ceiling_of g.plan) 0))) (refused_text g.refusal)

-- "The reporting program reads a plan on standard input, wakes module 0, runs rounds with limit 65535."; request 04: it "skips the wake" where there is nobody;
-- request 08: it "wakes the lowest module of each part and prints a core line for each"
abbrev pub reported : List ℕ → List ℕ
reported s = plan_text (read_plan s)
