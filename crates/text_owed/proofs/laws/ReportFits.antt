-- All that the program prints has at most 47157 bytes (`reported-fits`), and no plan that is taken asks for more than 7920 words.
use Rattle.std.specs.Prelude.{ℕ, zero, suc, ◌≤◌, ◌≡◌, refl, cond, List, ◌∷◌, length, take, replicate, eqb}
use Rattle.std.proofs.Common.{arith, ap}
use Rattle.std.proofs.lemmas.List.{length-replicate}
use Rattle.base.specs.Limits.{max_words}
use Rattle.base.specs.Loop.{Ran}
use Rattle.base.proofs.laws.Loop.{by-test}
use Rattle.format_text.specs.Lines.{refused_text}
use Rattle.format_text.proofs.laws.Lines.{line-length}
use Rattle.plan.proofs.laws.Ceiling.{ceiling-small}
use Rattle.plan_file.specs.Reading.{Outcome}
use Rattle.plan_file.specs.Reading.{read_plan}
use Rattle.plan_file.proofs.laws.RoundTrip.{read_taken}
use Rattle.field.specs.Edges.{ceiling_of}
use Rattle.field.specs.Held.{Held}
use Rattle.host_job.specs.Job.{job_run}
use Rattle.text_report.specs.Text.{report_text}
use Rattle.text_report.proofs.laws.Fits.{report-length}
use Rattle.text_owed.specs.Reported.{job_text, plan_text, reported}

refused-length : (number : ℕ) → length (refused_text number) ≤ 47157
refused-length number = omega (arith, line-length "refused " number)

job-length : (r : Ran Held) → length (job_text r) ≤ 47157
unfolding job_text
job-length r = by-test (eqb r.refusal 0) (λ b. length (cond b (report_text r.state.field r.done) (refused_text r.refusal)) ≤ 47157)
    (report-length r.state.field r.done) (refused-length r.refusal)

pub reported-length : (s : List ℕ) → length (reported s) ≤ 47157
unfolding plan_text
reported-length s =
    let g = read_plan s in
    let x = job_text (job_run g.plan (replicate (ceiling_of g.plan) 0)) in
    by-test (eqb g.refusal 0) (λ b. length (cond b x (refused_text g.refusal)) ≤ 47157)
    (job-length (job_run g.plan (replicate (ceiling_of g.plan) 0))) (refused-length g.refusal)

-- The words of a plan that is taken.
pub read_small : (s : List ℕ) (g : Outcome) → g ≡ read_plan s → g.refusal ≡ 0 → ceiling_of g.plan ≤ max_words
read_small s g e z = ceiling-small g.plan (read_taken s g e z)

-- Arrays of zeros, and their fronts.
pub zeros-front : (m n : ℕ) → m ≤ n → take {A = ℕ} m (replicate n 0) ≡ replicate m 0
zeros-front zero n l = refl
zeros-front (suc m) zero l = absurd (omega arith)
zeros-front (suc m) (suc n) l = ap (λ (t : List ℕ). 0 ∷ t) (zeros-front m n (omega arith))

-- the buffer, before anything is put
pub reported-fits : (s : List ℕ) → length (reported s) ≤ length {A = ℕ} (replicate 65536 0)
reported-fits s = rw (length-replicate {A = ℕ} 65536 0) (omega (arith, reported-length s))
