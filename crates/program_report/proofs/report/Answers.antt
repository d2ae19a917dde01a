-- program_report::report: a refused plan by `plan-refused`, else by `plan-taken`; the array has words enough, by `read_small`.
use mathlib.Core.Path.{◌≡◌, refl, sym, ap, ◌∙◌}
use lib.ListN.{replicate}
use lib.Seq.{length-take-le}
use Rattle.std.specs.Prelude.{ℕ, ◌≤◌, List}
use Rattle.std.proofs.Common.{rules, arith}
use Rattle.refusal.specs.Number.{numbered}
use Rattle.refusal.proofs.laws.Number.{positive}
use Rattle.base.specs.Limits.{max_words}
use Rattle.format_text.specs.Put.{put}
use Rattle.field.specs.Edges.{ceiling_of}
use Rattle.plan.specs.Links.{blank}
use Rattle.plan_file.specs.Reading.{Outcome, read_plan}
use Rattle.text_owed.proofs.laws.Reported.{plan-refused, plan-taken}
use Rattle.text_owed.proofs.laws.ReportFits.{read_small, zeros-front}
use Rattle.program_report.proofs.report.Goals as goal

-- the array has the words of the largest plan
room : (s : List ℕ) (g : Outcome) → g ≡ read_plan s → g.refusal ≡ 0 → {m : ℕ} → m ≡ ceiling_of g.plan → m ≤ max_words
room s g e z f =
    let most : ceiling_of g.plan ≤ max_words = read_small s g e z in
    omega (arith, f)

pub slice_bounds-lent-end : goal.slice_bounds-lent-end
slice_bounds-lent-end c =
    let e : record { refusal = 0; plan = c.in-Ok.plan } ≡ read_plan c.args.s.now = grind rules in
    room _ _ e refl c.ceiling_of-m.ensures

pub slice_bounds-job_report-end : goal.slice_bounds-job_report-end
slice_bounds-job_report-end c =
    let e : record { refusal = 0; plan = c.in-Ok.plan } ≡ read_plan c.args.s.now = grind rules in
    sym (length-take-le _ _ (room _ _ e refl c.ceiling_of-m.ensures))

pub returns-in-Ok : goal.returns-in-Ok
returns-in-Ok c =
    let e : record { refusal = 0; plan = c.in-Ok.plan } ≡ read_plan c.args.s.now = grind rules in
    c.job_report.ensures
    ∙ ap (put _) (sym (plan-taken _ _ e refl _ (zeros-front _ _ (room _ _ e refl c.ceiling_of-m.ensures) ∙ ap (λ k. replicate k 0) c.ceiling_of-m.ensures)))

pub returns-in-Err : goal.returns-in-Err
returns-in-Err c =
    let r = c.in-Err.refusal in
    let e : record { refusal = numbered r; plan = blank } ≡ read_plan c.args.s.now = grind rules in
    c.put_refused.ensures ∙ rw c.number.ensures (ap (put _) (sym (plan-refused _ _ e (positive r))))
