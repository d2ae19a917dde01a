-- program_trace::trace: refused by `traced-refused`, else by `traced-ran`; the array has words enough, by `ceiling-small`.
use mathlib.Core.Path.{◌≡◌, refl, sym, ap, ◌∙◌}
use lib.ListN.{take}
use lib.Seq.{length-take-le}
use Rattle.std.specs.Prelude.{ℕ, ◌≤◌}
use Rattle.std.proofs.Common.{rules, arith}
use Rattle.refusal.specs.Number.{numbered}
use Rattle.refusal.proofs.laws.Number.{positive}
use Rattle.base.specs.Limits.{max_words}
use Rattle.format_text.specs.Put.{put}
use Rattle.plan.specs.Links.{Plan, blank}
use Rattle.plan.specs.Refusal.{plan_refusal}
use Rattle.plan.proofs.laws.Ceiling.{ceiling-small}
use Rattle.plan_file.specs.Reading.{read_plan}
use Rattle.plan_file.proofs.laws.RoundTrip.{read_taken}
use Rattle.field.specs.Edges.{ceiling_of}
use Rattle.text_owed.proofs.laws.Traced.{traced-refused, traced-ran}
use Rattle.program_trace.proofs.trace.Goals as goal

pub slice_bounds-read-end : goal.slice_bounds-read-end
slice_bounds-read-end c = sym (length-take-le _ _ (omega arith))

-- the array has the words of the largest plan
room : (p : Plan) → plan_refusal p ≡ 0 → {m : ℕ} → m ≡ ceiling_of p → m ≤ max_words
room p z e = omega (arith, e, ceiling-small p z)

pub slice_bounds-lent-end : goal.slice_bounds-lent-end
slice_bounds-lent-end c =
    let e : record { refusal = 0; plan = c.in-Ok.plan } ≡ read_plan (take c.plan_part-part.result c.args.input.now) = grind rules in
    room _ (read_taken _ _ e refl) c.ceiling_of-m.ensures

pub slice_bounds-follow-end : goal.slice_bounds-follow-end
slice_bounds-follow-end c =
    let e : record { refusal = 0; plan = c.in-Ok.plan } ≡ read_plan (take c.plan_part-part.result c.args.input.now) = grind rules in
    sym (length-take-le _ _ (room _ (read_taken _ _ e refl) c.ceiling_of-m.ensures))

pub follow-requires : goal.follow-requires
follow-requires c =
    let e : record { refusal = 0; plan = c.in-Ok.plan } ≡ read_plan (take c.plan_part-part.result c.args.input.now) = grind rules in
    (read_taken _ _ e refl, length-take-le _ _ (room _ (read_taken _ _ e refl) c.ceiling_of-m.ensures) ∙ c.ceiling_of-m.ensures)

pub returns-in-Ok : goal.returns-in-Ok
returns-in-Ok c =
    let e : record { refusal = 0; plan = c.in-Ok.plan } ≡ read_plan (take c.plan_part-part.result c.args.input.now) = grind rules in
    c.follow.ensures ∙ ap (put _) (sym (traced-ran _ _ c.plan_part-part.ensures _ e refl))

pub returns-in-Err : goal.returns-in-Err
returns-in-Err c =
    let r = c.in-Err.refusal in
    let e : record { refusal = numbered r; plan = blank } ≡ read_plan (take c.plan_part-part.result c.args.input.now) = grind rules in
    c.put_refused.ensures ∙ rw c.number.ensures (ap (put _) (sym (traced-refused _ _ c.plan_part-part.ensures _ e (positive r))))
