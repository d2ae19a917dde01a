-- host_job::run_job: refused at setup by `not_set`; else all of it runs (`all-run`): by `job-outcome` nothing after setup is refused.
use mathlib.Core.Path.{◌≡◌, refl, sym, ap, ◌∙◌}
use lib.Seq.{length-take-le}
use Rattle.std.specs.Prelude.{ℕ, Err}
use Rattle.std.proofs.Common.{rules, arith}
use Rattle.refusal.specs.Number.{numbered, refusal_in}
use Rattle.refusal.proofs.laws.Number.{positive}
use Rattle.base.specs.Loop.{After, Ran}
use Rattle.field.specs.Held.{Held, set_up, blank_field}
use Rattle.host_job.proofs.laws.Job.{not_set, set-taken, not-woken, all-run}
use Rattle.host_job.proofs.laws.Agrees.{job-outcome}
use Rattle.host_job.proofs.run_job.Goals as goal

pub returns-in_err-field : goal.returns-in_err-field
returns-in_err-field c =
    let p = c.args.p.now in
    let lent = c.args.words.now in
    let x = c.in_err-field.field-0.0 in
    let q : c.from_residual.result ≡ Err x = grind rules in
    let e : ◌≡◌ {A = After Held} (record { refusal = numbered x; state = record { field = blank_field; words = c.setup.new.words } }) (set_up p lent) = grind rules in
    rw q (not_set p lent _ e (positive x))

pub wakes-n-requires : goal.wakes-n-requires
wakes-n-requires c =
    let p = c.args.p.now in
    let e : ◌≡◌ {A = After Held} (record { refusal = 0; state = record { field = c.in_ok-field.field; words = c.setup.new.words } }) (set_up p c.args.words.now) = grind rules in
    (set-taken p c.args.words.now _ e refl, refl)

-- after setup nothing is refused
pub returns-in_err-run : goal.returns-in_err-run
returns-in_err-run c =
    let p = c.args.p.now in
    let lent = c.args.words.now in
    let x = c.in_err-run.field-0.0 in
    let e : ◌≡◌ {A = After Held} (record { refusal = 0; state = record { field = c.in_ok-field.field; words = c.setup.new.words } }) (set_up p lent) = grind rules in
    let r : refusal_in c.run.result.ended ≡ numbered x = grind rules in
    let n = not-woken p lent _ e refl _ c.wakes-n.ensures.0 _ c.run.ensures (λ z. positive x (sym r ∙ z)) in
    let ok : (set_up p lent).refusal ≡ 0 = sym (ap (λ (a : After Held). a.refusal) e) in
    absurd (positive x (sym r ∙ ap (λ (a : Ran Held). a.refusal) n ∙ (job-outcome p lent ok).rests.unrefused))

pub returns-in_err-run-2 : goal.returns-in_err-run-2
returns-in_err-run-2 c =
    let p = c.args.p.now in
    let lent = c.args.words.now in
    let x = c.in_err-run-2.field-0.0 in
    let e : ◌≡◌ {A = After Held} (record { refusal = 0; state = record { field = c.in_ok-field.field; words = c.setup.new.words } }) (set_up p lent) = grind rules in
    let y : refusal_in c.run.result.ended ≡ 0 = grind rules in
    let r : refusal_in c.run-run.result.ended ≡ numbered x = grind rules in
    let n = all-run p lent _ e refl _ c.wakes-n.ensures.0 _ c.run.ensures y _ c.run-run.ensures in
    let ok : (set_up p lent).refusal ≡ 0 = sym (ap (λ (a : After Held). a.refusal) e) in
    absurd (positive x (sym r ∙ ap (λ (a : Ran Held). a.refusal) n ∙ (job-outcome p lent ok).rests.unrefused))

pub returns : goal.returns
returns c =
    let p = c.args.p.now in
    let lent = c.args.words.now in
    let e : ◌≡◌ {A = After Held} (record { refusal = 0; state = record { field = c.in_ok-field.field; words = c.setup.new.words } }) (set_up p lent) = grind rules in
    let y : refusal_in c.run.result.ended ≡ 0 = grind rules in
    let r : refusal_in c.run-run.result.ended ≡ 0 = grind rules in
    let n = all-run p lent _ e refl _ c.wakes-n.ensures.0 _ c.run.ensures y _ c.run-run.ensures in
    ap (λ (k : ℕ). record { done = c.run-run.result.done; refusal = k; state = record { field = c.run-run.new.f; words = c.run-run.new.words } }) (sym r) ∙ n

pub slice_bounds-run-end : goal.slice_bounds-run-end
slice_bounds-run-end c = sym (length-take-le _ c.wakes-n.new.out (omega (arith, c.wakes-n.ensures.1, c.wakes-n.auto.out)))
