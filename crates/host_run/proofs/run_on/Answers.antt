-- host_run::run_on: 31 by `run-31`, 51 to 54 by `run-54`, else the steps by `run-done`.
use Rattle.std.specs.Prelude.{◌≡◌, Ok, Err}
use Rattle.std.proofs.Common.{rules, arith}
use Rattle.refusal.specs.declared.Refusal.TheVariants as R
use Rattle.refusal.specs.Number.{numbered}
use Rattle.refusal.proofs.laws.Number.{positive}
use Rattle.field.specs.Held.{Held}
use Rattle.field_calls.specs.Schedule.{schedule_refusal}
use Rattle.field_check.specs.Checked.{check_of}
use Rattle.host_run.proofs.Alone.{run-31, run-54, run-done}
use Rattle.host_run.proofs.run_on.Goals as goal

pub returns-in_err-waiting : goal.returns-in_err-waiting
returns-in_err-waiting c =
    let h : Held = record { field = c.args.f.now; words = c.args.words.now } in
    let e : Err c.in_err-waiting.field-0.0 ≡ check_of h = grind rules in
    let q : c.from_residual.result ≡ Err R.Field = grind rules in
    rw (q, c.requires) (run-31 _ _ e c.args.bytes.now)

pub returns-in_err-check : goal.returns-in_err-check
returns-in_err-check c =
    let h : Held = record { field = c.args.f.now; words = c.args.words.now } in
    let e : Ok c.in_ok-waiting.waiting ≡ check_of h = grind rules in
    let x = c.in_err-check.field-0.0 in
    let b : numbered x ≡ schedule_refusal c.args.bytes.now = grind arith in
    let q : c.from_residual-in_err-check.result ≡ Err x = grind rules in
    rw (q, c.requires) (run-54 _ _ e c.args.bytes.now _ b (positive x))

pub returns : goal.returns
returns c =
    let h : Held = record { field = c.args.f.now; words = c.args.words.now } in
    let e : Ok c.in_ok-waiting.waiting ≡ check_of h = grind rules in
    let z : schedule_refusal c.args.bytes.now ≡ 0 = grind arith in
    run-done _ _ e c.args.bytes.now z _ _ _ _ _ c.steps.ensures (search rules)

pub steps-requires : goal.steps-requires
steps-requires c =
    let z : schedule_refusal c.args.bytes.now ≡ 0 = grind arith in
    (grind rules, z, c.requires)
