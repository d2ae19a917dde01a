-- host_run::step: 31 by `step-31`, else the step by `step-done`.
use Rattle.std.specs.Prelude.{◌≡◌, Ok}
use Rattle.std.proofs.Common.{rules}
use Rattle.field.specs.Held.{Held}
use Rattle.field_check.specs.Checked.{check_of}
use Rattle.host_run.proofs.Alone.{step-31, step-done}
use Rattle.host_run.proofs.step.Goals as goal

pub returns-in_err-n : goal.returns-in_err-n
returns-in_err-n c = grind (rules, step-31)

pub returns : goal.returns
returns c =
    let h : Held = record { field = c.args.f.now; words = c.args.words.now } in
    let e : Ok c.in_ok-n.n ≡ check_of h = grind rules in
    step-done _ _ e _ _ _ _ _ _ c.step.ensures (search rules)
