-- host_rounds::run_on: 31 by `rounds-31`, else the rounds by `rounds-done`.
use mathlib.Core.Path.{◌≡◌}
use Rattle.std.specs.Prelude.{Ok, Err}
use Rattle.std.proofs.Common.{rules}
use Rattle.refusal.specs.declared.Refusal.TheVariants as R
use Rattle.field.specs.Held.{Held}
use Rattle.field_check.specs.Checked.{check_of}
use Rattle.host_rounds.proofs.Call.{rounds-31, rounds-done}
use Rattle.host_rounds.proofs.run_on.Goals as goal

pub returns-in_err-n : goal.returns-in_err-n
returns-in_err-n c =
    let h : Held = record { field = c.args.f.now; words = c.args.words.now } in
    let e : Err c.in_err-n.field-0.0 ≡ check_of h = grind rules in
    let q : c.from_residual.result ≡ Err R.Field = grind rules in
    rw (q, c.requires) (rounds-31 _ _ e c.args.limit)

pub returns : goal.returns
returns c =
    let h : Held = record { field = c.args.f.now; words = c.args.words.now } in
    let e : Ok c.in_ok-n.n ≡ check_of h = grind rules in
    rounds-done _ _ e _ _ _ _ _ _ c.rounds.ensures (search rules)
