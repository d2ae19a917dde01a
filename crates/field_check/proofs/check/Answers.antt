-- field_check::check: 31 by the four tests (`valid-as`); what waits and what lies behind, by `within`.
use Rattle.std.proofs.Common.{arith}
use Rattle.std.proofs.lemmas.Bool.Decides.{nat_tests}
use Rattle.refusal.proofs.laws.Number.{positive}
use mathlib.Core.Path.{sym}
use lib.Seq.{length-take-le}
use Rattle.plan.proofs.laws.Accepted.{accepted}
use Rattle.field_check.proofs.Words.{within}
use Rattle.field_check.proofs.Outcomes.{valid-as}
use Rattle.field_check.proofs.check.Goals as goal

pub offset_bounds-lent-n : goal.offset_bounds-lent-n
offset_bounds-lent-n c = omega (arith, within c.args.lent.now _ c.waiting-n.ensures)

pub slice_bounds-all_zero-count : goal.slice_bounds-all_zero-count
slice_bounds-all_zero-count c = within _ _ c.waiting-n.ensures

pub slice_bounds-all_zero-start : goal.slice_bounds-all_zero-start
slice_bounds-all_zero-start c = within _ _ c.waiting-n.ensures

pub slice_bounds-state_fits-end : goal.slice_bounds-state_fits-end
slice_bounds-state_fits-end c = sym (length-take-le _ _ (within _ _ c.waiting-n.ensures))

pub state_fits-requires : goal.state_fits-requires
state_fits-requires c = accepted c.args.plan.now (grind (arith, positive))

pub returns-then-is_err : goal.returns-then-is_err
returns-then-is_err c = let v = valid-as c.args.plan.now c.args.cells.now c.args.marks.now c.args.sent c.args.lent.now _ c.waiting-n.ensures in grind (arith, nat_tests, positive)

pub returns : goal.returns
returns c = let v = valid-as c.args.plan.now c.args.cells.now c.args.marks.now c.args.sent c.args.lent.now _ c.waiting-n.ensures in grind (arith, nat_tests, positive)
