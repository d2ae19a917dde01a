-- host_path::near: one law for each refusal, and the marks by `marks-told`.
use Rattle.std.proofs.Common.{arith}
use Rattle.refusal.proofs.laws.Number.{positive}
use Rattle.std.specs.Prelude.{◌≡◌}
use Rattle.plan.specs.Refusal.{plan_refusal}
use Rattle.plan.proofs.laws.Accepted.{accepted}
use Rattle.path.proofs.laws.Outcomes.{near-refused-plan, near-refused-module, near-refused-room}
use Rattle.host_path.proofs.Answers.{marks-told}
use Rattle.host_path.proofs.near.Goals as goal

pub returns-in_err-check : goal.returns-in_err-check
returns-in_err-check c = grind (arith, near-refused-plan, positive)

pub returns-then-n-from : goal.returns-then-n-from
returns-then-n-from c = grind (arith, near-refused-module)

pub returns-then-out-size : goal.returns-then-out-size
returns-then-out-size c = grind (arith, near-refused-room)

pub at_most-requires : goal.at_most-requires
at_most-requires c =
    let ok : plan_refusal c.args.plan.now ≡ 0 = grind arith in
    (omega arith, omega (arith, (accepted _ ok).modules_ok))

pub write_known-requires : goal.write_known-requires
write_known-requires c =
    let ok : plan_refusal c.args.plan.now ≡ 0 = grind arith in
    (c.spread_within.ensures.size, omega (arith, (accepted _ ok).modules_ok), c.if-out-size.false)

pub returns : goal.returns
returns c =
    let a = c.args in
    let ok : plan_refusal c.args.plan.now ≡ 0 = grind arith in
    marks-told a.plan.now a.from a.h _ _ _ a.out.now _ ok c.modules-n.ensures c.if-n-from.false c.if-out-size.false c.at_most.ensures c.spread_within.ensures
    c.write_known.ensures
