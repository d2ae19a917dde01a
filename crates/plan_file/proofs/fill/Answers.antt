use Rattle.std.proofs.Common.{◌≡◌, add-one, ap, ◌∙◌, arith}
use Rattle.plan_file.specs.Layout.{plan_numbers, number_at, decode}
use Rattle.plan.proofs.laws.Trimmed.{none_read, one-read, all_read}
use Rattle.plan_file.proofs.fill.Goals as goal

pub number_at-requires : goal.number_at-requires
number_at-requires c = omega (arith, c.requires.0.size)

pub loop-i-init : goal.loop-i-init
loop-i-init c = none_read _ _ c.requires.1

pub number_at-requires-in-loop-i : goal.number_at-requires-in-loop-i
number_at-requires-in-loop-i c = omega (arith, c.requires.0.size)

pub bounds-plan-i : goal.bounds-plan-i
bounds-plan-i c = omega (arith, c.requires.0.counts.links_ok)

pub loop-i-preserved : goal.loop-i-preserved
loop-i-preserved c =
    rw add-one (one-read _ _ c.loop-i.i _ (omega (arith, c.requires.0.counts.links_ok)) c.loop-i.invariant (c.number_at-in-loop-i.ensures ∙ ap (number_at c.args.s.now) (add-one c.loop-i.i)))

pub returns : goal.returns
unfolding decode
returns c =
    let n = number_at c.args.s.now 2 in
    let q : c.loop-i.i ≡ plan_numbers n = omega arith in
    rw q at c.loop-i.invariant ∙ all_read _ (plan_numbers n) (omega (arith, c.requires.0.counts.links_ok))
