use Rattle.std.proofs.Common.{rules, refl, add-one, ◌∙◌}
use Rattle.base.specs.Limits.{max_modules}
use Rattle.base.proofs.laws.Table.{fill_start, fill-turn, fill_end}
use Rattle.plan_labels.proofs.number.Goals as goal

pub loop-v-init : goal.loop-v-init
loop-v-init c = fill_start max_modules _ _ _ c.requires (λ k l. refl)

pub loop-v-preserved : goal.loop-v-preserved
loop-v-preserved c = rw (c.loop-v.invariant, add-one) (fill-turn max_modules _ _ _ _ (search rules) refl)

pub returns : goal.returns
returns c = c.loop-v.invariant ∙ fill_end max_modules _ _ _ c.loop-v-test.false
