use Rattle.std.proofs.Common.{refl, add-one, ap, ◌∙◌, rules}
use Rattle.base.specs.Limits.{max_modules}
use Rattle.base.proofs.laws.Table.{fill-next, fill_start, fill-turn, fill_end}
use Rattle.graph.specs.Labels.{rename}
use Rattle.plan_labels.proofs.relabel.Goals as goal

pub loop-x-init : goal.loop-x-init
loop-x-init c = fill_start max_modules _ _ _ c.requires (λ k l. refl)

pub loop-x-preserved : goal.loop-x-preserved
loop-x-preserved c =
    rw (c.loop-x.invariant, add-one)
    (fill-turn max_modules _ _ _ _ (search rules) (c.renamed.ensures ∙ rw c.loop-x.invariant (ap (rename _ _) (fill-next max_modules _ _ _ (search rules)))))

pub returns : goal.returns
returns c = c.loop-x.invariant ∙ fill_end max_modules _ _ _ c.loop-x-test.false
