-- plan_tree::sooner: one law for each return: `sooner-none`, `sooner-new`, `sooner-old`.
use mathlib.Core.Path.{sym, ◌∙◌}
use mathlib.Core.Logic.{⊎_elim}
use Rattle.plan_tree.specs.laws.Phase.{sooner-none, sooner-new, sooner-old}
use Rattle.plan_tree.proofs.sooner.Goals as goal

pub returns-then-b-eq-NONE : goal.returns-then-b-eq-NONE
returns-then-b-eq-NONE c = sym (sooner-none _ _ _ c.if-b-eq-NONE.true)

pub earlier-requires : goal.earlier-requires
earlier-requires c = let s = c.requires in (s.0, ⊎_elim (λ e. absurd (c.if-b-eq-NONE.false e)) (λ l. l) s.1)

pub returns-then-earlier : goal.returns-then-earlier
returns-then-earlier c = sym (sooner-new _ _ _ c.if-b-eq-NONE.false (sym c.earlier.ensures ∙ c.if-earlier.true))

pub returns-else-earlier : goal.returns-else-earlier
returns-else-earlier c = sym (sooner-old _ _ _ c.if-b-eq-NONE.false (sym c.earlier.ensures ∙ c.if-earlier.false))
