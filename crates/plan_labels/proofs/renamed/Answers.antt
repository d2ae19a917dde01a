-- plan_labels::renamed: the two cases of the graph's `rename`, the first by `rename-from`.
use mathlib.Core.Path.{sym}
use borrow.Author.Tests.{ne_eqb}
use Rattle.graph.specs.Labels.{rename}
use Rattle.graph.proofs.laws.Labels.{rename-from}
use Rattle.plan_labels.proofs.renamed.Goals as goal

pub returns-then-x-from : goal.returns-then-x-from
returns-then-x-from c = rw c.if-x-from.true (sym (rename-from _ _))

pub returns-else-x-from : goal.returns-else-x-from
unfolding rename
returns-else-x-from c = simp (ne_eqb _ _ c.if-x-from.false)
