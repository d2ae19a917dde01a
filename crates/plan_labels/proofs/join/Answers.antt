-- plan_labels::join: where both parts are one already a renaming changes nothing, by `rename-same`.
use Rattle.base.specs.Limits.{max_modules}
use Rattle.plan_labels.proofs.Lemmas.{rename-same}
use Rattle.plan_labels.proofs.join.Goals as goal

pub returns-else-from-to : goal.returns-else-from-to
returns-else-from-to c = rename-same _ _ max_modules _ c.requires c.if-from-to.false
