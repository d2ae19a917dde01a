-- plan_tree::offer: the part's pick becomes what `sooner` answers.
use Rattle.plan_tree.proofs.offer.Goals as goal

pub returns : goal.returns
returns c = rw c.sooner.ensures
