-- path_search::list_tree: the tree's bytes, then those marked; they are the branches, by `marked-branches`.
use native.Mathlib.Omega.{arith}
use Rattle.plan.proofs.laws.Accepted.{accepted}
use Rattle.path_search.proofs.Marks.{marked-branches}
use Rattle.path_search.proofs.list_tree.Goals as goal

pub list_marked-requires : goal.list_marked-requires
list_marked-requires c =
    (omega (arith, c.grow.auto.out, c.requires.1, (accepted c.args.plan.now c.requires.0).links_ok), c.requires.2)

pub returns : goal.returns
returns c =
    marked-branches c.args.plan.now _ _ _ (accepted c.args.plan.now c.requires.0).links_ok c.grow.ensures c.list_marked.ensures
