-- path_search::branches: the part of the local bytes that is lent has L of them.
use native.Mathlib.Omega.{arith}
use mathlib.Core.Path.{sym, ◌∙◌}
use lib.Seq.{length-take-le}
use Rattle.plan.proofs.laws.Accepted.{accepted}
use Rattle.path_search.proofs.branches.Goals as goal

pub slice_bounds-tree-end : goal.slice_bounds-tree-end
slice_bounds-tree-end c = omega (arith, c.links-end.ensures, (accepted c.args.plan.now c.requires.0).links_ok)

pub slice_bounds-list_tree-end : goal.slice_bounds-list_tree-end
slice_bounds-list_tree-end c = sym (length-take-le _ _ (slice_bounds-tree-end c.before))

pub list_tree-requires : goal.list_tree-requires
list_tree-requires c =
    let n = c.before.before in
    (n.requires.0, length-take-le _ _ (slice_bounds-tree-end n) ∙ n.links-end.ensures, n.requires.1)
