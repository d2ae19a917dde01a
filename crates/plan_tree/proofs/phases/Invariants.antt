-- plan_tree::phases: a loop; the marks stay a `Forest` and fewer edges are `apart` each time. With none apart they are the tree, by `finished`.
use mathlib.Core.Path.{◌≡◌}
use lib.ListN.{length}
use Rattle.plan.specs.Links.{graph_of}
use Rattle.plan.specs.Weights.{earlier}
use Rattle.plan_tree.specs.laws.Forest.{Forest}
use Rattle.plan_tree.specs.laws.Phase.{apart}
use Rattle.plan_tree.specs.Lent.{at, LabelsFit}
use Rattle.plan_tree.proofs.phases.Given as goal

abbrev pub invariant-loop : goal.invariant-loop
invariant-loop l = (length l.out ≡ length l.initial.out) × LabelsFit l.label × Forest (graph_of l.plan) (earlier l.plan) (at l.label) (at l.out)

abbrev pub decreases-loop : goal.decreases-loop
decreases-loop l = apart (graph_of l.plan) (at l.label)
