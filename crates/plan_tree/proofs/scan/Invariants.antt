-- plan_tree::scan: `Firsts` of the first k edges, and how many of them are apart (`apart_at`).
use Rattle.std.proofs.Common.{◌≡◌}
use Rattle.base.specs.Sum.{sum}
use Rattle.plan.specs.Links.{graph_of}
use Rattle.plan_tree.specs.laws.Phase.{apart_at}
use Rattle.plan_tree.specs.Lent.{at, Firsts}
use Rattle.plan_tree.proofs.scan.Given as goal

abbrev pub invariant-loop-k : goal.invariant-loop-k
invariant-loop-k l = (l.found ≡ sum l.k (apart_at (graph_of l.plan) (at l.label))) × Firsts l.plan l.label l.k l.best
