-- host_path::walk: a loop; part of the path is written (`Walked`), one link more each time (`walked_on`), until the goal (`walked_all`).
use mathlib.Core.Path.{◌≡◌}
use lib.ListN.{length}
use Rattle.path.specs.Between.{tree_path}
use Rattle.host_path.proofs.Walked.{Walked}
use Rattle.host_path.proofs.walk.Given as goal

abbrev pub invariant-loop-at : goal.invariant-loop-at
invariant-loop-at l = (length l.out ≡ length l.initial.out) × Walked l.plan l.u l.v l.initial.out l.out l.worst l.at l.i

abbrev pub decreases-loop-at : goal.decreases-loop-at
decreases-loop-at l = length (tree_path l.plan l.at l.v)
