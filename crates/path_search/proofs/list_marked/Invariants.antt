-- path_search::list_marked: the marks of the first k bytes are listed.
use Rattle.std.proofs.Common.{◌≤◌}
use Rattle.path_search.specs.Spread.{ListsTree}
use Rattle.path_search.proofs.list_marked.Given as goal

abbrev pub invariant-loop-k : goal.invariant-loop-k
invariant-loop-k l = (l.n ≤ l.k) × ListsTree l.tree l.k l.list l.n
