-- path_search::pass: the first branches are done (`PassTo`), one more by `pass-or`, all of them by `passed`.
use Rattle.path_search.proofs.laws.Passes.{PassTo}
use Rattle.path_search.proofs.pass.Given as goal

abbrev pub invariant-loop-k : goal.invariant-loop-k
invariant-loop-k l = PassTo l.plan l.list l.h l.k-index l.initial.hops l.initial.by l.hops l.by l.any
