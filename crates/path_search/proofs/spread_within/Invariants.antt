-- path_search::spread_within: level h, as `begin` and `pass` ensure, at most as far as asked for; nobody of the part is further where none became known
-- (`nobody-further`).
use Rattle.path_search.specs.Spread.{Level}
use Rattle.path_search.proofs.spread_within.Given as goal

abbrev pub invariant-loop-h : goal.invariant-loop-h
invariant-loop-h l = Level l.plan l.v l.h l.hops l.by
