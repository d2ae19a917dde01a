-- path_search::spread_to: level h, as `begin` and `pass` ensure, until u is known, nobody of the part is further (`nobody-further`) or no path is longer.
-- Then u is within the level, if it is in the part, by `known-to`.
use Rattle.path_search.specs.Spread.{Level}
use Rattle.path_search.proofs.spread_to.Given as goal

abbrev pub invariant-loop-h : goal.invariant-loop-h
invariant-loop-h l = Level l.plan l.v l.h l.hops l.by
