-- field_search::many_in_queue: a loop; m of the words before w pass (`Counted`), by `counted-one` and `counted-on`.
use Rattle.field.specs.Step.{in_queue}
use Rattle.field_search.proofs.Search.{Counted}
use Rattle.field_search.proofs.many_in_queue.Given as goal

abbrev pub invariant-loop-w : goal.invariant-loop-w
invariant-loop-w l = Counted (in_queue l.plan l.v) l.words l.m l.w-index
