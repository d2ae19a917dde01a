-- field_place::post_copies: a loop; the copies of the first k links are written.
use Rattle.field.specs.State.{posted}
use Rattle.field_place.specs.Posted.{Posted, copies_to}
use Rattle.field_place.proofs.post_copies.Given as goal

abbrev pub invariant-loop-k : goal.invariant-loop-k
invariant-loop-k l = Posted l.initial.lent l.lent l.n l.m (posted l.edges.plan.now l.edges.v (copies_to l.edges.plan.now l.edges.marks.now l.edges.v l.x l.k))
