-- field_words::handable: from the clauses of what it calls, by the definitions.
use Rattle.std.proofs.Common.{arith}
use Rattle.std.proofs.lemmas.Bool.Decides.{nat_tests}
use Rattle.field_words.specs.Hands.{handable}
use Rattle.field_words.proofs.handable.Goals as goal

pub returns-then-links-d : goal.returns-then-links-d
unfolding handable
returns-then-links-d c = grind (arith, nat_tests)

pub returns : goal.returns
unfolding handable
returns c = grind (arith, nat_tests)
