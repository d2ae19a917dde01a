-- store_field::cut_mark: from the clauses of what it calls, by the definitions.
use Rattle.std.proofs.Common.{arith}
use Rattle.std.proofs.lemmas.Bool.Decides.{nat_tests}
use Rattle.store_field.specs.Parts.{cut_mark}
use Rattle.store_field.proofs.cut_mark.Goals as goal

pub returns : goal.returns
unfolding cut_mark
returns c = grind (arith, nat_tests)
