-- plan::ceiling: the sum stays within 32 bits, by `first-term-fits`.
use native.Mathlib.Omega.{arith}
use Rattle.base.proofs.laws.Ceiling.{first-term-fits}
use Rattle.plan.proofs.ceiling.Goals as goal

pub overflow_add-result : goal.overflow_add-result
overflow_add-result c = omega (arith, c.first_term.ensures, first-term-fits c.args.n (omega arith))

pub returns : goal.returns
returns c = rw c.first_term.ensures
