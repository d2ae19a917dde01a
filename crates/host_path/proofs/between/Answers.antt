-- host_path::between: one law for each refusal.
use Rattle.std.proofs.Common.{arith}
use Rattle.refusal.proofs.laws.Number.{positive}
use Rattle.path.proofs.laws.Outcomes.{path-refused-plan, path-refused-from, path-refused-to}
use Rattle.host_path.proofs.between.Goals as goal

pub returns-in_err-check : goal.returns-in_err-check
returns-in_err-check c = grind (arith, path-refused-plan, positive)

pub returns-then-n-from : goal.returns-then-n-from
returns-then-n-from c = grind (arith, path-refused-from, path-refused-to)
