-- No refusal's number is 0: the number tells whether a call is refused.
use Rattle.std.specs.Prelude.{◌≢◌}
use Rattle.refusal.specs.declared.Refusal.{Refusal}
use Rattle.refusal.specs.Number.{numbered}
use Rattle.std.proofs.Common.{rules}

pub positive : (r : Refusal) → numbered r ≢ 0
positive r = grind rules
