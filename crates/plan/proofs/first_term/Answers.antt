-- plan::first_term: both products stay within 32 bits, by `first-term-fits`.
use Prim.Native.Nat.{ℕ, ◌*◌, ◌^◌, ◌≤◌, ◌<◌}
use native.Mathlib.Omega.{arith}
use mathlib.Core.Path.{◌≡◌}
use Rattle.base.specs.Log.{log2}
use Rattle.base.proofs.laws.Ceiling.{first-term-fits}
use Rattle.plan.proofs.first_term.Goals as goal

fits : (n t : ℕ) → n < 2 ^ 16 → t ≡ log2 n → 5 * n * t ≤ 4915125
fits n t h e = rw e (first-term-fits n h)

pub overflow_mul-result-2 : goal.overflow_mul-result-2
overflow_mul-result-2 c = omega (arith, fits c.args.n c.floor_log2.result (omega arith) c.floor_log2.ensures)

pub returns : goal.returns
returns c = rw c.floor_log2.ensures
