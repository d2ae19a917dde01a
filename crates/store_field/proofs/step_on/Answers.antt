-- store_field::step_on: the entry of the link's module is read, and written one larger.
use Prim.Native.Nat.{ℕ, ◌+◌}
use native.Mathlib.Omega.{arith}
use mathlib.Core.Path.{ap}
use lib.ListN.{set}
use Rattle.store_field.specs.Ends.{entry}
use Rattle.store_field.proofs.step_on.Goals as goal

pub overflow_add-starts : goal.overflow_add-starts
overflow_add-starts c =
    record { fits = omega (arith, c.requires.3, ap (entry c.args.starts.now) c.end_module-v.ensures.0) }

pub returns : goal.returns
returns c =
    let t = c.args.starts.now in
    let e = c.end_module-v.ensures.0 in
    (ap (λ (v : ℕ). set t v (entry t v + 1)) e, ap (entry t) e)
