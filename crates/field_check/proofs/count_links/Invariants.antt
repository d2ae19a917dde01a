-- field_check::count_links: after k links each module's count is of its own links among them, by `degrees-on`; it fits 16 bits by `degrees-small`.
use Rattle.std.proofs.Common.{◌≡◌, length}
use Rattle.base.specs.Limits.{max_modules}
use Rattle.field_check.proofs.Degrees.{Degrees}
use Rattle.field_check.proofs.count_links.Given as goal

abbrev pub invariant-loop-k : goal.invariant-loop-k
invariant-loop-k l = (length l.degrees ≡ max_modules) × Degrees l.plan l.k l.degrees
