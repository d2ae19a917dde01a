-- host_schedule::kinds: the first i kinds are listed.
use Rattle.std.proofs.Common.{ℕ, ◌≡◌, ◌<◌, true}
use Rattle.field_calls.specs.Schedule.{kind_of, kind_listed}
use Rattle.host_schedule.proofs.kinds.Given as goal

abbrev pub invariant-loop-i : goal.invariant-loop-i
invariant-loop-i l = (k : ℕ) → k < l.i → kind_listed (kind_of l.s k) ≡ true
