-- host_run::steps::steps: k steps are done (`Going`), one more by `goes-on`. It ends by `goes-off`, or all are done.
use mathlib.Core.Path.{◌≡◌}
use Rattle.field_calls.specs.Schedule.{step_at, never}
use Rattle.field_serve.specs.Lent.{standing}
use Rattle.field_serve.proofs.Going.{Going}
use Rattle.host_run.proofs.steps.steps.Given as goal

abbrev pub invariant-loop-k : goal.invariant-loop-k
invariant-loop-k l =
    Going never (λ p. step_at p l.bytes) l.initial.f.plan l.initial.f.cells l.initial.f.marks l.initial.lent (standing l.initial.n l.initial.f) l.k (standing l.n l.f) l.f.cells l.f.marks l.lent
    × (l.f.plan ≡ l.initial.f.plan) × (l.done ≡ l.k)
