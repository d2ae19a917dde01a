-- host_rounds::round::rounds: so many rounds are completed (`Going`), one more by `goes-on`. It ends by `goes-rest`, by `goes-off`, or at the limit.
use mathlib.Core.Path.{◌≡◌}
use Rattle.field_calls.specs.Rounds.{at_rest, round}
use Rattle.field_serve.specs.Lent.{standing}
use Rattle.field_serve.proofs.Going.{Going}
use Rattle.host_rounds.proofs.round.rounds.Given as goal

abbrev pub invariant-loop : goal.invariant-loop
invariant-loop l =
    Going at_rest (λ p i. round p) l.initial.f.plan l.initial.f.cells l.initial.f.marks l.initial.lent (standing l.initial.n l.initial.f) l.counter (standing l.n l.f) l.f.cells l.f.marks l.lent
    × (l.f.plan ≡ l.initial.f.plan) × (l.done ≡ l.counter)
