-- host_rounds::queue::serve_turn: so many services are done (`Turned`), one more by `turn_on`; all are the definition's turn, by `serve-turn`.
use mathlib.Core.Path.{◌≡◌}
use Rattle.field.specs.Step.{serve}
use Rattle.field_serve.specs.Lent.{standing}
use Rattle.field_serve.proofs.Turns.{Turned}
use Rattle.host_rounds.proofs.queue.serve_turn.Given as goal

abbrev pub invariant-loop : goal.invariant-loop
invariant-loop l =
    Turned (λ p i. serve p l.v) l.initial.f.plan l.initial.f.cells l.initial.f.marks l.initial.lent (standing l.initial.n l.initial.f) l.counter (standing l.n l.f) l.f.cells l.f.marks l.lent
    × (l.f.plan ≡ l.initial.f.plan)
