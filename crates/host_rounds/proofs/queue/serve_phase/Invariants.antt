-- host_rounds::queue::serve_phase: v modules had their turn (`Turned`), one more by `turn_on`; all are the definition's phase, by `serve-phase`.
use mathlib.Core.Path.{◌≡◌}
use Rattle.field_calls.specs.Rounds.{serve_turn}
use Rattle.field_serve.specs.Lent.{standing}
use Rattle.field_serve.proofs.Turns.{Turned}
use Rattle.host_rounds.proofs.queue.serve_phase.Given as goal

abbrev pub invariant-loop-v : goal.invariant-loop-v
invariant-loop-v l =
    Turned serve_turn l.initial.f.plan l.initial.f.cells l.initial.f.marks l.initial.lent (standing l.initial.n l.initial.f) l.v (standing l.n l.f) l.f.cells l.f.marks l.lent
    × (l.f.plan ≡ l.initial.f.plan)
