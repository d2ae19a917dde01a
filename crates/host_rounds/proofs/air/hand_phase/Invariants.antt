-- host_rounds::air::hand_phase: d links had their turn (`Handed`), one more by `handed-on`; all are the definition's phase, by `hand-phase`.
use Rattle.field_calls.specs.Rounds.{hand_turn}
use Rattle.field_words.proofs.Hands.{Handed}
use Rattle.host_rounds.proofs.air.hand_phase.Given as goal

abbrev pub invariant-loop-d : goal.invariant-loop-d
invariant-loop-d l = Handed (hand_turn l.plan) l.n l.initial.lent l.d l.lent
