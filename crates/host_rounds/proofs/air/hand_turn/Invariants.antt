-- host_rounds::air::hand_turn: so many words are handed over (`Handed`), one more by `handed-on`; all are the definition's turn, by `hand-turn`.
use Rattle.field.specs.Step.{hand}
use Rattle.field_words.proofs.Hands.{Handed}
use Rattle.host_rounds.proofs.air.hand_turn.Given as goal

abbrev pub invariant-loop : goal.invariant-loop
invariant-loop l = Handed (λ i. hand l.plan l.d) l.n l.initial.lent l.counter l.lent
