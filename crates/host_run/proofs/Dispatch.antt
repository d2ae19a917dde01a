-- The steps of a schedule, read from its bytes (`read_step`).
use Prim.Native.Nat.{ℕ}
use mathlib.Core.Path.{◌≡◌, ap, ◌∙◌}
use mathlib.Core.List.{List}
use Rattle.field.specs.declared.Field.{Field}
use Rattle.field.specs.Step.{step}
use Rattle.field_calls.specs.Schedule.{kind_of, number_of, step_at}
use Rattle.field_words.specs.Hands.{lent_state}
use Rattle.field_serve.specs.Lent.{Moves}
use Rattle.field_serve.proofs.Turns.{moves-as}

-- the step that was read from the bytes is the schedule's
pub read_step : (bytes : List ℕ) (k : ℕ) {kind number : ℕ} {f f' : Field} {lent lent' : List ℕ} {n n' refusal : ℕ}
    → Moves (λ p. step p kind number) f lent n refusal f' lent' n' → kind ≡ kind_of bytes k → number ≡ number_of bytes k
    → Moves (λ p. step_at p bytes k) f lent n refusal f' lent' n'
read_step bytes k {kind} {number} {f} {lent = l} {n} x ek en =
    let s = lent_state f.cells f.marks l n f.sent in
    moves-as x (ap (λ (y : ℕ). step f.plan y number s) ek ∙ ap (λ (y : ℕ). step f.plan (kind_of bytes k) y s) en)
