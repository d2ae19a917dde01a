-- Document 02's request 02: "A preview takes a field and a step, gives the step's answer and the number of messages it would send, and writes their
-- words, in order, at the front of a lent buffer; the field and the rest of the buffer keep."
use Rattle.std.specs.Prelude.{ℕ, Result, Ok, Err, cond, not, List, ◌++◌, length, drop, eqb, ltb}
use Rattle.field.specs.Held.{Held, state_of, step_alone}
use Rattle.field_calls.specs.Trail.{step_taken, posted_at}
use Rattle.refusal.specs.declared.Refusal.{Refusal}
use Rattle.refusal.specs.Number.{numbered}
use Rattle.preview.specs.declared.Previewed.{Previewed}

-- The words of the messages that it would send, as sent: bit 40 clear. "A hand-over sends none, and a word put back is not a send; a Connect sent on
-- waking is": the sends of the response to the step, in the field's state, and no others.
unfoldable pub would_send : ℕ → ℕ → Held → List ℕ
would_send kind number h = posted_at h.field.plan (step_taken kind number (state_of h))

-- what a preview answers, in C's numbers
abbrev pub previewed_of : Result ℕ Refusal → Previewed
previewed_of (Ok count) = record { refusal = 0; count = count }
previewed_of (Err r) = record { refusal = numbered r; count = 0 }

-- what a preview answers, and the lent buffer afterwards
pub record Preview : Type 0 where
  pub answer : Previewed
  pub buffer : List ℕ

-- refused: "its number alone", and nothing is written
abbrev pub not_shown : ℕ → List ℕ → Preview
not_shown refusal buffer = record { answer = record { refusal = refusal; count = 0 }; buffer = buffer }

-- these words at the front, and the rest as it was
abbrev pub shown : List ℕ → List ℕ → Preview
shown words buffer = record { answer = record { refusal = 0; count = length words }; buffer = words ++ drop (length words) buffer }

-- "It must be equal to taking the step on a copy, refusals as well. Errors: 75 the buffer is too short for those words, after all refusals of the step."
unfoldable pub preview : ℕ → ℕ → Held → List ℕ → Preview
preview kind number h buffer =
    let refusal = (step_alone kind number h).refusal in
    let words = would_send kind number h in
    cond (not (eqb refusal 0)) (not_shown refusal buffer) (cond (ltb (length buffer) (length words)) (not_shown 75 buffer) (shown words buffer))
