-- What request 02 claims, as a type: a preview told against the step itself, taken on a copy (`PreviewClaim`).
use Rattle.std.specs.Prelude.{ℕ, ◌+◌, ◌≤◌, ◌<◌, ◌≡◌, ◌≢◌, cond, List, [], ◌∷◌, ◌++◌, length, get_or, drop, eqb}
use Rattle.format_word.specs.Word.{hand_over}
use Rattle.plan.specs.Links.{Plan}
use Rattle.field.specs.State.{State}
use Rattle.field.specs.Step.{place, in_air, in_queue, without, serve_work, back_of, HAND, SERVE}
use Rattle.field.specs.Valid.{waiting_in}
use Rattle.field.specs.Held.{Held, state_of, step_alone}
use Rattle.field_calls.specs.Trail.{served_word}
use Rattle.preview.specs.Preview.{preview}

-- what waited before, without the word that the step took: a hand-over and a service take one
unfoldable pub remaining : Plan → ℕ → ℕ → State → List ℕ
remaining p kind number s =
    cond (eqb kind HAND) (without (place (in_air number) s.words) s.words)
    (cond (eqb kind SERVE) (without (place (in_queue p number) s.words) s.words) s.words)

-- the word handed over or put back, if there is one
unfoldable pub goes_last : Plan → ℕ → ℕ → State → List ℕ
goes_last p kind number s =
    cond (eqb kind HAND) (hand_over (get_or s.words (place (in_air number) s.words) 0) ∷ [])
    (cond (eqb kind SERVE) (let x = served_word p number s in back_of (serve_work p number x s) x) [])

-- the step was taken on a copy and left `after`
pub record Foretells (kind number : ℕ) (h : Held) (buffer : List ℕ) (after : Held) : Type 0 where
  pub words : List ℕ
  -- as many as the sent count grows by
  pub grows : after.field.sent ≡ h.field.sent + length words
  -- they stand behind what waited before and was not taken, and before the word handed over or put back
  pub waits : waiting_in after.words ≡ (remaining h.field.plan kind number (state_of h) ++ words) ++ goes_last h.field.plan kind number (state_of h)
  -- fewer places than messages: 75, and nothing is written
  pub short : length buffer < length words → preview kind number h buffer ≡ record { answer = record { refusal = 75; count = 0 }; buffer = buffer }
  -- else 0, that number, and just those words at the front
  pub fits : length words ≤ length buffer
      → preview kind number h buffer ≡ record { answer = record { refusal = 0; count = length words }; buffer = words ++ drop (length words) buffer }

-- "It must be equal to taking the step on a copy, refusals as well": of any field and words, however made, any step and any buffer
pub record PreviewClaim (kind number : ℕ) (h : Held) (buffer : List ℕ) : Type 0 where
  -- refused on a copy: the same number, and nothing is written
  pub refused : (step_alone kind number h).refusal ≢ 0
      → preview kind number h buffer ≡ record { answer = record { refusal = (step_alone kind number h).refusal; count = 0 }; buffer = buffer }
  pub taken : (step_alone kind number h).refusal ≡ 0 → Foretells kind number h buffer (step_alone kind number h).state
