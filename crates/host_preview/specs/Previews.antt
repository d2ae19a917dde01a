-- What was decided of a step of module v, told as a preview.
use Rattle.std.specs.Prelude.{ℕ, ◌≡◌, List, length}
use Rattle.plan.specs.Links.{Plan}
use Rattle.field.specs.State.{posted}
use Rattle.field.specs.Held.{Held, step_alone, held_from}
use Rattle.field_place.specs.Posted.{sends_by}
use Rattle.field_verdict.specs.Verdict.{Verdict, Feasible}
use Rattle.preview.specs.declared.Previewed.{Previewed}
use Rattle.preview.specs.Preview.{would_send, preview}

-- the messages of the response that d holds can be written, where some words wait
pub record Showable (p : Plan) (marks : List ℕ) (v : ℕ) (d : Verdict) : Type 0 where
  pub count : d.sends ≡ length (sends_by p marks v d.word d.response)
  pub waiting : ℕ
  pub feasible : Feasible v waiting d.at d.word d.response

-- d is the verdict of the step of this kind: how it would be answered, and what it would send
pub record VerdictOf (kind v : ℕ) (h : Held) (d : Verdict) : Type 0 where
  pub refusal : (step_alone kind v h).refusal ≡ d.refusal
  pub words : d.refusal ≡ 0 → would_send kind v h ≡ posted h.field.plan v (sends_by h.field.plan h.field.marks v d.word d.response)

-- what is answered and left in the buffer is the preview of each step that d is the verdict of
pub record Previews (p : Plan) (marks : List ℕ) (v : ℕ) (d : Verdict) (before : List ℕ) (r : Previewed) (after : List ℕ) : Type 0 where
  pub is : (kind : ℕ) (cells : List ℕ) (sent : ℕ) (words : List ℕ) → let h = held_from p cells marks sent words in
      VerdictOf kind v h d → record { answer = r; buffer = after } ≡ preview kind v h before
