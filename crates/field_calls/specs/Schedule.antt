-- Schedules: the bytes, their refusals 51 to 54, the steps as a list, a run.
use Rattle.std.specs.Prelude.{ℕ, zero, suc, ◌+◌, ◌-◌, ◌*◌, ◌/◌, ◌%◌, Bool, false, cond, not, ◌&&◌, List, [], ◌∷◌, length, get_or, eqb, ltb, leb}
use Rattle.format_int16.specs.Int16.{at16}
use Rattle.base.specs.Test.{every}
use Rattle.base.specs.Loop.{After, Ran, runs}
use Rattle.base.specs.Refuse.{or_else}
use Rattle.plan.specs.Links.{Plan}
use Rattle.field.specs.State.{State}
use Rattle.field.specs.Step.{WAKE, SERVE, step}
use Rattle.field_calls.specs.declared.Step.{Step}

-- "A schedule is version byte 1, the length of what follows, and 3 bytes a step: kind (1 wake, 2 hand over, 3 serve) and a number."
abbrev pub steps_in : List ℕ → ℕ
steps_in bytes = (length bytes - 3) / 3

abbrev pub kind_of : List ℕ → ℕ → ℕ
kind_of bytes i = get_or bytes (3 + 3 * i) 0

abbrev pub number_of : List ℕ → ℕ → ℕ
number_of bytes i = at16 bytes (4 + 3 * i)

abbrev pub length_fits : List ℕ → Bool
length_fits bytes = eqb (at16 bytes 1 + 3) (length bytes) && eqb (at16 bytes 1 % 3) 0

abbrev pub kind_listed : ℕ → Bool
kind_listed kind = leb WAKE kind && leb kind SERVE

-- the first that applies: "51 fewer than 3 bytes; 52 version; 53 length wrong or not a multiple of 3; 54 a kind not 1 to 3 (checked throughout
-- before any step ..)"
unfoldable pub schedule_refusal : List ℕ → ℕ
schedule_refusal bytes =
    or_else (ltb (length bytes) 3) 51
    (or_else (not (eqb (get_or bytes 0 0) 1)) 52
    (or_else (not (length_fits bytes)) 53
    (or_else (not (every (steps_in bytes) (λ i. kind_listed (kind_of bytes i)))) 54 0)))

-- step i of the schedule
abbrev pub step_at : Plan → List ℕ → ℕ → State → After State
step_at p bytes i s = step p (kind_of bytes i) (number_of bytes i) s

-- nothing but a refusal ends a schedule early
abbrev pub never : State → Bool
never s = false

-- "A run answers with the steps done and the refusal that ended it, or none."
abbrev pub schedule_run : Plan → List ℕ → State → Ran State
schedule_run p bytes s = runs never (steps_in bytes) (step_at p bytes) s

-- ---- the same as a list of steps

abbrev pub step_of : List ℕ → ℕ → Step
step_of bytes i = record { kind = kind_of bytes i; number = number_of bytes i }

-- n steps from step i on
unfoldable pub steps_from : List ℕ → ℕ → ℕ → List Step
steps_from bytes i zero = []
steps_from bytes i (suc n) = step_of bytes i ∷ steps_from bytes (suc i) n

-- all steps of a schedule, in order
abbrev pub schedule_steps : List ℕ → List Step
schedule_steps bytes = steps_from bytes 0 (steps_in bytes)

-- a run of a list of steps, where d were done before: each is taken in the state that the one before left, and the first that is refused ends it
unfoldable pub list_run : Plan → ℕ → List Step → State → Ran State
list_run p d [] s = record { done = d; refusal = 0; state = s }
list_run p d (x ∷ l) s =
    let a = step p x.kind x.number s in
    cond (eqb a.refusal 0) (list_run p (suc d) l a.state) (record { done = d; refusal = a.refusal; state = a.state })
