-- The calls that a host makes on a field, and lists of them.
use Rattle.std.specs.Prelude.{ℕ, cond, not, List, [], ◌∷◌, eqb}
use Rattle.base.specs.Loop.{Ran, counted_turn}
use Rattle.field.specs.State.{State}
use Rattle.field.specs.Held.{Held, state_of, held_of, valid, step_alone}
use Rattle.field_calls.specs.Schedule.{schedule_refusal, schedule_run}
use Rattle.field_calls.specs.Rounds.{rounds_run}

-- "A call there is a step given alone, a run of a schedule or a run of rounds, with any kind, number, bytes or limit."
pub data Call : Type 0 where
  -- kind, number
  one : ℕ → ℕ → Call
  -- bytes
  run : List ℕ → Call
  -- limit
  rounds : ℕ → Call

-- a call that is refused whole
abbrev pub refused_run : ℕ → Held → Ran Held
refused_run number h = record { done = 0; refusal = number; state = h }

-- a run's end, with the words laid out again
abbrev pub laid_back : Held → Ran State → Ran Held
laid_back h r = record { done = r.done; refusal = r.refusal; state = held_of h r.state }

-- a run of a schedule: 31, then 51 to 54, then the steps
unfoldable pub run_bytes : List ℕ → Held → Ran Held
run_bytes bytes h =
    cond (not (valid h)) (refused_run 31 h)
    (cond (not (eqb (schedule_refusal bytes) 0)) (refused_run (schedule_refusal bytes) h)
    (laid_back h (schedule_run h.field.plan bytes (state_of h))))

-- a run of rounds: 31, then the rounds
unfoldable pub run_rounds : ℕ → Held → Ran Held
run_rounds limit h =
    cond (not (valid h)) (refused_run 31 h) (laid_back h (rounds_run h.field.plan limit (state_of h)))

-- what a call does (of a step alone the refusal is all that is answered)
unfoldable pub does : Call → Held → Ran Held
does (one kind number) h = counted_turn 0 (step_alone kind number h)
does (run bytes) h = run_bytes bytes h
does (rounds limit) h = run_rounds limit h

-- "Each call gets the field and words as the call before left them": what the list leaves
unfoldable pub after : List Call → Held → Held
after [] h = h
after (c ∷ cs) h = after cs (does c h).state

-- a call, and what it answered: 0 for taken or the refusal's number
pub record Answer : Type 0 where
  pub call : Call
  pub refusal : ℕ

unfoldable pub answers : List Call → Held → List Answer
answers [] h = []
answers (c ∷ cs) h = record { call = c; refusal = (does c h).refusal } ∷ answers cs (does c h).state
