-- The schedule reader: what stands at a place of a schedule's bytes, and what a reader is.
use Rattle.std.specs.Prelude.{ℕ, ◌+◌, ◌-◌, cond, List, eqb}
use Rattle.std.specs.Borrow.{Bor}
use Rattle.field_calls.specs.declared.Step.{Step}
use Rattle.field_calls.specs.Schedule.{steps_in, step_of}
use Rattle.host_reader.specs.declared.Schedule.{Schedule}

-- how many steps stand from a place on
abbrev pub left_from : List ℕ → ℕ → ℕ
left_from bytes at = steps_in bytes - at

-- the step at a place; past the last step kind 0 and number 0, which is no step
abbrev pub step_from : List ℕ → ℕ → Step
step_from bytes at = cond (eqb (left_from bytes at) 0) (record { kind = 0; number = 0 }) (step_of bytes at)

-- the place after a place: past the last step it stays
abbrev pub place_after : List ℕ → ℕ → ℕ
place_after bytes at = cond (eqb (left_from bytes at) 0) at (at + 1)

-- "The schedule reader keeps the lent bytes and its place in them."
abbrev pub opened : Bor (List ℕ) → Schedule
opened bytes = record { bytes = bytes; at = 0 }

-- how many steps it has not read
abbrev pub left_of : Schedule → ℕ
left_of s = left_from s.bytes.now s.at

-- a step read: the step, and the reader after it
pub record Read : Type 0 where
  pub step : Step
  pub reader : Schedule

abbrev pub read_of : Schedule → Read
read_of s = record { step = step_from s.bytes.now s.at; reader = record { bytes = s.bytes; at = place_after s.bytes.now s.at } }
