-- What the check of a field answers.
use Rattle.std.specs.Prelude.{ℕ, ◌≡◌, List, Result, Ok, Err, cond, length}
use Rattle.refusal.specs.declared.Refusal.{Refusal}
use Rattle.refusal.specs.declared.Refusal.TheVariants as R
use Rattle.field_check.specs.declared.NoField.{NoField}
use Rattle.field.specs.State.{State}
use Rattle.field.specs.Valid.{waiting_in}
use Rattle.field.specs.Held.{Held, valid}

-- how many words wait, also where it is no field
abbrev pub check_of : Held → Result ℕ NoField
check_of h = cond (valid h) (Ok (length (waiting_in h.words))) (Err (record { waiting = length (waiting_in h.words) }))

-- how many words wait, as an answer tells it
abbrev pub waiting_told : Result ℕ NoField → ℕ
waiting_told (Ok n) = n
waiting_told (Err x) = x.waiting

-- what is no field is refused by 31
abbrev pub Is31 : Refusal → Type 0
Is31 r = r ≡ R.Field

-- the state of a field in lent arrays
abbrev pub state_in : List ℕ → List ℕ → List ℕ → ℕ → State
state_in cells marks words sent = record { cells = cells; marks = marks; words = words; sent = sent }
