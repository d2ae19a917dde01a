-- What a call that makes a field answers and leaves: setup (14 to 18, 21), and restoring a point (76, 77, 21).
use Rattle.std.specs.Prelude.{ℕ, List, Result, Ok, Err}
use Rattle.refusal.specs.declared.Refusal.{Refusal}
use Rattle.refusal.specs.Number.{numbered}
use Rattle.base.specs.Loop.{After}
use Rattle.field.specs.declared.Field.{Field}
use Rattle.field.specs.Held.{Held, not_set_up}

-- by the refusal's number; in place of the field that there is not, one of zeros
abbrev pub field_made : Result Field Refusal → List ℕ → After Held
field_made (Ok f) words = record { refusal = 0; state = record { field = f; words = words } }
field_made (Err r) words = not_set_up (numbered r) words
