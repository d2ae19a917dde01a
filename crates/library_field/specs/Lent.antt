-- A field in lent memory: what a call that makes a field leaves there, and setup.
use Rattle.std.specs.Prelude.{ℕ, cond, eqb}
use Rattle.base.specs.Loop.{After}
use Rattle.plan.specs.Links.{Plan}
use Rattle.field.specs.declared.Field.{Field}
use Rattle.field.specs.Held.{Held, set_up}

-- A call that makes a field, where the field's memory is lent too: "a refused call alters no field", so a refusal leaves the one that lay
-- there (`set_up` hands a field of zeros back beside it).
abbrev pub kept_unless : ℕ → Field → Held → Held
kept_unless refusal old h = record { field = cond (eqb refusal 0) h.field old; words = h.words }

-- what such a call leaves, where it answers a by value
unfoldable pub made_into : After Held → Held → After Held
made_into a h = record { refusal = a.refusal; state = kept_unless a.refusal h.field a.state }

abbrev pub set_up_into : Plan → Held → After Held
set_up_into p h = made_into (set_up p h.words) h
