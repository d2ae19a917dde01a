-- A field in lent memory: what restoring leaves there.
use Rattle.std.specs.Prelude.{ℕ, List}
use Rattle.base.specs.Loop.{After}
use Rattle.field.specs.Held.{Held}
use Rattle.store.specs.Calls.{restore_point}
use Rattle.library_field.specs.Lent.{made_into}

abbrev pub restore_into : List ℕ → List ℕ → Held → After Held
restore_into name s h = made_into (restore_point name s h.words) h
