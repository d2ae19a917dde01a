-- host_setup::fresh_field: `unmarked` of the trimmed plan and of the cells that `lay_cells` leaves, as the definition has it.
use Prim.Native.Nat.{ℕ}
use mathlib.Core.List.{List}
use mathlib.Core.Path.{ap₂, ◌∙◌}
use Rattle.field.specs.Held.{unmarked}
use Rattle.host_setup.proofs.fresh_field.Goals as goal

pub returns : goal.returns
returns c = c.unmarked.ensures ∙ ap₂ (λ (p l : List ℕ). unmarked p l) c.trimmed.ensures c.lay_cells.ensures
