-- store_field::take_field: what is read by number is what is poured into setup's cells and marks (`cells-taken`, `marks-taken`).
use Prim.Native.Nat.{ℕ}
use mathlib.Core.Path.{ap, ◌∙◌}
use lib.ListN.{length, length-replicate}
use Rattle.base.specs.Limits.{max_modules, max_ends}
use Rattle.field.proofs.laws.Held.{fresh-length}
use Rattle.store_field.proofs.Taken.{cells-taken, marks-taken}
use Rattle.store_field.proofs.take_field.Goals as goal

pub take_cells-requires : goal.take_cells-requires
take_cells-requires c =
    (c.requires.0, c.requires.1, c.lay_starts.ensures, ap length c.requires.2 ∙ fresh-length max_modules)

pub take_marks-requires : goal.take_marks-requires
take_marks-requires c =
    (c.requires.0, c.requires.1, c.lay_starts.ensures, ap length c.requires.3 ∙ length-replicate {A = ℕ} max_ends 0)

pub returns : goal.returns
returns c =
    let a = c.args in (
      cells-taken a.plan.now c.requires.0 a.numbers.now a.cells.now c.requires.2 c.take_cells.ensures,
      marks-taken a.plan.now c.requires.0 a.numbers.now a.marks.now c.requires.3 c.take_marks.ensures,
    )
