-- field_cells::lay_cells: the first v modules are laid, by `laid_more`, in the end all, by `laid-all`.
use Rattle.std.proofs.Common.{◌≡◌}
use Rattle.field.specs.State.{CELLS}
use Rattle.field_cells.proofs.Fresh.{laid_cells}
use Rattle.field_cells.proofs.lay_cells.Given as goal

abbrev pub invariant-loop-v : goal.invariant-loop-v
invariant-loop-v l = l.cells ≡ laid_cells CELLS l.v
