-- store_field::take_cells: a loop; the first i cells are read, by `fill-turn`, in the end those of all modules.
use Rattle.std.proofs.Common.{◌≡◌}
use Rattle.base.specs.Table.{tabulate, upto}
use Rattle.field.specs.State.{CELLS}
use Rattle.store.specs.Reading.{number_in}
use Rattle.store_field.specs.Ends.{cell_number, entry}
use Rattle.store_field.proofs.take_cells.Given as goal

abbrev pub invariant-loop-i : goal.invariant-loop-i
invariant-loop-i l = l.cells ≡ tabulate CELLS (upto l.i (λ k. number_in l.numbers (cell_number l.plan k)) (entry l.initial.cells))
