-- store_field::put_values: a loop; the first j values are written (`value_on`), in the end all.
use Rattle.std.proofs.Common.{◌≡◌, ◌*◌}
use Rattle.std.proofs.lemmas.List.Edits.{sets}
use Rattle.base.specs.Table.{tabulate}
use Rattle.plan_file.specs.Layout.{bytes_of}
use Rattle.field.specs.State.{cell_of}
use Rattle.store_field.specs.Ends.{entry}
use Rattle.store_field.proofs.put_values.Given as goal

abbrev pub invariant-loop-j : goal.invariant-loop-j
invariant-loop-j l = l.out ≡ sets l.initial.out (2 * l.q) (bytes_of (tabulate l.j (λ i. entry l.cells (cell_of l.v i))))
