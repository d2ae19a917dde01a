use Rattle.std.proofs.Common.{◌∙◌}
use Rattle.field.specs.State.{cell_of}
use Rattle.store_field.specs.Ends.{entry}
use Rattle.store_field.proofs.Runs.{value-start, value_on}
use Rattle.store_field.proofs.put_values.Goals as goal

pub loop-j-init : goal.loop-j-init
loop-j-init c = value-start _ _ _

pub loop-j-preserved : goal.loop-j-preserved
loop-j-preserved c =
    let a = c.args in
    c.put.ensures ∙ value_on (λ i. entry a.cells.now (cell_of a.v i)) a.out.now c.loop-j.out a.q c.loop-j.j c.loop-j.invariant
