use Rattle.std.proofs.Common.{◌≡◌, ap, ap₂, ◌∙◌, arith, List, ℕ}
use Rattle.field.specs.State.{CELLS, put_node}
use Rattle.base.specs.Limits.{max_modules}
use Rattle.field.specs.Held.{fresh_cells}
use Rattle.node.specs.declared.Node.{Node}
use Rattle.field_cells.proofs.Fresh.{laid_none, laid_more, laid-all}
use Rattle.field_cells.proofs.lay_cells.Goals as goal

pub loop-v-init : goal.loop-v-init
loop-v-init c = c.requires ∙ laid_none CELLS

pub loop-v-preserved : goal.loop-v-preserved
loop-v-preserved c =
    c.put_node.ensures ∙ ap₂ (λ (l : List ℕ) (n : Node). put_node l c.loop-v.v n) c.loop-v.invariant c.fresh_node-n.ensures ∙ laid_more CELLS c.loop-v.v (omega arith)

pub returns : goal.returns
returns c =
    let e : c.loop-v.v ≡ max_modules = omega arith in
    c.loop-v.invariant ∙ laid-all CELLS c.loop-v.v (omega arith) ∙ ap fresh_cells e
