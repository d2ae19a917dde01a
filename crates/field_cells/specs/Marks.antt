-- One mark of one module, written.
use Rattle.std.specs.Prelude.{ℕ, cond, List, Option, Some, None, set}
use Rattle.plan.specs.Links.{Plan}
use Rattle.field.specs.Edges.{is_own, end_of}
use Rattle.node_edges.specs.declared.NewMark.{NewMark}

-- a change of one of v's marks, if there is one; nothing is changed where it is of no link of v
unfoldable pub mark_put : Plan → List ℕ → ℕ → Option NewMark → List ℕ
mark_put p marks v None = marks
mark_put p marks v (Some c) = cond (is_own p v c.edge) (set marks (end_of p v c.edge) c.mark) marks
