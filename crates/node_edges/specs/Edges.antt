-- One node's edges as the rules take them (`as_own`), and their marks (`as_marks`).
use Rattle.std.specs.Prelude.{ℕ}
use Rattle.field.specs.Edges.{own_of, marks_in}
use Rattle.node.specs.Work.{Own}
use Rattle.node_edges.specs.declared.Edges.{Edges}

abbrev pub as_own : Edges → Own
as_own e = own_of e.plan.now e.v

abbrev pub as_marks : Edges → ℕ → ℕ
as_marks e = marks_in e.plan.now e.marks.now e.v
