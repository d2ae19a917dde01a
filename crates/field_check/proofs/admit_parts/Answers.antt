-- field_check::admit_parts: the answer is that of `check`; a field that passes is `Ready`, by `ready`, with the lengths that its arrays show as slices.
use Rattle.std.proofs.Common.{rules}
use Rattle.field.specs.declared.Field.{Field}
use Rattle.field_check.proofs.Ready.{Full, ready-if}
use Rattle.field_check.proofs.admit_parts.Goals as goal

pub returns-clause-ready : goal.returns-clause-ready
returns-clause-ready c =
    let a = c.args in
    let f : Field = record { plan = a.plan.now; cells = a.cells.now; marks = a.marks.now; sent = a.sent } in
    let full : Full f = record { plan = search rules; cells = search rules; marks = search rules } in
    ready-if f a.lent.now full c.check.result c.check.ensures
