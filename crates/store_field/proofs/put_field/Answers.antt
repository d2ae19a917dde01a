-- store_field::put_field: the plan, then the numbers in the part behind it (`field-run`).
use native.Mathlib.Omega.{arith}
use Rattle.field.specs.Held.{field_from}
use Rattle.plan_file.proofs.laws.Lengths.{length-encode}
use Rattle.store_field.proofs.laws.Sizes.{field-bytes}
use Rattle.store_field.proofs.Record.{field-run}
use Rattle.store_field.proofs.put_field.Goals as goal

pub returns : goal.returns
returns c =
    let a = c.args in (
      field-run a.plan.now a.cells.now a.marks.now a.sent a.out.now _ (omega (arith, c.requires.2, c.links.ensures)) (omega (arith, length-encode a.plan.now, c.links.ensures))
          c.put_plan.ensures c.put_numbers-n.ensures.0,
      omega (arith, c.put_numbers-n.ensures.1, c.links.ensures, field-bytes (field_from a.plan.now a.cells.now a.marks.now a.sent)),
    )
