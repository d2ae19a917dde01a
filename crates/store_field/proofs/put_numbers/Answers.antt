-- store_field::put_numbers: the count, then the modules behind it (`numbers-run`).
use Rattle.store_field.proofs.Runs.{numbers-run}
use Rattle.store_field.proofs.put_numbers.Goals as goal

pub returns : goal.returns
returns c =
    let a = c.args in
    (numbers-run a.plan.now a.cells.now a.marks.now a.sent a.out.now c.put.ensures c.put_modules.ensures.0, c.put_modules.ensures.1)
