-- store_field::put_module: the values, then the marks behind them (`module-run`).
use native.Mathlib.Omega.{arith}
use Rattle.store_field.proofs.Runs.{module-run, module-size}
use Rattle.store_field.proofs.put_module.Goals as goal

pub put_values-requires : goal.put_values-requires
put_values-requires c =
    (c.requires.1, omega (arith, c.requires.2, module-size c.args.plan.now c.args.v))

pub put_marks-requires : goal.put_marks-requires
put_marks-requires c =
    (c.requires.0, omega (arith, c.requires.2, c.put_values.auto.out, module-size c.args.plan.now c.args.v))

pub returns : goal.returns
returns c =
    let a = c.args in (
      module-run a.cells.now a.marks.now a.plan.now a.v a.q a.out.now c.requires.1 c.put_values.ensures c.put_marks.ensures.0,
      omega (arith, c.put_marks.ensures.1, module-size a.plan.now a.v),
    )
