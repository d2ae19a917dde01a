-- store_field::put_head: three stores and the name behind them (`head-run`).
use native.Mathlib.Omega.{arith}
use mathlib.Core.Path.{◌∙◌}
use lib.ListN.{length-set}
use Rattle.store_field.proofs.Record.{head-run}
use Rattle.store_field.proofs.put_head.Goals as goal

pub put32-requires : goal.put32-requires
put32-requires c = simp length-set (omega arith)

pub bounds-out-5 : goal.bounds-out-5
bounds-out-5 c = omega (arith, c.put32.auto.s, length-set c.args.out.now 0 1)

pub put_name-requires : goal.put_name-requires
put_name-requires c = simp length-set (omega (arith, c.put32.auto.s, length-set c.args.out.now 0 1))

pub shape_of-out : goal.shape_of-out
shape_of-out c =
    c.put_name.auto.out ∙ length-set c.put32.new.s 5 _ ∙ c.put32.auto.s ∙ length-set c.args.out.now 0 1

pub returns : goal.returns
returns c =
    let a = c.args in
    head-run a.out.now a.name.now a.follow c.put32.ensures c.put_name.ensures
