use Rattle.std.proofs.Common.{◌+◌, get_or, get_or-set_other, length-set, arith}
use Rattle.node.specs.Work.{number}
use Rattle.field_check.proofs.Degrees.{ends, degrees-small, degrees-on}
use Rattle.field_check.proofs.count_links.Goals as goal

pub loop-k-init : goal.loop-k-init
unfolding number
loop-k-init c = (c.requires.1, λ v h. c.requires.2 v h)

pub overflow_add-degrees : goal.overflow_add-degrees
overflow_add-degrees c =
    let b = ends c.args.plan.now c.requires.0 c.loop-k.k _ _ (omega arith) c.lower-a.ensures c.higher-b.ensures in
    omega (arith, degrees-small c.args.plan.now c.loop-k.k c.loop-k.degrees c.loop-k.invariant.1 c.lower-a.result (omega arith))

pub overflow_add-degrees-in-loop-k : goal.overflow_add-degrees-in-loop-k
overflow_add-degrees-in-loop-k c =
    let b = ends c.args.plan.now c.requires.0 c.loop-k.k _ _ (omega arith) c.lower-a.ensures c.higher-b.ensures in
    let degrees = c.loop-k.degrees in
    omega (
      arith,
      get_or-set_other degrees c.lower-a.result c.higher-b.result (get_or degrees c.lower-a.result 0 + 1) 0 (λ q. omega arith),
      degrees-small c.args.plan.now c.loop-k.k degrees c.loop-k.invariant.1 c.higher-b.result (omega arith),
    )

pub loop-k-preserved : goal.loop-k-preserved
loop-k-preserved c =
    let b = ends c.args.plan.now c.requires.0 c.loop-k.k _ _ (omega arith) c.lower-a.ensures c.higher-b.ensures in (
      simp length-set c.loop-k.invariant.0,
      degrees-on c.args.plan.now c.loop-k.k (omega arith) c.lower-a.result c.higher-b.result c.lower-a.ensures c.higher-b.ensures c.loop-k.degrees
          c.loop-k.invariant.0 b.0 b.1 c.loop-k.invariant.1,
    )
