use Rattle.std.proofs.Common.{◌+◌, ◌*◌, ◌<◌, ap, ◌∙◌, length, arith}
use Rattle.base.specs.Limits.{max_modules}
use Rattle.base.proofs.laws.Table.{length-tabulate, get_d_tabulate}
use Rattle.plan.specs.Links.{links_of}
use Rattle.field.specs.Edges.{from}
use Rattle.field_laws.proofs.Places.{from-below}
use Rattle.store_field.specs.Ends.{ends_below, entry}
use Rattle.store_field.proofs.Starts.{none-counted, starts-on, ends_more, ends-small}
use Rattle.store_field.proofs.count_ends.Goals as goal

pub loop-d-init : goal.loop-d-init
loop-d-init c = none-counted c.args.plan.now c.args.starts.now c.requires.1

pub step_on-requires : goal.step_on-requires
step_on-requires c =
    let p = c.args.plan.now in
    let l : c.loop-d.d < 2 * links_of p = omega arith in
    let b = from-below p c.requires.0 c.loop-d.d l in
    let m : from p c.loop-d.d < max_modules = omega (arith, b, c.requires.0.modules_ok) in (
      c.requires.0,
      l,
      ap length c.loop-d.invariant ∙ length-tabulate max_modules (λ v. ends_below p v c.loop-d.d),
      omega (
        arith,
        ap (λ t. entry t (from p c.loop-d.d)) c.loop-d.invariant,
        get_d_tabulate max_modules (λ v. ends_below p v c.loop-d.d) (from p c.loop-d.d) m,
        ends-small p (from p c.loop-d.d) c.loop-d.d,
        c.requires.0.links_ok,
      ),
    )

pub loop-d-preserved : goal.loop-d-preserved
loop-d-preserved c =
    let p = c.args.plan.now in
    let l : c.loop-d.d < 2 * links_of p = omega arith in
    let b : from p c.loop-d.d < max_modules = omega (arith, from-below p c.requires.0 c.loop-d.d l, c.requires.0.modules_ok) in
    starts-on (from p c.loop-d.d) (λ v. ends_below p v c.loop-d.d) (λ v. ends_below p v (c.loop-d.d + 1)) c.loop-d.starts b c.loop-d.invariant
    (λ v. ends_more p v c.loop-d.d) c.step_on.ensures.0
