-- store_check::read_field: the numbers behind the plan, by `field-there`.
use native.Mathlib.Omega.{arith}
use mathlib.Core.Path.{sym, ap, ◌∙◌}
use mathlib.Core.List.{map}
use lib.Seq.{length-take-le}
use Rattle.field.specs.declared.Field.{Field}
use Rattle.store_field.specs.Parts.{cut_mark}
use Rattle.store_check.proofs.Parts.{seen-accepted, numbers-inside, numbers-length, field-there}
use Rattle.store_check.proofs.read_field.Goals as goal

pub numbers_size-n-requires : goal.numbers_size-n-requires
numbers_size-n-requires c = seen-accepted c.requires.0.read

pub slice_bounds-numbers-end : goal.slice_bounds-numbers-end
slice_bounds-numbers-end c = sym (length-take-le _ _ (numbers-inside c.args.r.now c.args.plan.now c.requires.0 c.numbers_size-n.result c.numbers_size-n.ensures c.behind_plan-behind.result.now c.behind_plan-behind.ensures))

pub take_field-requires : goal.take_field-requires
take_field-requires c =
    (seen-accepted c.requires.0.read, numbers-length c.args.r.now c.args.plan.now c.requires.0 c.numbers_size-n.result c.numbers_size-n.ensures c.behind_plan-behind.result.now c.behind_plan-behind.ensures, c.lay_cells.ensures, c.requires.2)

pub at-requires : goal.at-requires
at-requires c = omega (arith, numbers-length c.args.r.now c.args.plan.now c.requires.0 c.numbers_size-n.result c.numbers_size-n.ensures c.behind_plan-behind.result.now c.behind_plan-behind.ensures)

pub returns : goal.returns
returns c =
    let e = field-there c.args.r.now c.args.plan.now c.requires.0 c.numbers_size-n.result c.numbers_size-n.ensures c.behind_plan-behind.result.now c.behind_plan-behind.ensures in (
      c.take_field.ensures.0 ∙ ap (λ (f : Field). f.cells) e,
      c.take_field.ensures.1 ∙ ap (λ (f : Field). map cut_mark f.marks) e,
      c.at.ensures ∙ ap (λ (f : Field). f.sent) e,
    )
