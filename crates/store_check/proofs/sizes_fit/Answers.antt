-- store_check::sizes_fit: a law for each return: `bad-numbers`, `bad-words`, `bad-count`; else what is asked further, by `sizes-there`.
use native.Mathlib.Omega.{arith}
use mathlib.Core.Path.{ap, ◌∙◌}
use lib.ListN.{length}
use Rattle.store_check.proofs.Parts.{seen-accepted, seen_size}
use Rattle.store_check.proofs.Outcomes.{bad-numbers, bad-words, bad-count, sizes-there}
use Rattle.store_check.proofs.sizes_fit.Goals as goal

pub numbers_size-n-requires : goal.numbers_size-n-requires
numbers_size-n-requires c = seen-accepted c.requires.0

pub returns-then-len-n : goal.returns-then-len-n
returns-then-len-n c =
    bad-numbers c.args.r.now c.numbers_size-n.result (length c.behind_plan-len.result.now) (c.numbers_size-n.ensures ∙ seen_size c.requires.0) (ap length c.behind_plan-len.ensures) c.if-len-n.true

pub returns-then-len-n-ne0 : goal.returns-then-len-n-ne0
returns-then-len-n-ne0 c =
    bad-words c.args.r.now c.numbers_size-n.result (length c.behind_plan-len.result.now) (c.numbers_size-n.ensures ∙ seen_size c.requires.0) (ap length c.behind_plan-len.ensures) c.if-len-n-ne0.true

pub returns-then-ceiling_of-len : goal.returns-then-ceiling_of-len
returns-then-ceiling_of-len c =
    bad-count c.args.r.now c.numbers_size-n.result (length c.behind_plan-len.result.now) (c.numbers_size-n.ensures ∙ seen_size c.requires.0) (ap length c.behind_plan-len.ensures)
    c.args.plan.now c.requires.0.is (omega (arith, c.ceiling_of.ensures, c.if-ceiling_of-len.true))

pub field_fits-requires : goal.field_fits-requires
field_fits-requires c = (
  sizes-there c.args.r.now c.numbers_size-n.result (length c.behind_plan-len.result.now) (c.numbers_size-n.ensures ∙ seen_size c.requires.0) (ap length c.behind_plan-len.ensures)
      c.args.plan.now c.requires.0 c.if-len-n.false c.if-len-n-ne0.false (omega (arith, c.ceiling_of.ensures, c.if-ceiling_of-len.false)),
  c.requires.1,
)

pub returns : goal.returns
returns c = c.field_fits.ensures
