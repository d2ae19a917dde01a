-- cue_check::branches_agree: the part of the local bytes that is lent has L of them.
use native.Mathlib.Omega.{arith}
use mathlib.Core.Path.{sym, ◌∙◌}
use lib.Seq.{length-take-le}
use Rattle.plan.proofs.laws.Accepted.{accepted}
use Rattle.cue_check.proofs.branches_agree.Goals as goal

pub slice_bounds-bytes-end : goal.slice_bounds-bytes-end
slice_bounds-bytes-end c = omega (arith, c.links-links.ensures, (accepted c.args.plan.now c.requires).links_ok)

pub slice_bounds-agrees-end : goal.slice_bounds-agrees-end
slice_bounds-agrees-end c = sym (length-take-le _ _ (slice_bounds-bytes-end c.before))

pub agrees-requires : goal.agrees-requires
agrees-requires c = (c.requires, length-take-le _ _ (slice_bounds-bytes-end c.before) ∙ c.links-links.ensures)
