-- store_check::plan_bytes: by `plan-there`.
use mathlib.Core.Path.{sym}
use lib.Seq.{length-take-le}
use Rattle.store_check.proofs.Parts.{size-inside, plan-there}
use Rattle.store_check.proofs.plan_bytes.Goals as goal

pub slice_bounds-result-end : goal.slice_bounds-result-end
slice_bounds-result-end c = let b = c.body_in-body.result.now in sym (length-take-le c.plan_size-n.result b (size-inside b _ c.plan_size-n.ensures))

pub returns : goal.returns
returns c = plan-there _ _ _ c.body_in-body.ensures c.plan_size-n.ensures
