-- store_check::behind_plan: by `behind-there`.
use Rattle.store_check.proofs.Parts.{size-inside, behind-there}
use Rattle.store_check.proofs.behind_plan.Goals as goal

pub slice_bounds-result-count : goal.slice_bounds-result-count
slice_bounds-result-count c = size-inside c.body_in-body.result.now _ c.plan_size-n.ensures

pub slice_bounds-result-start : goal.slice_bounds-result-start
slice_bounds-result-start c = size-inside c.body_in-body.result.now _ c.plan_size-n.ensures

pub returns : goal.returns
returns c = behind-there _ _ _ c.body_in-body.ensures c.plan_size-n.ensures
