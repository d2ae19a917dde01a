-- store_check::take_plan: by `plan-held`.
use Rattle.store_check.proofs.Parts.{plan-held}
use Rattle.store_check.proofs.take_plan.Goals as goal

pub returns : goal.returns
returns c = plan-held c.args.r.now c.read_plan.ensures c.requires.0
