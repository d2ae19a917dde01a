-- store_check::read_plan: the plan's bytes, by `plan_bytes`.
use Rattle.store_check.proofs.read_plan.Goals as goal

pub returns : goal.returns
returns c = rw (← c.plan_bytes.ensures) c.load.ensures
