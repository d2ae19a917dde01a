-- library_plan::muruapy_plan_read: by `plan-read-into` where the bytes were taken, else by `plan-alters-nothing`.
use Rattle.std.proofs.Common.{arith}
use Rattle.refusal.proofs.laws.Number.{positive}
use Rattle.library_plan.proofs.laws.Lent.{plan-read-into, plan-alters-nothing}
use Rattle.library_plan.proofs.muruapy_plan_read.Goals as goal

pub returns-in-Ok : goal.returns-in-Ok
returns-in-Ok c = grind (arith, plan-read-into)

pub returns-in-Err : goal.returns-in-Err
returns-in-Err c = grind (arith, plan-alters-nothing, positive)
