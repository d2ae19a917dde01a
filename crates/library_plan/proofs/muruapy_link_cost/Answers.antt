-- library_plan::muruapy_link_cost: by `cost-no-link`, `cost-no-room` or `cost-of-link`.
use Rattle.std.proofs.Common.{arith}
use Rattle.library_plan.proofs.laws.Lent.{cost-no-link, cost-no-room, cost-of-link}
use Rattle.library_plan.proofs.muruapy_link_cost.Goals as goal

pub returns-then-links-link : goal.returns-then-links-link
returns-then-links-link c = grind (arith, cost-no-link, cost-no-room)

pub returns : goal.returns
returns c = grind (arith, cost-of-link)
