use Rattle.std.proofs.Common.{arith}
use Rattle.refusal.proofs.laws.Number.{positive}
use Rattle.plan_check.proofs.Verdict.{links-stop, links-go, links-over}
use Rattle.plan_check.proofs.links_check.Goals as goal

pub returns-in_err-link_check : goal.returns-in_err-link_check
returns-in_err-link_check c = grind (arith, links-stop, positive)

pub loop-k-preserved : goal.loop-k-preserved
loop-k-preserved c = grind (arith, links-go)

pub returns : goal.returns
returns c = grind (arith, links-over)
