use Rattle.std.proofs.Common.{arith, rules}
use Rattle.text_report.specs.Total.{total}
use Rattle.text_report.proofs.laws.Total.{total-branch, total-other}
use Rattle.text_report.proofs.total.Goals as goal

pub loop-k-init : goal.loop-k-init
unfolding total
loop-k-init c = search rules

pub loop-k-preserved : goal.loop-k-preserved
loop-k-preserved c = record {
  bounded = grind arith;
  summed = grind (arith, total-branch, total-other);
}
