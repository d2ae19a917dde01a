-- text_report::total: a loop; the branches' cost among the first k links, by `total-branch` and `total-other`, within 64 bits.
use Rattle.std.proofs.Common.{◌≡◌, ◌≤◌, ◌*◌}
use Rattle.text_report.specs.Total.{total}
use Rattle.text_report.proofs.total.Given as goal

abbrev pub invariant-loop-k : goal.invariant-loop-k
invariant-loop-k l = record {
  bounded : l.sum ≤ 4294967295 * l.k;
  summed : l.sum ≡ total l.plan l.marks l.k;
}
