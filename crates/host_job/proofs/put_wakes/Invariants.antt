-- host_job::put_wakes: a loop; the wakes among the modules below v are written, by `low_off` and `low-next`.
use Rattle.std.proofs.Common.{◌≡◌, ◌+◌, length}
use Rattle.std.proofs.lemmas.List.Edits.{sets}
use Rattle.plan.specs.Links.{graph_of}
use Rattle.host_job.proofs.Lemmas.{low_wakes}
use Rattle.host_job.proofs.put_wakes.Given as goal

abbrev pub invariant-loop-v : goal.invariant-loop-v
invariant-loop-v l = record {
  behind : l.at ≡ 3 + length (low_wakes (graph_of l.p) l.v);
  written : l.out ≡ sets l.initial.out 3 (low_wakes (graph_of l.p) l.v);
}
