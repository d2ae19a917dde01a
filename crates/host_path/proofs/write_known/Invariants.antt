-- host_path::write_known: a loop; the first w bytes are written, one more each time by `front-next`.
use Rattle.std.proofs.Common.{◌≡◌, ◌++◌, drop}
use Rattle.base.specs.Table.{tabulate}
use Rattle.host_path.proofs.Known.{known_at}
use Rattle.host_path.proofs.write_known.Given as goal

abbrev pub invariant-loop-w : goal.invariant-loop-w
invariant-loop-w l = l.out ≡ tabulate l.w (known_at l.hops) ++ drop l.w l.initial.out
