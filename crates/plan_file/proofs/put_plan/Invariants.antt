-- plan_file::put_plan: after version and length the stores are those of the first i numbers (`write-turn`), in the end all (`write-end`).
use Rattle.std.proofs.Common.{◌≡◌, get_or}
use Rattle.std.proofs.lemmas.List.Edits.{sets}
use Rattle.base.specs.Table.{tabulate}
use Rattle.plan_file.specs.Layout.{bytes_of}
use Rattle.plan_file.proofs.put_plan.Given as goal

abbrev pub invariant-loop-i : goal.invariant-loop-i
invariant-loop-i l = l.out ≡ sets l.initial.out 3 (bytes_of (tabulate l.i (λ j. get_or l.p j 0)))
