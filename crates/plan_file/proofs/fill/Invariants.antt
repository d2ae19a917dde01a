-- plan_file::fill: the first i numbers are read and zeros lie past them (`one-read`), in the end all (`all_read`).
use Rattle.std.proofs.Common.{◌≡◌}
use Rattle.std.specs.Prelude.{suc}
use Rattle.plan_file.specs.Layout.{number_at}
use Rattle.plan.proofs.laws.Trimmed.{read_to}
use Rattle.plan_file.proofs.fill.Given as goal

abbrev pub invariant-loop-i : goal.invariant-loop-i
invariant-loop-i l = l.plan ≡ read_to (λ j. number_at l.s (suc j)) l.i
