-- store_field::count_ends: a loop; the ends below d are counted (`starts-on`), in the end all.
use Rattle.std.proofs.Common.{◌≡◌}
use Rattle.base.specs.Limits.{max_modules}
use Rattle.base.specs.Table.{tabulate}
use Rattle.store_field.specs.Ends.{ends_below}
use Rattle.store_field.proofs.count_ends.Given as goal

abbrev pub invariant-loop-d : goal.invariant-loop-d
invariant-loop-d l = l.starts ≡ tabulate max_modules (λ v. ends_below l.plan v l.d)
