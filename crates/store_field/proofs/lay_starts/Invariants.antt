-- store_field::lay_starts: a loop; the starts of the modules below v are laid, by `fill-turn`, in the end all.
use Rattle.std.proofs.Common.{◌≡◌}
use Rattle.store_field.specs.Ends.{values_from, laid_starts}
use Rattle.store_field.proofs.lay_starts.Given as goal

abbrev pub invariant-loop-v : goal.invariant-loop-v
invariant-loop-v l = record {
  next : l.s ≡ values_from l.plan l.v;
  laid : l.starts ≡ laid_starts l.plan l.v;
}
