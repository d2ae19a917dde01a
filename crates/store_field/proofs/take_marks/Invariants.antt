-- store_field::take_marks: a loop; the marks of the ends below d are read, by `fill-turn`, and their modules have gone on (`starts-on`), in the end all.
use Rattle.std.proofs.Common.{◌≡◌, ◌+◌}
use Rattle.base.specs.Limits.{max_modules, max_ends}
use Rattle.base.specs.Table.{tabulate, upto}
use Rattle.store.specs.Reading.{number_in}
use Rattle.store_field.specs.Ends.{ends_below, mark_number, entry}
use Rattle.store_field.specs.Parts.{cut_mark}
use Rattle.store_field.proofs.take_marks.Given as goal

abbrev pub invariant-loop-d : goal.invariant-loop-d
invariant-loop-d l = record {
  reached : l.starts ≡ tabulate max_modules (λ v. entry l.initial.starts v + ends_below l.plan v l.d);
  read : l.marks ≡ tabulate max_ends (upto l.d (λ k. cut_mark (number_in l.numbers (mark_number l.plan k))) (entry l.initial.marks));
}
