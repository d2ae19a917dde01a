-- store_field::take_words: a loop; the first i words are read (`read-on`), in the end all.
use Rattle.std.proofs.Common.{◌≡◌, ◌*◌}
use Rattle.std.proofs.lemmas.List.Edits.{sets}
use Rattle.base.specs.Table.{tabulate}
use Rattle.format_wide.specs.Wide.{at64}
use Rattle.store_field.proofs.take_words.Given as goal

abbrev pub invariant-loop-i : goal.invariant-loop-i
invariant-loop-i l = l.words ≡ sets l.initial.words 0 (tabulate l.i (λ j. at64 l.part (8 * j)))
