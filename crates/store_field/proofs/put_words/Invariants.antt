-- store_field::put_words: a loop; the first i words are written (`word_on`), in the end all.
use Rattle.std.proofs.Common.{◌≡◌, take}
use Rattle.std.proofs.lemmas.List.Edits.{sets}
use Rattle.store.specs.Layout.{word_bytes}
use Rattle.store_field.proofs.put_words.Given as goal

abbrev pub invariant-loop-i : goal.invariant-loop-i
invariant-loop-i l = l.out ≡ sets l.initial.out 0 (word_bytes (take l.i l.words))
