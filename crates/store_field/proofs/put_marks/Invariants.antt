-- store_field::put_marks: a loop; those of the links below k are written (`run_on`), in the end all.
use Rattle.std.proofs.Common.{◌≡◌, ◌+◌, ◌*◌, length, map}
use Rattle.std.proofs.lemmas.List.Edits.{sets}
use Rattle.plan_file.specs.Layout.{bytes_of}
use Rattle.store_field.specs.Ends.{own_ends, entry}
use Rattle.store_field.proofs.put_marks.Given as goal

abbrev pub invariant-loop-k : goal.invariant-loop-k
invariant-loop-k l = record {
  place : l.a ≡ l.q + length (own_ends l.plan l.v l.k);
  written : l.out ≡ sets l.initial.out (2 * l.q) (bytes_of (map (entry l.marks) (own_ends l.plan l.v l.k)));
}
