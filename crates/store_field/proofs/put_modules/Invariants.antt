-- store_field::put_modules: a loop; the modules below v are written (`run_on`), in the end all.
use Rattle.std.proofs.Common.{◌≡◌, ◌+◌, length, map}
use Rattle.std.proofs.lemmas.List.Edits.{sets}
use Rattle.plan_file.specs.Layout.{bytes_of}
use Rattle.store.specs.Layout.{places_below}
use Rattle.store_field.specs.Parts.{parts_at}
use Rattle.store_field.proofs.put_modules.Given as goal

abbrev pub invariant-loop-v : goal.invariant-loop-v
invariant-loop-v l = record {
  place : l.q ≡ 1 + length (places_below l.plan l.v);
  written : l.out ≡ sets l.initial.out 2 (bytes_of (map (parts_at l.cells l.marks) (places_below l.plan l.v)));
}
