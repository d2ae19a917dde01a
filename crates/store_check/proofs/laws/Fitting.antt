-- A record that passes its check: its plan is read and its numbers are there (`fits-there`), its words wait within the ceiling (`words-room`), and its
-- marks have 8 bits (`marks-whole`).
use Rattle.std.specs.Prelude.{ℕ, ◌-◌, ◌≤◌, ◌≡◌, true, List, map, length}
use Rattle.std.proofs.Common.{arith, ap}
use Rattle.plan.specs.Links.{Plan}
use Rattle.field.specs.declared.Field.{Field}
use Rattle.field.specs.Edges.{ceiling_of}
use Rattle.field.specs.Held.{state_of}
use Rattle.field_laws.proofs.Fits.{FieldFits, fits-facts}
use Rattle.field_laws.proofs.Laid.{waited-back, valid-parts}
use Rattle.store.specs.Reading.{held_in, filled_up, record_fits}
use Rattle.store_laws.proofs.ReadBack.{record-ok, record-tidy}
use Rattle.store_field.specs.Parts.{cut_mark}
use Rattle.store_field.proofs.laws.Cut.{cut-tidy}
use Rattle.store_check.specs.Seen.{NumbersThere}

module _ (r : List ℕ) (fit : record_fits r ≡ true) where
  abbrev f : Field
  f = (held_in r).field

  pub fits-there : {p : Plan} → p ≡ (held_in r).field.plan → NumbersThere r p
  unfolding held_in
  fits-there e = record { read = record { taken = (record-ok r fit).plan; is = e }; room = (record-ok r fit).numbers }

  facts : FieldFits f.plan (state_of (filled_up (held_in r)))
  facts = fits-facts f.plan (state_of (filled_up (held_in r))) (valid-parts (filled_up (held_in r)) (record-ok r fit).valid).3

  -- "waiting ≤ sent ≤ M"
  pub words-room : length (held_in r).words ≤ ceiling_of (held_in r).field.plan
  words-room = omega (arith, facts.waiting, facts.ceiling, ap length (waited-back (ceiling_of f.plan - length (held_in r).words) (record-ok r fit).nonzero))

  pub marks-whole : map cut_mark (held_in r).field.marks ≡ (held_in r).field.marks
  marks-whole = cut-tidy (filled_up (held_in r)) (record-ok r fit).valid (record-tidy r fit)
