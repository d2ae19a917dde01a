-- How long a field's numbers, its bytes and a record are (`number-bytes`, `field-size`, `record-size`); a record is of the words that wait (`record-with`).
use Rattle.std.specs.Prelude.{ℕ, ◌+◌, ◌*◌, ◌≡◌, List, ◌∷◌, ◌++◌, map, length}
use Rattle.std.proofs.Common.{arith, ap, length-append}
use Rattle.std.proofs.lemmas.List.{length-map}
use Rattle.plan.specs.Links.{Plan, modules_of, links_of}
use Rattle.plan.proofs.laws.Accepted.{Accepted}
use Rattle.plan_file.specs.Layout.{bytes_of, encode}
use Rattle.plan_file.proofs.laws.Lengths.{length-bytes_of, length-encode}
use Rattle.field.specs.declared.Field.{Field}
use Rattle.field.specs.Valid.{waiting_in}
use Rattle.field.specs.Held.{Held}
use Rattle.store.specs.Layout.{entry_at, places, field_numbers, field_bytes, word_bytes, record_bytes, record_with, number_bytes, record_size}
use Rattle.store_laws.proofs.Places.{places-length}
use Rattle.store_laws.proofs.Words.{length-words}

-- by its numbers; for an accepted plan by its counts
pub field-bytes : (f : Field) → length (field_bytes f) ≡ 7 + 8 * links_of f.plan + 2 * field_numbers f.plan
unfolding field_bytes
field-bytes f =
    let ns = f.sent ∷ map (entry_at f) (places f.plan) in
    omega (arith, length-append (encode f.plan) (bytes_of ns), length-encode f.plan, length-bytes_of ns, length-map (places f.plan) (entry_at f))

pub number-bytes : (p : Plan) → Accepted p → 2 * field_numbers p ≡ number_bytes (modules_of p) (links_of p)
number-bytes p a = omega (arith, places-length p a)

pub field-size : (f : Field) → Accepted f.plan → length (field_bytes f) ≡ 7 + 8 * links_of f.plan + number_bytes (modules_of f.plan) (links_of f.plan)
field-size f a = omega (arith, field-bytes f, number-bytes f.plan a)

pub record-size : (name : List ℕ) (f : Field) (ws : List ℕ) → Accepted f.plan → length (record_with name f ws) ≡ record_size f.plan (length name) (length ws)
unfolding record_with
record-size name f ws a = omega (arith, length-append name (field_bytes f ++ word_bytes ws), length-append (field_bytes f) (word_bytes ws), field-size f a, length-words ws)

pub record-with : (name : List ℕ) (h : Held) (ws : List ℕ) → ws ≡ waiting_in h.words → record_with name h.field ws ≡ record_bytes name h
unfolding record_with record_bytes
record-with name h ws e = ap (record_with name h.field) e
