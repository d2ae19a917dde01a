-- The three calls on a store: save, find, restore, with 76 to 78.
use Rattle.std.specs.Prelude.{ℕ, Bool, true, cond, not, ◌&&◌, List, [], ◌∷◌, ◌++◌, length, take, drop, eqb, ltb}
use Rattle.base.specs.Loop.{After, taken_to, answering}
use Rattle.base.specs.Refuse.{or_else, first_refusal}
use Rattle.field.specs.Edges.{ceiling_of}
use Rattle.field.specs.Valid.{all_of}
use Rattle.field.specs.Held.{Held, layout, valid, not_set_up}
use Rattle.store.specs.declared.FoundPoint.{FoundPoint}
use Rattle.store.specs.Records.{records_in, joined, stored}
use Rattle.store.specs.Names.{name_fits, name_in, is_named, spot_of, without_first, held_among, holds, shown_part}
use Rattle.store.specs.Layout.{record_bytes}
use Rattle.store.specs.Reading.{held_in, record_fits}

-- "or a record's name is bad or held twice, or its field .. would meet 31": each record, and no name twice
unfoldable pub records_fit : List (List ℕ) → Bool
records_fit [] = true
records_fit (r ∷ rs) = record_fits r && not (held_among (name_in r) rs) && records_fit rs

-- "76 the store isn't whole records with zeros after, or .."
unfoldable pub store_fits : List ℕ → Bool
store_fits s = records_fit (records_in s) && all_of (λ x. eqb x 0) (drop (length (joined (records_in s))) s)

-- SAVING

-- "the old record goes, the others close up in their order, the new one stands last"
unfoldable pub saved : List ℕ → Held → List ℕ → List (List ℕ)
saved name h s = without_first (is_named name) (records_in s) ++ (record_bytes name h ∷ [])

-- "on saving after 31 for the field"; 76; "77 a bad name"; "78 the saved result doesn't fit"
unfoldable pub save_refusal : List ℕ → Held → List ℕ → ℕ
save_refusal name h s =
    or_else (not (valid h)) 31
    (or_else (not (store_fits s)) 76
    (or_else (not (name_fits name)) 77
    (or_else (ltb (length s) (length (joined (saved name h s)))) 78 0)))

-- the answer, and what the store holds then: "with zeros after"
unfoldable pub save_point : List ℕ → Held → List ℕ → After (List ℕ)
save_point name h s = answering (save_refusal name h s) s (stored (length s) (saved name h s))

-- FINDING

-- 76; "77 a bad name, or in finding or restoring one not held"
unfoldable pub find_refusal : List ℕ → List ℕ → ℕ
find_refusal name s = or_else (not (store_fits s)) 76 (or_else (not (name_fits name && holds name s)) 77 0)

-- the answer, and which part of the store is shown: an empty one beside a refusal
unfoldable pub find_point : List ℕ → List ℕ → FoundPoint
find_point name s =
    cond (eqb (find_refusal name s) 0) (record { refusal = 0; at = (spot_of name s).at; size = (spot_of name s).size })
    (record { refusal = find_refusal name s; at = 0; size = 0 })

-- "shows its record as a part of the lent store": the part at these numbers
abbrev pub part_at : FoundPoint → List ℕ → List ℕ
part_at f s = take f.size (drop f.at s)

-- RESTORING

-- the field and words saved under the name
abbrev pub point_of : List ℕ → List ℕ → Held
point_of name s = held_in (shown_part name s)

-- "on restoring 21 for fewer words than M comes last"
unfoldable pub restore_refusal : List ℕ → List ℕ → List ℕ → ℕ
restore_refusal name s lent =
    first_refusal (find_refusal name s) (or_else (ltb (length lent) (ceiling_of (point_of name s).field.plan)) 21 0)

-- "Restoring brings back the saved field and its sent count", and "zeroes the words after the waiting ones"; a refusal is as setup's
unfoldable pub restore_point : List ℕ → List ℕ → List ℕ → After Held
restore_point name s lent =
    cond (eqb (restore_refusal name s lent) 0)
    (taken_to (record { field = (point_of name s).field; words = layout (length lent) (point_of name s).words }))
    (not_set_up (restore_refusal name s lent) lent)
