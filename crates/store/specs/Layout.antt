-- A record's layout, described once. A field's numbers beside its plan and count have places, the cells first, then the marks; a record holds them in the
-- order of `places`. The writer reads them there (here), the reader puts them there (Reading).
use Rattle.std.specs.Prelude.{ℕ, zero, suc, ◌+◌, ◌-◌, ◌*◌, cond, List, [], ◌∷◌, ◌++◌, map, length, get_or, ltb}
use Rattle.base.specs.Limits.{max_modules, max_links, max_words}
use Rattle.base.specs.Table.{tabulate}
use Rattle.format_wide.specs.Wide.{bytes32, bytes64}
use Rattle.plan.specs.Links.{Plan, modules_of, links_of}
use Rattle.plan_file.specs.Layout.{bytes_of, encode}
use Rattle.field.specs.declared.Field.{Field}
use Rattle.field.specs.Edges.{is_own, end_of}
use Rattle.field.specs.State.{WIDTH, CELLS, cell_of}
use Rattle.field.specs.Valid.{waiting_in}
use Rattle.field.specs.Held.{Held}
use Rattle.store.specs.Names.{longest_name}

-- the mark of directed end d stands behind the cells
abbrev pub mark_place : ℕ → ℕ
mark_place d = CELLS + d

-- the number at a place
unfoldable pub entry_at : Field → ℕ → ℕ
entry_at f i = cond (ltb i CELLS) (get_or f.cells i 0) (get_or f.marks (i - CELLS) 0)

-- "for each module its values in document 01's order, the waking link after halted, ..
abbrev pub value_places : ℕ → List ℕ
value_places v = tabulate WIDTH (cell_of v)

-- .. and its marks by link number": those of its links below k
unfoldable pub mark_places : Plan → ℕ → ℕ → List ℕ
mark_places p v zero = []
mark_places p v (suc k) = mark_places p v k ++ cond (is_own p v k) (mark_place (end_of p v k) ∷ []) []

abbrev pub module_places : Plan → ℕ → List ℕ
module_places p v = value_places v ++ mark_places p v (links_of p)

-- the modules below n
unfoldable pub places_below : Plan → ℕ → List ℕ
places_below p zero = []
places_below p (suc n) = places_below p n ++ module_places p n

abbrev pub places : Plan → List ℕ
places p = places_below p (modules_of p)

-- how many 16-bit numbers that is, the count among them
abbrev pub field_numbers : Plan → ℕ
field_numbers p = 1 + length (places p)

-- "The field is its plan's version 1 bytes, the sent count, then for each module .." "Values, marks and count take 16 bits, with 65535 for none"
unfoldable pub field_bytes : Field → List ℕ
field_bytes f = encode f.plan ++ bytes_of (f.sent ∷ map (entry_at f) (places f.plan))

-- "words 64 bits, all big-endian"
unfoldable pub word_bytes : List ℕ → List ℕ
word_bytes [] = []
word_bytes (w ∷ ws) = bytes64 w ++ word_bytes ws

-- ".. a name length byte, the name, the field and its waiting words"
abbrev pub following : List ℕ → Field → List ℕ → List ℕ
following name f words = (length name ∷ name) ++ (field_bytes f ++ word_bytes words)

-- "Each record is version byte 1, a 32-bit length of what follows, ..": of a field and the words that wait
unfoldable pub record_with : List ℕ → Field → List ℕ → List ℕ
record_with name f words = 1 ∷ (bytes32 (length (following name f words)) ++ following name f words)

-- of what a host holds
unfoldable pub record_bytes : List ℕ → Held → List ℕ
unfolding record_with
record_bytes name h = record_with name h.field (waiting_in h.words)

-- how many bytes the 16-bit numbers of a field take, and a record: version, length and the name's length, the name, the plan, the numbers, the words
abbrev pub number_bytes : ℕ → ℕ → ℕ
number_bytes modules links = 2 * (1 + (modules * WIDTH + 2 * links))

abbrev pub record_size : Plan → ℕ → ℕ → ℕ
record_size p letters waiting = 6 + letters + (7 + 8 * links_of p) + number_bytes (modules_of p) (links_of p) + 8 * waiting

-- the longest there is
abbrev pub longest_record : ℕ
longest_record = 6 + longest_name + (7 + 8 * max_links) + number_bytes max_modules max_links + 8 * max_words
