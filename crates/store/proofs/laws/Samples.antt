-- Named points, computed: records byte by byte, records that do not fit, names, stores, and what the calls answer and leave (`layout-samples` and the others).
use Rattle.std.specs.Prelude.{ℕ, ◌+◌, ◌≡◌, refl, true, false, List, [], ◌∷◌, ◌++◌, map, length, set, take, drop, replicate}
use Rattle.base.specs.None.{none}
use Rattle.base.specs.Loop.{taken_to}
use Rattle.format_word.specs.Word.{packed}
use Rattle.plan.specs.Links.{Plan}
use Rattle.field.specs.Held.{Held, held_from, not_set_up}
use Rattle.store.specs.declared.FoundPoint.{FoundPoint}
use Rattle.store.specs.Records.{records_in}
use Rattle.store.specs.Names.{name_fits}
use Rattle.store.specs.Layout.{record_bytes}
use Rattle.store.specs.Reading.{held_in, record_fits}
use Rattle.store.specs.Calls.{store_fits, save_refusal, save_point, find_point, part_at, restore_point}
use Rattle.store.specs.Tidied.{saved_of}
use Rattle.base.specs.Log as base3
use Rattle.base.specs.Test as base5
use Rattle.base.specs.Table as base6
use Rattle.graph.specs.Decide as graph1
use Rattle.format_message.specs.Listed as message2
use Rattle.plan.specs.Refusal as plan1
use Rattle.plan.specs.Trimmed as plan3
use Rattle.plan_file.specs.Layout as file1
use Rattle.plan_file.specs.Reading as file2
use Rattle.node.specs.Work as node2
use Rattle.field.specs.Edges as field0
use Rattle.field.specs.Valid as field3
use Rattle.field.specs.Held as field4
use Rattle.store.specs.Records as store1
use Rattle.store.specs.Names as store2
use Rattle.store.specs.Layout as store3
use Rattle.store.specs.Reading as store4
use Rattle.store.specs.Calls as store5
use Rattle.store.specs.Tidied as store6

-- ---- fields, with as many cells and marks as their plans have

-- 2 modules and 1 link with readings 3 and 4
abbrev two : Plan
two = 2 ∷ 1 ∷ 0 ∷ 1 ∷ 3 ∷ 4 ∷ []

abbrev unused : List ℕ
unused = none ∷ none ∷ none ∷ none ∷ none ∷ 0 ∷ 0 ∷ []

-- module 0 woken, its Connect handed over
abbrev woken : Held
woken =
    held_from two (2 ∷ 0 ∷ unused ++ none ∷ 0 ∷ 0 ∷ unused ++ none ∷ []) (1 ∷ 0 ∷ []) 1 (packed 1 none 0 1 ∷ replicate 11 0)

-- .. and served: module 1 is awake, by link 0
abbrev served : Held
served =
    held_from two (2 ∷ 0 ∷ unused ++ none ∷ 2 ∷ 0 ∷ unused ++ 0 ∷ []) (1 ∷ 1 ∷ []) 3 (packed 1 none 1 0 ∷ packed 74 0 1 0 ∷ replicate 10 0)

-- a triangle with values that vary as far as 31 lets them, and with other marks at the two ends of each link
abbrev triangle : Plan
triangle = 3 ∷ 3 ∷ 0 ∷ 1 ∷ 300 ∷ 7 ∷ 0 ∷ 2 ∷ 9 ∷ 10 ∷ 1 ∷ 2 ∷ 2000 ∷ 5 ∷ []

abbrev mixed : Held
mixed =
    held_from triangle
    (2 ∷ 1 ∷ 2 ∷ 1 ∷ 0 ∷ none ∷ 1 ∷ 2 ∷ 1 ∷ 0
    ∷ 1 ∷ 0 ∷ none ∷ 2 ∷ 2 ∷ 0 ∷ none ∷ 0 ∷ 0 ∷ 2
    ∷ 0 ∷ 0 ∷ none ∷ 0 ∷ none ∷ none ∷ 2 ∷ 1 ∷ 0 ∷ none ∷ [])
    (1 ∷ 2 ∷ 0 ∷ 2 ∷ 1 ∷ 0 ∷ []) 21 (packed 1 none 4 0 ∷ packed 11 2 1 1 ∷ replicate 19 0)

-- ---- their records: head, name, plan; count; module by module its values and marks; words

abbrev go : List ℕ
go = 103 ∷ 111 ∷ []

abbrev longest : List ℕ
longest = 97 ∷ 98 ∷ 99 ∷ 100 ∷ 101 ∷ 102 ∷ 103 ∷ 104 ∷ 105 ∷ 106 ∷ 107 ∷ 122 ∷ []

abbrev woken_record : List ℕ
woken_record =
    1 ∷ 0 ∷ 0 ∷ 0 ∷ 72 ∷ 2 ∷ 103 ∷ 111
    ∷ 1 ∷ 0 ∷ 12 ∷ 0 ∷ 2 ∷ 0 ∷ 1 ∷ 0 ∷ 0 ∷ 0 ∷ 1 ∷ 0 ∷ 3 ∷ 0 ∷ 4
    ∷ 0 ∷ 1
    ∷ 0 ∷ 2 ∷ 0 ∷ 0 ∷ 255 ∷ 255 ∷ 255 ∷ 255 ∷ 255 ∷ 255 ∷ 255 ∷ 255 ∷ 255 ∷ 255 ∷ 0 ∷ 0 ∷ 0 ∷ 0 ∷ 255 ∷ 255
    ∷ 0 ∷ 1
    ∷ 0 ∷ 0 ∷ 0 ∷ 0 ∷ 255 ∷ 255 ∷ 255 ∷ 255 ∷ 255 ∷ 255 ∷ 255 ∷ 255 ∷ 255 ∷ 255 ∷ 0 ∷ 0 ∷ 0 ∷ 0 ∷ 255 ∷ 255
    ∷ 0 ∷ 0
    ∷ 0 ∷ 0 ∷ 3 ∷ 0 ∷ 0 ∷ 255 ∷ 255 ∷ 1 ∷ []

abbrev served_record : List ℕ
served_record =
    1 ∷ 0 ∷ 0 ∷ 0 ∷ 80 ∷ 2 ∷ 103 ∷ 111
    ∷ 1 ∷ 0 ∷ 12 ∷ 0 ∷ 2 ∷ 0 ∷ 1 ∷ 0 ∷ 0 ∷ 0 ∷ 1 ∷ 0 ∷ 3 ∷ 0 ∷ 4
    ∷ 0 ∷ 3
    ∷ 0 ∷ 2 ∷ 0 ∷ 0 ∷ 255 ∷ 255 ∷ 255 ∷ 255 ∷ 255 ∷ 255 ∷ 255 ∷ 255 ∷ 255 ∷ 255 ∷ 0 ∷ 0 ∷ 0 ∷ 0 ∷ 255 ∷ 255
    ∷ 0 ∷ 1
    ∷ 0 ∷ 2 ∷ 0 ∷ 0 ∷ 255 ∷ 255 ∷ 255 ∷ 255 ∷ 255 ∷ 255 ∷ 255 ∷ 255 ∷ 255 ∷ 255 ∷ 0 ∷ 0 ∷ 0 ∷ 0 ∷ 0 ∷ 0
    ∷ 0 ∷ 1
    ∷ 0 ∷ 0 ∷ 2 ∷ 0 ∷ 1 ∷ 255 ∷ 255 ∷ 1
    ∷ 0 ∷ 0 ∷ 2 ∷ 0 ∷ 1 ∷ 0 ∷ 0 ∷ 74 ∷ []

abbrev mixed_record : List ℕ
mixed_record =
    1 ∷ 0 ∷ 0 ∷ 0 ∷ 134 ∷ 12 ∷ 97 ∷ 98 ∷ 99 ∷ 100 ∷ 101 ∷ 102 ∷ 103 ∷ 104 ∷ 105 ∷ 106 ∷ 107 ∷ 122
    ∷ 1 ∷ 0 ∷ 28 ∷ 0 ∷ 3 ∷ 0 ∷ 3 ∷ 0 ∷ 0 ∷ 0 ∷ 1 ∷ 1 ∷ 44 ∷ 0 ∷ 7 ∷ 0 ∷ 0 ∷ 0 ∷ 2 ∷ 0 ∷ 9 ∷ 0 ∷ 10 ∷ 0 ∷ 1 ∷ 0 ∷ 2 ∷ 7 ∷ 208 ∷ 0 ∷ 5
    ∷ 0 ∷ 21
    ∷ 0 ∷ 2 ∷ 0 ∷ 1 ∷ 0 ∷ 2 ∷ 0 ∷ 1 ∷ 0 ∷ 0 ∷ 255 ∷ 255 ∷ 0 ∷ 1 ∷ 0 ∷ 2 ∷ 0 ∷ 1 ∷ 0 ∷ 0
    ∷ 0 ∷ 1 ∷ 0 ∷ 0
    ∷ 0 ∷ 1 ∷ 0 ∷ 0 ∷ 255 ∷ 255 ∷ 0 ∷ 2 ∷ 0 ∷ 2 ∷ 0 ∷ 0 ∷ 255 ∷ 255 ∷ 0 ∷ 0 ∷ 0 ∷ 0 ∷ 0 ∷ 2
    ∷ 0 ∷ 2 ∷ 0 ∷ 1
    ∷ 0 ∷ 0 ∷ 0 ∷ 0 ∷ 255 ∷ 255 ∷ 0 ∷ 0 ∷ 255 ∷ 255 ∷ 255 ∷ 255 ∷ 0 ∷ 2 ∷ 0 ∷ 1 ∷ 0 ∷ 0 ∷ 255 ∷ 255
    ∷ 0 ∷ 2 ∷ 0 ∷ 0
    ∷ 0 ∷ 0 ∷ 2 ∷ 0 ∷ 4 ∷ 255 ∷ 255 ∷ 1
    ∷ 0 ∷ 0 ∷ 3 ∷ 0 ∷ 1 ∷ 0 ∷ 2 ∷ 11 ∷ []

-- "What 31 does not look at": numbers past the plan's links, values past its modules, marks past its links
abbrev littered : Held
littered =
    held_from (two ++ 9 ∷ 9 ∷ []) (woken.field.cells ++ 9 ∷ 9 ∷ []) (1 ∷ 0 ∷ 9 ∷ []) 1 (packed 1 none 0 1 ∷ replicate 20 0)

pub layout-samples : map (record_bytes go) (woken ∷ littered ∷ served ∷ []) ++ record_bytes longest mixed ∷ [] ≡ woken_record ∷ woken_record ∷ served_record ∷ mixed_record ∷ []
unfolding base6.tabulate file1.bytes_of file1.encode field0.is_own field0.end_of field3.waiting_in store3.entry_at store3.mark_places store3.places_below store3.field_bytes store3.word_bytes store3.record_bytes store3.record_with
layout-samples = refl

-- ---- reading

-- what a record holds: the plan with zeros after, setup's values and marks past it
pub held-samples : held_in mixed_record ≡ held_from
    (triangle ++ replicate 2388 0) (mixed.field.cells ++ field4.fresh_cells 189) (mixed.field.marks ++ replicate 1194 0) 21 (packed 1 none 4 0 ∷ packed 11 2 1 1 ∷ [])
unfolding base6.tabulate plan3.padded plan3.trimmed file1.decode field0.is_own field0.end_of field3.waiting_in field4.fresh_cells store2.body_in store3.mark_places store3.places_below store4.plan_bytes store4.behind_plan store4.poured store4.held_in
held-samples = refl

-- the record of `woken` with the bytes from i on changed to these
abbrev changed : ℕ → List ℕ → List ℕ
changed i bytes = take i woken_record ++ bytes ++ drop (i + length bytes) woken_record

-- a count above 255
pub large-count-samples : (held_in (changed 23 (1 ∷ 44 ∷ []))).field.sent ≡ 300
unfolding base6.tabulate plan3.padded plan3.trimmed file1.decode field0.is_own field0.end_of store2.body_in store3.mark_places store3.places_below store4.plan_bytes store4.behind_plan store4.held_in
large-count-samples = refl

-- what a record keeps of a field with numbers that 31 does not look at: the first of them
pub kept-samples : (take 9 (saved_of littered).field.plan ≡ two ++ replicate 3 0) × (take 23 (saved_of littered).field.cells ≡ woken.field.cells ++ 0 ∷ 0 ∷ none ∷ [])
    × (take 4 (saved_of littered).field.marks ≡ 1 ∷ 0 ∷ 0 ∷ 0 ∷ []) × (take 3 (saved_of served).field.marks ≡ 1 ∷ 1 ∷ 0 ∷ []) × ((saved_of littered).words ≡ packed 1 none 0 1 ∷ [])
unfolding base6.tabulate base6.upto plan3.padded plan3.trimmed field3.waiting_in field4.fresh_cells store6.tidied store6.saved_of
kept-samples = (refl, refl, refl, refl, refl)

pub good-samples : map record_fits
    (woken_record ∷ served_record ∷ mixed_record
    -- sent 12; module 0's waking link 0; the letter z
    ∷ changed 24 (12 ∷ []) ∷ changed 43 (0 ∷ 0 ∷ []) ∷ changed 7 (122 ∷ []) ∷ [])
    ≡ replicate 6 true
unfolding base3.log2-to base3.log2 base5.every base6.tabulate graph1.label graph1.joined_over message2.bare message2.listed_as message2.listed plan1.ascends plan1.in_order plan1.link_verdict plan1.links_refusal plan1.plan_refusal plan3.padded plan3.trimmed file1.decode file2.head_verdict file2.read_refusal node2.number field0.is_own field0.end_of field3.all_of field3.waiting_in field3.word_fits field3.node_fits field3.fits field4.valid field4.fresh_cells store2.name_fits store2.name_in store2.body_in store3.mark_places store3.places_below store4.plan_bytes store4.behind_plan store4.poured store4.held_in store4.record_fits
good-samples = refl

-- a word 0 at the end, and before the last; a byte more, one less, a mark less, no plan, nothing
pub short-samples : map record_fits
    ((woken_record ++ replicate 8 0) ∷ (take 69 woken_record ++ replicate 8 0 ++ drop 69 woken_record) ∷ (woken_record ++ 0 ∷ []) ∷ take 76 woken_record
    ∷ take 67 woken_record ∷ take 8 woken_record ∷ [] ∷ [])
    ≡ replicate 7 false
unfolding base3.log2-to base3.log2 base5.every base6.tabulate graph1.label graph1.joined_over message2.bare message2.listed_as message2.listed plan1.ascends plan1.in_order plan1.link_verdict plan1.links_refusal plan1.plan_refusal plan3.padded plan3.trimmed file1.decode file2.head_verdict file2.read_refusal node2.number field0.is_own field0.end_of field3.all_of field3.waiting_in field3.word_fits field3.node_fits field3.fits field4.valid field4.fresh_cells store2.name_fits store2.name_in store2.body_in store3.mark_places store3.places_below store4.plan_bytes store4.behind_plan store4.poured store4.held_in store4.record_fits
short-samples = refl

pub bad-samples : map record_fits
    -- a name with a capital, with what is before a and behind z; none
    (changed 6 (71 ∷ []) ∷ changed 6 (96 ∷ []) ∷ changed 7 (123 ∷ []) ∷ changed 5 (0 ∷ [])
    -- the plan's version, its length, its reading 2001
    ∷ changed 8 (2 ∷ []) ∷ changed 10 (11 ∷ []) ∷ changed 21 (7 ∷ 209 ∷ [])
    -- sent 0 and 13; status 256 and 3; mark 256 and 3; a sleeper's waking link
    ∷ changed 24 (0 ∷ []) ∷ changed 24 (13 ∷ []) ∷ changed 25 (1 ∷ 0 ∷ []) ∷ changed 26 (3 ∷ []) ∷ changed 45 (1 ∷ 0 ∷ []) ∷ changed 46 (3 ∷ []) ∷ changed 65 (0 ∷ 0 ∷ [])
    -- a word with bit 42, of kind 0
    ∷ changed 71 (7 ∷ []) ∷ changed 76 (0 ∷ []) ∷ [])
    ≡ replicate 16 false
unfolding base3.log2-to base3.log2 base5.every base6.tabulate graph1.label graph1.joined_over message2.bare message2.listed_as message2.listed plan1.ascends plan1.in_order plan1.link_verdict plan1.links_refusal plan1.plan_refusal plan3.padded plan3.trimmed file1.decode file2.head_verdict file2.read_refusal node2.number field0.is_own field0.end_of field3.all_of field3.waiting_in field3.word_fits field3.node_fits field3.fits field4.valid field4.fresh_cells store2.name_fits store2.name_in store2.body_in store3.mark_places store3.places_below store4.plan_bytes store4.behind_plan store4.poured store4.held_in store4.record_fits
bad-samples = refl

-- none, 13 letters, a capital, what stands before a and behind z
pub name-samples : map name_fits (go ∷ longest ∷ (122 ∷ []) ∷ [] ∷ (longest ++ 97 ∷ []) ∷ (71 ∷ 111 ∷ []) ∷ (103 ∷ 96 ∷ []) ∷ (123 ∷ []) ∷ [])
    ≡ true ∷ true ∷ true ∷ false ∷ false ∷ false ∷ false ∷ false ∷ []
unfolding field3.all_of store2.name_fits
name-samples = refl

-- ---- stores

-- two records, 5 zeros after
abbrev both : List ℕ
both = mixed_record ++ woken_record ++ replicate 5 0

abbrev b : List ℕ
b = 98 ∷ []

-- a third one behind them, no zeros after
abbrev three : List ℕ
three = mixed_record ++ woken_record ++ record_bytes b served

pub records-samples : map records_in (both ∷ [] ∷ replicate 9 0 ∷ take 215 both ∷ (woken_record ++ woken_record) ∷ (2 ∷ drop 1 both) ∷ (0 ∷ both) ∷ [])
    ≡ (mixed_record ∷ woken_record ∷ []) ∷ [] ∷ [] ∷ (mixed_record ∷ []) ∷ (woken_record ∷ woken_record ∷ []) ∷ [] ∷ [] ∷ []
unfolding store1.whole store1.records_by
records-samples = refl

-- a whole store; with a byte behind the records, a record cut, a damaged one behind a good one, a name twice, also with another between, zeros before a record
pub whole-samples : map store_fits (both ∷ [] ∷ replicate 9 0 ∷ woken_record ∷ set both 220 1 ∷ set both 216 7 ∷ take 215 both ∷ set both 164 1 ∷ (woken_record ++ served_record) ∷ (woken_record ++ mixed_record ++ served_record) ∷ (0 ∷ woken_record) ∷ [])
    ≡ replicate 4 true ++ replicate 7 false
unfolding base3.log2-to base3.log2 base5.every base6.tabulate graph1.label graph1.joined_over message2.bare message2.listed_as message2.listed plan1.ascends plan1.in_order plan1.link_verdict plan1.links_refusal plan1.plan_refusal plan3.padded plan3.trimmed file1.decode file2.head_verdict file2.read_refusal node2.number field0.is_own field0.end_of field3.all_of field3.waiting_in field3.word_fits field3.node_fits field3.fits field4.valid field4.fresh_cells store2.name_fits store2.name_in store2.body_in store3.mark_places store3.places_below store4.plan_bytes store4.behind_plan store4.poured store4.held_in store4.record_fits base5.same_list file1.bytes_of file1.encode store1.whole store1.records_by store1.joined store2.spot_from store2.without_first store3.entry_at store3.field_bytes store3.word_bytes store3.record_bytes store3.record_with store5.records_fit store5.store_fits
whole-samples = refl

-- ---- saving

-- 31 before 76, 76 before 77, 77 before 78
abbrev over_sent : Held
over_sent = held_from two woken.field.cells (1 ∷ 0 ∷ []) 13 woken.words

abbrev damaged : List ℕ
damaged = woken_record ++ replicate 82 0 ++ 1 ∷ []

pub refused-samples : save_refusal [] over_sent damaged ∷ save_refusal [] woken damaged ∷ save_refusal [] woken [] ∷ save_refusal (71 ∷ 111 ∷ []) woken [] ∷ save_refusal go woken [] ∷ save_refusal go woken (replicate 76 0)
    ∷ save_refusal go woken (replicate 77 0) ∷ save_refusal go served woken_record ∷ save_refusal go served (woken_record ++ replicate 8 0) ∷ save_refusal b served (served_record ++ replicate 75 0) ∷ []
    ≡ 31 ∷ 76 ∷ 77 ∷ 77 ∷ 78 ∷ 78 ∷ 0 ∷ 78 ∷ 0 ∷ 78 ∷ []
unfolding base3.log2-to base3.log2 base5.every base6.tabulate graph1.label graph1.joined_over message2.bare message2.listed_as message2.listed plan1.ascends plan1.in_order plan1.link_verdict plan1.links_refusal plan1.plan_refusal plan3.padded plan3.trimmed file1.decode file2.head_verdict file2.read_refusal node2.number field0.is_own field0.end_of field3.all_of field3.waiting_in field3.word_fits field3.node_fits field3.fits field4.valid field4.fresh_cells store2.name_fits store2.name_in store2.body_in store3.mark_places store3.places_below store4.plan_bytes store4.behind_plan store4.poured store4.held_in store4.record_fits base5.same_list file1.bytes_of file1.encode store1.whole store1.records_by store1.joined store2.spot_from store2.without_first store3.entry_at store3.field_bytes store3.word_bytes store3.record_bytes store3.record_with store5.records_fit store5.store_fits store5.saved store5.save_refusal
refused-samples = refl

-- the first, a longer one in its place, a shorter one again, one that does not fit
pub saved-samples : map (λ a. a.state) (save_point go woken (replicate 160 0) ∷ save_point go served (woken_record ++ replicate 83 0) ∷ save_point go woken (served_record ++ replicate 75 0) ∷ save_point b served (served_record ++ replicate 75 0) ∷ [])
    ≡ (woken_record ++ replicate 83 0) ∷ (served_record ++ replicate 75 0) ∷ (woken_record ++ replicate 83 0) ∷ (served_record ++ replicate 75 0) ∷ []
unfolding base3.log2-to base3.log2 base5.every base6.tabulate graph1.label graph1.joined_over message2.bare message2.listed_as message2.listed plan1.ascends plan1.in_order plan1.link_verdict plan1.links_refusal plan1.plan_refusal plan3.padded plan3.trimmed file1.decode file2.head_verdict file2.read_refusal node2.number field0.is_own field0.end_of field3.all_of field3.waiting_in field3.word_fits field3.node_fits field3.fits field4.valid field4.fresh_cells store2.name_fits store2.name_in store2.body_in store3.mark_places store3.places_below store4.plan_bytes store4.behind_plan store4.poured store4.held_in store4.record_fits base5.same_list file1.bytes_of file1.encode store1.whole store1.records_by store1.joined store2.spot_from store2.without_first store3.entry_at store3.field_bytes store3.word_bytes store3.record_bytes store3.record_with store5.records_fit store5.store_fits store5.saved store5.save_refusal store5.save_point
saved-samples = refl

-- the old record goes, the others close up in their order, the new one stands last, also under a new name
pub moved-samples : map (λ a. a.state) (save_point longest mixed both ∷ save_point go woken both ∷ save_point go woken (mixed_record ++ replicate 82 0) ∷ save_point longest mixed three ∷ save_point b served three ∷ [])
    ≡ (woken_record ++ mixed_record ++ replicate 5 0) ∷ both ∷ both ∷ (woken_record ++ record_bytes b served ++ mixed_record) ∷ three ∷ []
unfolding base3.log2-to base3.log2 base5.every base6.tabulate graph1.label graph1.joined_over message2.bare message2.listed_as message2.listed plan1.ascends plan1.in_order plan1.link_verdict plan1.links_refusal plan1.plan_refusal plan3.padded plan3.trimmed file1.decode file2.head_verdict file2.read_refusal node2.number field0.is_own field0.end_of field3.all_of field3.waiting_in field3.word_fits field3.node_fits field3.fits field4.valid field4.fresh_cells store2.name_fits store2.name_in store2.body_in store3.mark_places store3.places_below store4.plan_bytes store4.behind_plan store4.poured store4.held_in store4.record_fits base5.same_list file1.bytes_of file1.encode store1.whole store1.records_by store1.joined store2.spot_from store2.without_first store3.entry_at store3.field_bytes store3.word_bytes store3.record_bytes store3.record_with store5.records_fit store5.store_fits store5.saved store5.save_refusal store5.save_point
moved-samples = refl

-- what a refused save leaves: by 78 the old record too, by 31, 76 and 77 the store as it was
pub unmoved-samples : map (λ a. a.state) (save_point go served woken_record ∷ save_point go woken mixed_record ∷ save_point go over_sent woken_record ∷ save_point go woken damaged ∷ save_point [] woken woken_record ∷ [])
    ≡ woken_record ∷ mixed_record ∷ woken_record ∷ damaged ∷ woken_record ∷ []
unfolding base3.log2-to base3.log2 base5.every base6.tabulate graph1.label graph1.joined_over message2.bare message2.listed_as message2.listed plan1.ascends plan1.in_order plan1.link_verdict plan1.links_refusal plan1.plan_refusal plan3.padded plan3.trimmed file1.decode file2.head_verdict file2.read_refusal node2.number field0.is_own field0.end_of field3.all_of field3.waiting_in field3.word_fits field3.node_fits field3.fits field4.valid field4.fresh_cells store2.name_fits store2.name_in store2.body_in store3.mark_places store3.places_below store4.plan_bytes store4.behind_plan store4.poured store4.held_in store4.record_fits base5.same_list file1.bytes_of file1.encode store1.whole store1.records_by store1.joined store2.spot_from store2.without_first store3.entry_at store3.field_bytes store3.word_bytes store3.record_bytes store3.record_with store5.records_fit store5.store_fits store5.saved store5.save_refusal store5.save_point
unmoved-samples = refl

-- ---- finding and restoring

abbrev found_at : ℕ → ℕ → ℕ → FoundPoint
found_at refusal at size = record { refusal = refusal; at = at; size = size }

pub found-samples : find_point go both ∷ find_point longest both ∷ find_point b three ∷ find_point (110 ∷ 111 ∷ []) both ∷ find_point (71 ∷ 111 ∷ []) both ∷ find_point [] both ∷ find_point b [] ∷ find_point go damaged ∷ find_point [] damaged ∷ []
    ≡ found_at 0 139 77 ∷ found_at 0 0 139 ∷ found_at 0 216 84 ∷ found_at 77 0 0 ∷ found_at 77 0 0 ∷ found_at 77 0 0 ∷ found_at 77 0 0 ∷ found_at 76 0 0 ∷ found_at 76 0 0 ∷ []
unfolding base3.log2-to base3.log2 base5.every base6.tabulate graph1.label graph1.joined_over message2.bare message2.listed_as message2.listed plan1.ascends plan1.in_order plan1.link_verdict plan1.links_refusal plan1.plan_refusal plan3.padded plan3.trimmed file1.decode file2.head_verdict file2.read_refusal node2.number field0.is_own field0.end_of field3.all_of field3.waiting_in field3.word_fits field3.node_fits field3.fits field4.valid field4.fresh_cells store2.name_fits store2.name_in store2.body_in store3.mark_places store3.places_below store4.plan_bytes store4.behind_plan store4.poured store4.held_in store4.record_fits base5.same_list file1.bytes_of file1.encode store1.whole store1.records_by store1.joined store2.spot_from store2.without_first store3.entry_at store3.field_bytes store3.word_bytes store3.record_bytes store3.record_with store5.records_fit store5.store_fits store5.find_refusal store5.find_point
found-samples = refl

pub shown-samples : map (λ name. part_at (find_point name both) both) (go ∷ longest ∷ b ∷ []) ≡ woken_record ∷ mixed_record ∷ [] ∷ []
unfolding base3.log2-to base3.log2 base5.every base6.tabulate graph1.label graph1.joined_over message2.bare message2.listed_as message2.listed plan1.ascends plan1.in_order plan1.link_verdict plan1.links_refusal plan1.plan_refusal plan3.padded plan3.trimmed file1.decode file2.head_verdict file2.read_refusal node2.number field0.is_own field0.end_of field3.all_of field3.waiting_in field3.word_fits field3.node_fits field3.fits field4.valid field4.fresh_cells store2.name_fits store2.name_in store2.body_in store3.mark_places store3.places_below store4.plan_bytes store4.behind_plan store4.poured store4.held_in store4.record_fits base5.same_list file1.bytes_of file1.encode store1.whole store1.records_by store1.joined store2.spot_from store2.without_first store3.entry_at store3.field_bytes store3.word_bytes store3.record_bytes store3.record_with store5.records_fit store5.store_fits store5.find_refusal store5.find_point
shown-samples = refl

pub restored-samples : restore_point longest both (replicate 23 7) ∷ restore_point go both (replicate 11 7) ∷ restore_point b both [] ∷ restore_point b damaged [] ∷ restore_point go damaged [] ∷ []
    ≡ taken_to (held_from (held_in mixed_record).field.plan (held_in mixed_record).field.cells (held_in mixed_record).field.marks 21 (packed 1 none 4 0 ∷ packed 11 2 1 1 ∷ replicate 21 0))
    ∷ not_set_up 21 (replicate 11 7) ∷ not_set_up 77 [] ∷ not_set_up 76 [] ∷ not_set_up 76 [] ∷ []
unfolding base3.log2-to base3.log2 base5.every base6.tabulate graph1.label graph1.joined_over message2.bare message2.listed_as message2.listed plan1.ascends plan1.in_order plan1.link_verdict plan1.links_refusal plan1.plan_refusal plan3.padded plan3.trimmed file1.decode file2.head_verdict file2.read_refusal node2.number field0.is_own field0.end_of field3.all_of field3.waiting_in field3.word_fits field3.node_fits field3.fits field4.valid field4.fresh_cells store2.name_fits store2.name_in store2.body_in store3.mark_places store3.places_below store4.plan_bytes store4.behind_plan store4.poured store4.held_in store4.record_fits base5.same_list file1.bytes_of file1.encode store1.whole store1.records_by store1.joined store2.spot_from store2.without_first store3.entry_at store3.field_bytes store3.word_bytes store3.record_bytes store3.record_with store5.records_fit store5.store_fits store5.find_refusal store5.restore_refusal store5.restore_point
restored-samples = refl

-- words as many as M, and one less
pub words-samples : map (λ n. (restore_point go both (replicate n 7)).refusal) (12 ∷ 11 ∷ []) ≡ 0 ∷ 21 ∷ []
unfolding base3.log2-to base3.log2 base5.every base6.tabulate graph1.label graph1.joined_over message2.bare message2.listed_as message2.listed plan1.ascends plan1.in_order plan1.link_verdict plan1.links_refusal plan1.plan_refusal plan3.padded plan3.trimmed file1.decode file2.head_verdict file2.read_refusal node2.number field0.is_own field0.end_of field3.all_of field3.waiting_in field3.word_fits field3.node_fits field3.fits field4.valid field4.fresh_cells store2.name_fits store2.name_in store2.body_in store3.mark_places store3.places_below store4.plan_bytes store4.behind_plan store4.poured store4.held_in store4.record_fits base5.same_list file1.bytes_of file1.encode store1.whole store1.records_by store1.joined store2.spot_from store2.without_first store3.entry_at store3.field_bytes store3.word_bytes store3.record_bytes store3.record_with store5.records_fit store5.store_fits store5.find_refusal store5.restore_refusal store5.restore_point
words-samples = refl
