-- A console, computed: what it answers and holds over lists of acts, and by what its field is then judged (`act-samples`); a name that was not saved in the
-- list (`unknown-samples`). What no act may answer (`never-answered`, `room-is-for-saves`).
use Rattle.std.specs.Prelude.{ℕ, ◌≤◌, ◌≡◌, refl, Bool, true, false, cond, List, [], ◌∷◌, map, replicate, eqb}
use Rattle.std.proofs.Common.{arith, inl, inr}
use Rattle.base.specs.None.{none}
use Rattle.format_word.specs.Word.{packed}
use Rattle.plan.specs.Links.{Plan}
use Rattle.field.specs.Valid.{waiting_in}
use Rattle.field.specs.Held.{held_from}
use Rattle.field_calls.specs.Call.{Call, one}
use Rattle.field_calls.proofs.laws.Allowed.{never-allowed}
use Rattle.store.specs.Console.{Console, Act, sets_up, calls, saves, finds, restores, acts, Past, Point, holds_after, noted_after, all_known, act_answers, MayAnswer, first_note}
use Rattle.base.specs.Cond as base1
use Rattle.base.specs.Keep as base2
use Rattle.base.specs.Log as base3
use Rattle.base.specs.Loop as base4
use Rattle.base.specs.Test as base5
use Rattle.base.specs.Table as base6
use Rattle.base.specs.None as base7
use Rattle.graph.specs.Decide as graph1
use Rattle.format_message.specs.Header as message1
use Rattle.format_message.specs.Listed as message2
use Rattle.plan.specs.Refusal as plan1
use Rattle.plan.specs.Weights as plan2
use Rattle.plan.specs.Trimmed as plan3
use Rattle.plan_file.specs.Layout as file1
use Rattle.plan_file.specs.Reading as file2
use Rattle.node.specs.Rules as node1
use Rattle.node.specs.Work as node2
use Rattle.field.specs.Edges as field0
use Rattle.field.specs.State as field1
use Rattle.field.specs.Step as field2
use Rattle.field.specs.Valid as field3
use Rattle.field.specs.Held as field4
use Rattle.field_calls.specs.Call as calls3
use Rattle.store.specs.Records as store1
use Rattle.store.specs.Names as store2
use Rattle.store.specs.Layout as store3
use Rattle.store.specs.Reading as store4
use Rattle.store.specs.Calls as store5
use Rattle.store.specs.Console as store6

-- ---- lists of acts

-- 2 modules and 1 link; the same with the readings the other way round; a link that ends where it begins
abbrev two : Plan
two = 2 ∷ 1 ∷ 0 ∷ 1 ∷ 3 ∷ 4 ∷ []

abbrev turned : Plan
turned = 2 ∷ 1 ∷ 0 ∷ 1 ∷ 4 ∷ 3 ∷ []

abbrev looped : Plan
looped = 2 ∷ 1 ∷ 1 ∷ 1 ∷ 3 ∷ 4 ∷ []

abbrev a : List ℕ
a = 97 ∷ []

abbrev ab : List ℕ
ab = 97 ∷ 98 ∷ []

abbrev wake : ℕ → Call
wake v = one 1 v

abbrev hand : ℕ → Call
hand d = one 2 d

-- the Connect of module 0, handed over or not, and that of module 1
abbrev from_zero : ℕ → ℕ
from_zero handed = packed 1 none 0 handed

abbrev from_one : ℕ
from_one = packed 1 none 1 0

-- a field of `two` in 12 words; store 1 is a byte too short for any record of it, every other has room for two
abbrev begun : Console
begun = (acts (sets_up two) (record { held = held_from [] [] [] 0 (replicate 12 7); stores = λ i. cond (eqb i 1) (replicate 67 0) (replicate 160 0) })).state

-- what a list of acts comes to: the answers; the sent count and the words that wait then; the past, the points, whether each name restored was saved
pub record Rehearsal : Type 0 where
  pub answered : List ℕ
  pub sent : ℕ
  pub words : List ℕ
  pub now : Past
  pub points : List Point
  pub known : Bool

abbrev rehearsal : List Act → Rehearsal
rehearsal l =
    let c = holds_after l begun in
    let b = noted_after l begun (first_note two) in
    record {
      answered = map (λ x. x.refusal) (act_answers l begun);
      sent = c.held.field.sent;
      words = waiting_in c.held.words;
      now = b.now;
      points = b.points;
      known = all_known l begun (first_note two);
    }

abbrev past : Plan → List Call → Past
past p l = record { plan = p; calls = l }

abbrev point : ℕ → List ℕ → Past → Point
point i name x = record { store = i; name = name; past = x }

pub act-samples : map rehearsal
    -- back to the save, and on from there
    ((calls (wake 0) ∷ saves 0 a ∷ calls (hand 0) ∷ restores 0 a ∷ calls (wake 1) ∷ [])
    -- saved twice under one name: the later one, from another field in between; the earlier save is gone
    ∷ (saves 0 a ∷ calls (wake 0) ∷ saves 0 a ∷ sets_up turned ∷ calls (wake 1) ∷ restores 0 a ∷ [])
    -- one name in two stores, two names in one store
    ∷ (calls (wake 0) ∷ saves 0 a ∷ calls (hand 0) ∷ saves 2 a ∷ saves 0 ab ∷ restores 0 a ∷ [])
    ∷ (calls (wake 0) ∷ saves 0 a ∷ calls (hand 0) ∷ saves 2 a ∷ restores 0 a ∷ restores 2 a ∷ [])
    -- a new setup ends the past, its saves stay
    ∷ (calls (wake 0) ∷ saves 0 a ∷ sets_up turned ∷ calls (wake 1) ∷ finds 0 a ∷ [])
    -- what is refused: no room, no name, not held, a plan, a call; nothing but the call is noted
    ∷ (saves 1 a ∷ saves 0 [] ∷ restores 0 a ∷ finds 0 a ∷ sets_up looped ∷ calls (wake 7) ∷ calls (wake 0) ∷ [])
    ∷ [])
    ≡ record { answered = replicate 5 0; sent = 2; words = from_zero 0 ∷ from_one ∷ []; now = past two (wake 0 ∷ wake 1 ∷ []); points = point 0 a (past two (wake 0 ∷ [])) ∷ []; known = true }
    ∷ record {
      answered = replicate 6 0;
      sent = 1;
      words = from_zero 0 ∷ [];
      now = past two (wake 0 ∷ []);
      points = point 0 a (past two (wake 0 ∷ [])) ∷ point 0 a (past two []) ∷ [];
      known = true;
    }
    ∷ record {
      answered = replicate 6 0;
      sent = 1;
      words = from_zero 0 ∷ [];
      now = past two (wake 0 ∷ []);
      points = point 0 ab (past two (wake 0 ∷ hand 0 ∷ [])) ∷ point 2 a (past two (wake 0 ∷ hand 0 ∷ [])) ∷ point 0 a (past two (wake 0 ∷ [])) ∷ [];
      known = true;
    }
    ∷ record {
      answered = replicate 6 0;
      sent = 1;
      words = from_zero 1 ∷ [];
      now = past two (wake 0 ∷ hand 0 ∷ []);
      points = point 2 a (past two (wake 0 ∷ hand 0 ∷ [])) ∷ point 0 a (past two (wake 0 ∷ [])) ∷ [];
      known = true;
    }
    ∷ record { answered = replicate 5 0; sent = 1; words = from_one ∷ []; now = past turned (wake 1 ∷ []); points = point 0 a (past two (wake 0 ∷ [])) ∷ []; known = true }
    ∷ record { answered = 78 ∷ 77 ∷ 77 ∷ 77 ∷ 16 ∷ 41 ∷ 0 ∷ []; sent = 1; words = from_zero 0 ∷ []; now = past two (wake 7 ∷ wake 0 ∷ []); points = []; known = true }
    ∷ []
unfolding base1.upd base2.place base3.log2-to base3.log2 base4.then base4.loop base5.every base5.same_list base6.tabulate base7.before_by graph1.label graph1.joined_over message1.parts_of message1.msg_of message2.bare message2.listed_as message2.listed plan1.ascends plan1.in_order plan1.link_verdict plan1.links_refusal plan1.plan_refusal plan2.cost plan2.earlier plan3.padded plan3.trimmed file1.bytes_of file1.encode file1.decode file2.head_verdict file2.read_refusal node1.wake_on node1.awake node1.do_report node1.test_on node1.change_root node1.count_up node1.absorb node1.core_end node1.on_connect node1.seek node1.on_initiate node1.on_test node1.child_report node1.core_report node1.on_report node1.unless_asleep node1.respond_to node2.earliest node2.number node2.on_each field0.is_own field0.end_of field0.marks_in field1.new_marks field2.carry_out field2.wake field2.hand field2.back_of field2.serve field2.step field3.all_of field3.waiting_in field3.word_fits field3.node_fits field3.fits field4.valid field4.fresh_cells field4.set_up field4.step_alone calls3.does store1.whole store1.records_by store1.joined store2.name_fits store2.name_in store2.body_in store2.spot_from store2.without_first store3.entry_at store3.mark_places store3.places_below store3.field_bytes store3.word_bytes store3.record_bytes store3.record_with store4.plan_bytes store4.behind_plan store4.poured store4.held_in store4.record_fits store5.records_fit store5.store_fits store5.saved store5.save_refusal store5.save_point store5.find_refusal store5.find_point store5.restore_refusal store5.restore_point store6.acts store6.was_saved store6.past_of store6.noted store6.known store6.holds_after store6.noted_after store6.all_known store6.act_answers
act-samples = refl

-- a store that held the name before the list began: restored as it is, in another store, after a known one
abbrev stocked : Console
stocked = holds_after (saves 0 a ∷ []) begun

pub unknown-samples : map (λ l. all_known l stocked (first_note two))
    ((restores 0 a ∷ []) ∷ (saves 2 a ∷ restores 0 a ∷ []) ∷ (saves 0 ab ∷ restores 0 ab ∷ restores 0 a ∷ []) ∷ (restores 0 a ∷ saves 0 a ∷ []) ∷ (saves 0 a ∷ restores 0 a ∷ []) ∷ [])
    ≡ false ∷ false ∷ false ∷ false ∷ true ∷ []
unfolding base1.upd base2.place base3.log2-to base3.log2 base4.then base4.loop base5.every base5.same_list base6.tabulate base7.before_by graph1.label graph1.joined_over message1.parts_of message1.msg_of message2.bare message2.listed_as message2.listed plan1.ascends plan1.in_order plan1.link_verdict plan1.links_refusal plan1.plan_refusal plan2.cost plan2.earlier plan3.padded plan3.trimmed file1.bytes_of file1.encode file1.decode file2.head_verdict file2.read_refusal node1.wake_on node1.awake node1.do_report node1.test_on node1.change_root node1.count_up node1.absorb node1.core_end node1.on_connect node1.seek node1.on_initiate node1.on_test node1.child_report node1.core_report node1.on_report node1.unless_asleep node1.respond_to node2.earliest node2.number node2.on_each field0.is_own field0.end_of field0.marks_in field1.new_marks field2.carry_out field2.wake field2.hand field2.back_of field2.serve field2.step field3.all_of field3.waiting_in field3.word_fits field3.node_fits field3.fits field4.valid field4.fresh_cells field4.set_up field4.step_alone calls3.does store1.whole store1.records_by store1.joined store2.name_fits store2.name_in store2.body_in store2.spot_from store2.without_first store3.entry_at store3.mark_places store3.places_below store3.field_bytes store3.word_bytes store3.record_bytes store3.record_with store4.plan_bytes store4.behind_plan store4.poured store4.held_in store4.record_fits store5.records_fit store5.store_fits store5.saved store5.save_refusal store5.save_point store5.find_refusal store5.find_point store5.restore_refusal store5.restore_point store6.acts store6.was_saved store6.past_of store6.noted store6.known store6.holds_after store6.noted_after store6.all_known store6.act_answers
unknown-samples = refl

-- ---- answers

-- "31, 32, 33 cannot"
pub never-answered : (x : Act) (r : ℕ) → 31 ≤ r → r ≤ 33 → ¬ MayAnswer x r
never-answered (sets_up p) r l h (inl e) = omega (arith, l, e)
never-answered (sets_up p) r l h (inr (inl k)) = omega (arith, l, k.1)
never-answered (sets_up p) r l h (inr (inr e)) = omega (arith, l, e)
never-answered (calls c) r l h e = never-allowed c r l h e
never-answered (saves i name) r l h (inl e) = omega (arith, l, e)
never-answered (saves i name) r l h (inr k) = omega (arith, h, k.0)
never-answered (finds i name) r l h (inl e) = omega (arith, l, e)
never-answered (finds i name) r l h (inr k) = omega (arith, h, k.0)
never-answered (restores i name) r l h (inl e) = omega (arith, l, e)
never-answered (restores i name) r l h (inr (inl k)) = omega (arith, h, k.0)
never-answered (restores i name) r l h (inr (inr e)) = omega (arith, l, e)

-- 78 is of saves alone, 21 of setups and restores
pub room-is-for-saves : (i : ℕ) (name : List ℕ) → (¬ MayAnswer (finds i name) 78) × (¬ MayAnswer (restores i name) 78) × (¬ MayAnswer (saves i name) 21) × (¬ MayAnswer (finds i name) 21)
room-is-for-saves i name = (λ e. find78 e, λ e. restore78 e, λ e. save21 e, λ e. find21 e)
  where
    find78 : ¬ MayAnswer (finds i name) 78
    find78 (inl e) = omega (arith, e)
    find78 (inr k) = omega (arith, k.1)

    restore78 : ¬ MayAnswer (restores i name) 78
    restore78 (inl e) = omega (arith, e)
    restore78 (inr (inl k)) = omega (arith, k.1)
    restore78 (inr (inr e)) = omega (arith, e)

    save21 : ¬ MayAnswer (saves i name) 21
    save21 (inl e) = omega (arith, e)
    save21 (inr k) = omega (arith, k.0)

    find21 : ¬ MayAnswer (finds i name) 21
    find21 (inl e) = omega (arith, e)
    find21 (inr k) = omega (arith, k.0)
