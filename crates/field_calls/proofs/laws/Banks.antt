-- A field on two banks (request 08), computed: links 0-1 and 2-3, and module 4 without a link. Each part comes to rest by itself (`banks-samples`).
use Rattle.std.specs.Prelude.{ℕ, ◌≡◌, refl, replicate, take}
use mathlib.Core.List.{List, [], ◌∷◌, map, flat_map}
use Rattle.plan.specs.Links.{Plan}
use Rattle.field.specs.State.{node_at}
use Rattle.field.specs.Held.{Held, state_of, set_up}
use Rattle.field_calls.specs.Call.{Call, one, rounds, after}
use Rattle.field_calls.specs.Trail.{trail, woken_in}
use Rattle.base.specs.Cond as base1
use Rattle.base.specs.Keep as base2
use Rattle.base.specs.Log as base3
use Rattle.base.specs.Loop as base4
use Rattle.base.specs.Test as base5
use Rattle.base.specs.Table as base6
use Rattle.base.specs.None as base7
use Rattle.graph.specs.Decide as graph1
use Rattle.format_message.specs.Header as message1
use Rattle.format_message.specs.Listed as message2
use Rattle.plan.specs.Refusal as plan1
use Rattle.plan.specs.Trimmed as plan3
use Rattle.plan.specs.Weights as plan2
use Rattle.node.specs.Rules as node1
use Rattle.node.specs.Work as node2
use Rattle.field.specs.Edges as field0
use Rattle.field.specs.State as field1
use Rattle.field.specs.Step as field2
use Rattle.field.specs.Valid as field3
use Rattle.field.specs.Held as field4
use Rattle.field_calls.specs.Schedule as calls1
use Rattle.field_calls.specs.Rounds as calls2
use Rattle.field_calls.specs.Call as calls3
use Rattle.field_calls.specs.Trail as calls4

abbrev banks : Plan
banks = 5 ∷ 2 ∷ 0 ∷ 1 ∷ 3 ∷ 3 ∷ 2 ∷ 3 ∷ 0 ∷ 5 ∷ []

abbrev set : Held
set = (set_up banks (replicate 54 7)).state

-- what calls leave: modules woken, the marks of both links, who has halted, messages sent, words that wait
pub record BanksLeft : Type 0 where
  pub woken : List ℕ
  pub marks : List ℕ
  pub halted : List ℕ
  pub sent : ℕ
  pub words : List ℕ

abbrev left : List Call → BanksLeft
left cs =
    let h = after cs set in
    record {
      woken = woken_in set.field.plan (trail cs set);
      marks = take 4 h.field.marks;
      halted = map (λ v. (node_at (state_of h) v).halted) (0 ∷ 1 ∷ 2 ∷ 3 ∷ 4 ∷ []);
      sent = h.field.sent;
      words = (state_of h).words;
    }

abbrev leaves : List ℕ → List ℕ → List ℕ → ℕ → BanksLeft
leaves woken marks halted sent = record { woken = woken; marks = marks; halted = halted; sent = sent; words = [] }

-- all parts woken; only module 2's, and only the part of one: the others are as at setup; nobody woken
pub banks-samples : map left ((one 1 0 ∷ one 1 2 ∷ one 1 4 ∷ rounds 9 ∷ []) ∷ (one 1 2 ∷ rounds 9 ∷ []) ∷ (one 1 4 ∷ rounds 9 ∷ []) ∷ (rounds 9 ∷ []) ∷ [])
    ≡ leaves (0 ∷ 2 ∷ 4 ∷ 1 ∷ 3 ∷ []) (1 ∷ 1 ∷ 1 ∷ 1 ∷ []) (1 ∷ 1 ∷ 1 ∷ 1 ∷ 1 ∷ []) 12
    ∷ leaves (2 ∷ 3 ∷ []) (0 ∷ 0 ∷ 1 ∷ 1 ∷ []) (0 ∷ 0 ∷ 1 ∷ 1 ∷ 0 ∷ []) 6
    ∷ leaves (4 ∷ []) (0 ∷ 0 ∷ 0 ∷ 0 ∷ []) (0 ∷ 0 ∷ 0 ∷ 0 ∷ 1 ∷ []) 0
    ∷ leaves [] (0 ∷ 0 ∷ 0 ∷ 0 ∷ []) (0 ∷ 0 ∷ 0 ∷ 0 ∷ 0 ∷ []) 0
    ∷ []
unfolding base1.upd base2.place base3.log2-to base3.log2 base4.then base4.loop base4.runs base4.loop_trace base4.runs_trace base5.every graph1.label graph1.joined_over message1.parts_of message1.msg_of message2.bare message2.listed_as message2.listed plan1.ascends plan1.in_order plan1.link_verdict plan1.links_refusal plan1.plan_refusal base7.before_by plan2.cost plan2.earlier node1.wake_on node1.awake node1.do_report node1.test_on node1.change_root node1.count_up node1.absorb node1.core_end node1.on_connect node1.seek node1.on_initiate node1.on_test node1.child_report node1.core_report node1.on_report node1.unless_asleep node1.respond_to node2.earliest node2.number node2.on_each field0.is_own field0.end_of field0.marks_in field1.new_marks field2.carry_out field2.wake field2.hand field2.back_of field2.serve field2.step field3.all_of field3.waiting_in field3.word_fits field3.node_fits field3.fits field4.valid field4.fresh_cells field4.set_up plan3.padded plan3.trimmed base6.tabulate field4.step_alone calls1.schedule_refusal base2.many calls2.hand_turn calls2.serve_turn calls2.round calls3.run_bytes calls3.run_rounds calls3.does calls3.after calls3.answers calls4.if_taken calls4.hand_turn_steps calls4.serve_turn_steps calls4.round_steps calls4.steps_of calls4.trail flat_map calls4.sends_at calls4.consumed_at calls4.wakes_one calls4.woken_in
banks-samples = refl
