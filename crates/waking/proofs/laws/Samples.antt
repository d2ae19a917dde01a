-- Samples of request 05, computed on a triangle: every module's values after rounds to rest, who was woken and by which link, the chains
-- (`waking-samples`).
use Rattle.std.specs.Prelude.{ℕ, ◌≡◌, refl, List, [], ◌∷◌, map, replicate}
use Rattle.base.specs.None.{none}
use Rattle.plan.proofs.laws.Samples.{worse_reading}
use Rattle.node.specs.Work.{setup, values}
use Rattle.field.specs.State.{node_at}
use Rattle.field.specs.Held.{Held, state_of, set_up}
use Rattle.field_calls.specs.Call.{Call, one, run, rounds, after}
use Rattle.field_calls.specs.Trail.{trail, woken_in}
use Rattle.waking.specs.Claim.{waking_link, waking_in, by_wake_steps, chain_from}
use Rattle.base.specs.Cond as base1
use Rattle.base.specs.Keep as base2
use Rattle.base.specs.Log as base3
use Rattle.base.specs.Loop as base4
use Rattle.base.specs.Test as base5
use Rattle.base.specs.Table as base6
use Rattle.base.specs.None as base7
use Rattle.graph.specs.Decide as graph1
use Rattle.format_message.specs.Header as message1
use Rattle.format_message.specs.Listed as message2
use Rattle.plan.specs.Refusal as plan1
use Rattle.plan.specs.Trimmed as plan3
use Rattle.plan.specs.Weights as plan2
use Rattle.node.specs.Rules as node1
use Rattle.node.specs.Work as node2
use Rattle.field.specs.Edges as field0
use Rattle.field.specs.State as field1
use Rattle.field.specs.Step as field2
use Rattle.field.specs.Valid as field3
use Rattle.field.specs.Held as field4
use Rattle.field_calls.specs.Schedule as calls1
use Rattle.field_calls.specs.Rounds as calls2
use Rattle.field_calls.specs.Call as calls3
use Rattle.field_calls.specs.Trail as calls4

-- The triangle of links 0-1 (readings 3, 3), 0-2 (0, 5) and 1-2 (4, 0): M is 21, its tree is links 0 and 2.
abbrev begun : Held
begun = (set_up worse_reading (replicate 21 0)).state

pub record WakingRow : Type 0 where
  pub calls : List Call
  -- each module's values; who was woken, and by wake steps; the waking links by the steps taken; the chain from each module
  pub shown : List (List ℕ)
  pub woken : List ℕ
  pub roots : List ℕ
  pub links : List ℕ
  pub chains : List (List ℕ)

abbrev computed : List Call → WakingRow
computed calls =
    let s = state_of (after calls begun) in
    let l = trail calls begun in
    record {
      calls = calls;
      shown = values (node_at s 0) ∷ values (node_at s 1) ∷ values (node_at s 2) ∷ [];
      woken = woken_in worse_reading l;
      roots = by_wake_steps l;
      links = map (waking_in worse_reading l) (0 ∷ 1 ∷ 2 ∷ []);
      chains = map (chain_from worse_reading s 3) (0 ∷ 1 ∷ 2 ∷ []);
    }

abbrev asleep : List ℕ
asleep = values setup

abbrev rows : List WakingRow
rows =
    -- module 0 is woken, and rounds come to rest: 2 was woken by a Test over link 1, which is no tree link
    record {
      calls = one 1 0 ∷ (rounds 20 ∷ []);
      shown =
          (2 ∷ 1 ∷ 0 ∷ none ∷ none ∷ none ∷ 0 ∷ 0 ∷ 1 ∷ none ∷ [])
          ∷ (2 ∷ 1 ∷ 0 ∷ none ∷ none ∷ none ∷ 0 ∷ 0 ∷ 1 ∷ 0 ∷ [])
          ∷ (2 ∷ 1 ∷ 0 ∷ none ∷ none ∷ none ∷ 2 ∷ 0 ∷ 0 ∷ 1 ∷ []) ∷ [];
      woken = 0 ∷ 1 ∷ 2 ∷ [];
      roots = 0 ∷ [];
      links = none ∷ 0 ∷ 1 ∷ [];
      chains = (0 ∷ []) ∷ (1 ∷ 0 ∷ []) ∷ (2 ∷ 0 ∷ []) ∷ [];
    }
    -- two are woken by wake steps, refused ones among them; 0 serves 1's Connect and keeps none
    ∷ record {
      calls = one 1 0 ∷ (one 1 0 ∷ (one 1 1 ∷ (one 1 7 ∷ (one 2 1 ∷ (one 3 0 ∷ [])))));
      shown =
          (2 ∷ 0 ∷ none ∷ none ∷ none ∷ none ∷ none ∷ 0 ∷ 0 ∷ none ∷ [])
          ∷ (2 ∷ 0 ∷ none ∷ none ∷ none ∷ none ∷ none ∷ 0 ∷ 0 ∷ none ∷ [])
          ∷ asleep ∷ [];
      woken = 0 ∷ 1 ∷ [];
      roots = 0 ∷ 1 ∷ [];
      links = none ∷ none ∷ none ∷ [];
      chains = (0 ∷ []) ∷ (1 ∷ []) ∷ (2 ∷ []) ∷ [];
    }
    -- 2 is woken, its Connect over link 2 wakes 1 in a run; nobody wakes 0
    ∷ record {
      calls = run (1 ∷ 0 ∷ 9 ∷ 1 ∷ 0 ∷ 2 ∷ 2 ∷ 0 ∷ 5 ∷ 3 ∷ 0 ∷ 1 ∷ []) ∷ [];
      shown =
          asleep
          ∷ (2 ∷ 0 ∷ none ∷ none ∷ none ∷ none ∷ none ∷ 0 ∷ 0 ∷ 2 ∷ [])
          ∷ (2 ∷ 0 ∷ none ∷ none ∷ none ∷ none ∷ none ∷ 0 ∷ 0 ∷ none ∷ []) ∷ [];
      woken = 2 ∷ 1 ∷ [];
      roots = 2 ∷ [];
      links = none ∷ 2 ∷ none ∷ [];
      chains = (0 ∷ []) ∷ (1 ∷ 2 ∷ []) ∷ (2 ∷ []) ∷ [];
    }
    ∷ []

pub waking-samples : map (λ r. computed r.calls) rows ≡ rows
unfolding waking_link waking_in chain_from base1.upd base2.keep base2.place base2.many base3.log2-to base3.log2 base4.then base4.loop base4.runs base4.loop_trace base4.runs_trace base5.every graph1.label graph1.joined_over message1.parts_of message1.msg_of message2.bare message2.listed_as message2.listed plan1.ascends plan1.in_order plan1.link_verdict plan1.links_refusal plan1.plan_refusal base7.before_by plan2.cost plan2.earlier node1.wake_on node1.awake node1.do_report node1.test_on node1.change_root node1.count_up node1.absorb node1.core_end node1.on_connect node1.seek node1.on_initiate node1.on_test node1.child_report node1.core_report node1.on_report node1.unless_asleep node1.respond_to node2.earliest node2.number node2.on_each field0.is_own field0.end_of field0.marks_in field1.new_marks field2.carry_out field2.wake field2.hand field2.back_of field2.serve field2.step field3.all_of field3.waiting_in field3.word_fits field3.node_fits field3.fits field4.valid field4.fresh_cells field4.set_up plan3.padded plan3.trimmed base6.tabulate field4.step_alone calls1.schedule_refusal calls2.hand_turn calls2.serve_turn calls2.round calls3.run_bytes calls3.run_rounds calls3.does calls3.after calls4.if_taken calls4.hand_turn_steps calls4.serve_turn_steps calls4.round_steps calls4.steps_of calls4.trail calls4.wakes_one calls4.woken_in
waking-samples = refl
