-- Small runs, computed: the reporting program's two modules, document 01's sleeper that serves a Test, and refusals (`call-samples`); times of a message (`times-samples`).
use Rattle.std.specs.Prelude.{ℕ, ◌≡◌, refl, length, take}
use mathlib.Core.List.{List, [], ◌∷◌, ◌++◌, map, flat_map}
use Rattle.base.specs.None.{none}
use Rattle.format_word.specs.Word.{packed}
use Rattle.field.specs.State.{node_at}
use Rattle.field.specs.Held.{Held, state_of, set_up}
use Rattle.field_calls.specs.Call.{Call, one, run, rounds, does, after, answers}
use Rattle.field_calls.specs.Trail.{Message, times_in, trail, sent_in, consumed_in, woken_in}
use Rattle.base.specs.Cond as base1
use Rattle.base.specs.Keep as base2
use Rattle.base.specs.Log as base3
use Rattle.base.specs.Loop as base4
use Rattle.base.specs.Test as base5
use Rattle.base.specs.Table as base6
use Rattle.base.specs.None as base7
use Rattle.graph.specs.Decide as graph1
use Rattle.format_message.specs.Header as message1
use Rattle.format_message.specs.Listed as message2
use Rattle.plan.specs.Refusal as plan1
use Rattle.plan.specs.Trimmed as plan3
use Rattle.plan.specs.Weights as plan2
use Rattle.plan.specs.Links.{Plan}
use Rattle.node.specs.Rules as node1
use Rattle.node.specs.Work as node2
use Rattle.field.specs.Edges as field0
use Rattle.field.specs.State as field1
use Rattle.field.specs.Step as field2
use Rattle.field.specs.Valid as field3
use Rattle.field.specs.Held as field4
use Rattle.field_calls.specs.Schedule as calls1
use Rattle.field_calls.specs.Rounds as calls2
use Rattle.field_calls.specs.Call as calls3
use Rattle.field_calls.specs.Trail as calls4

-- 2 modules and 1 link with readings 3 and 4; the words of a setup
abbrev two : Plan
two = 2 ∷ 1 ∷ 0 ∷ 1 ∷ 3 ∷ 4 ∷ []

abbrev lent : List ℕ
lent = 7 ∷ 7 ∷ 7 ∷ 7 ∷ 7 ∷ 7 ∷ 7 ∷ 7 ∷ 7 ∷ 7 ∷ 7 ∷ 7 ∷ []

abbrev begun : Held
begun = (set_up two lent).state

-- module 0 is awake at level 1, module 1 asleep; a Test of level 1 waits for it, handed over
abbrev a_test : ℕ
a_test = packed 11 0 0 1

abbrev tested : Held
tested =
    record {
      field = record {
        plan = two;
        cells = 1 ∷ 1 ∷ 0 ∷ none ∷ none ∷ 0 ∷ none ∷ 0 ∷ 0 ∷ none ∷ 0 ∷ 0 ∷ none ∷ none ∷ none ∷ none ∷ none ∷ 0 ∷ 0 ∷ none ∷ [];
        marks = 0 ∷ 0 ∷ [];
        sent = 1;
      };
      words = a_test ∷ 0 ∷ 0 ∷ 0 ∷ 0 ∷ 0 ∷ 0 ∷ 0 ∷ 0 ∷ 0 ∷ 0 ∷ 0 ∷ [];
    }

-- what calls show: done and refusal of each; then sent, the messages sent and consumed, modules woken, marks, halted, waking links, and the words that wait
pub record Shown : Type 0 where
  pub done : List ℕ
  pub refusals : List ℕ
  pub sent : ℕ
  pub sends : List Message
  pub consumed : List Message
  pub woken : List ℕ
  pub marks : List ℕ
  pub halted : List ℕ
  pub waking : List ℕ
  pub words : List ℕ

pub record CallRow : Type 0 where
  pub start : Held
  pub calls : List Call
  pub want : Shown

unfoldable pub dones : List Call → Held → List ℕ
dones [] h = []
dones (c ∷ cs) h = (does c h).done ∷ dones cs (does c h).state

abbrev shown : List Call → Held → Shown
shown cs h =
    let l = after cs h in
    let t = trail cs h in
    record {
      done = dones cs h;
      refusals = map (λ a. a.refusal) (answers cs h);
      sent = l.field.sent;
      sends = sent_in h.field.plan t;
      consumed = consumed_in h.field.plan t;
      woken = woken_in h.field.plan t;
      marks = take 2 l.field.marks;
      halted = (node_at (state_of l) 0).halted ∷ (node_at (state_of l) 1).halted ∷ [];
      waking = (node_at (state_of l) 0).waking ∷ (node_at (state_of l) 1).waking ∷ [];
      words = (state_of l).words;
    }

-- module 0's waking link is none in all of them: a wake step woke it, or nobody
abbrev row : Held → List Call → List ℕ → List ℕ → List Message → List Message → List ℕ → List ℕ → List ℕ → ℕ → List ℕ → CallRow
row h cs done refused sends consumed woken marks halted waking words =
    record {
      start = h;
      calls = cs;
      want = record {
        done = done;
        refusals = refused;
        sent = length sends;
        sends = sends;
        consumed = consumed;
        woken = woken;
        marks = marks;
        halted = halted;
        waking = none ∷ waking ∷ [];
        words = words;
      };
    }

abbrev a_message : ℕ → ℕ → ℕ → Message
a_message link header carried = record { link = link; header = header; carried = carried }

-- the messages of the two modules: Connect and Connect, Initiate and Initiate, Report and Report
abbrev six : List Message
six = a_message 0 1 none ∷ a_message 1 1 none ∷ a_message 1 74 0 ∷ a_message 0 74 0 ∷ a_message 0 6 none ∷ a_message 1 6 none ∷ []

abbrev table : List CallRow
table =
    -- the reporting program: 6 messages, 4 rounds; both ends Branch, both halted
    row begun (one 1 0 ∷ rounds 20 ∷ []) (1 ∷ 4 ∷ []) (0 ∷ 0 ∷ []) six six (0 ∷ 1 ∷ []) (1 ∷ 1 ∷ []) (1 ∷ 1 ∷ []) 0 []
    -- the limit ends a run of rounds; a run at rest does none
    ∷ row begun (one 1 0 ∷ rounds 1 ∷ []) (1 ∷ 1 ∷ []) (0 ∷ 0 ∷ []) (take 3 six) (take 1 six) (0 ∷ 1 ∷ []) (1 ∷ 1 ∷ []) (0 ∷ 0 ∷ []) 0 (packed 1 none 1 0 ∷ packed 74 0 1 0 ∷ [])
    ∷ row begun (rounds 9 ∷ []) (0 ∷ []) (0 ∷ []) [] [] [] (0 ∷ 0 ∷ []) (0 ∷ 0 ∷ []) none []
    -- refusals of steps given alone, and of a run: the steps before the refused one stand
    ∷ row begun (one 1 2 ∷ one 2 2 ∷ one 2 0 ∷ one 3 1 ∷ one 4 0 ∷ []) (0 ∷ 0 ∷ 0 ∷ 0 ∷ 0 ∷ []) (41 ∷ 42 ∷ 44 ∷ 45 ∷ 54 ∷ []) [] [] [] (0 ∷ 0 ∷ []) (0 ∷ 0 ∷ []) none []
    -- the second wake meets what the first left
    ∷ row begun (one 1 0 ∷ one 1 0 ∷ []) (1 ∷ 0 ∷ []) (0 ∷ 43 ∷ []) (take 1 six) [] (0 ∷ []) (1 ∷ 0 ∷ []) (0 ∷ 0 ∷ []) none (packed 1 none 0 0 ∷ [])
    ∷ row begun (run (1 ∷ 0 ∷ 9 ∷ 1 ∷ 0 ∷ 0 ∷ 2 ∷ 0 ∷ 0 ∷ 1 ∷ 0 ∷ 0 ∷ []) ∷ []) (2 ∷ []) (43 ∷ []) (take 1 six) [] (0 ∷ []) (1 ∷ 0 ∷ []) (0 ∷ 0 ∷ []) none (packed 1 none 0 1 ∷ [])
    ∷ row begun (run [] ∷ run (2 ∷ 0 ∷ 0 ∷ []) ∷ run (1 ∷ 0 ∷ 2 ∷ 1 ∷ 0 ∷ []) ∷ run (1 ∷ 0 ∷ 3 ∷ 9 ∷ 0 ∷ 0 ∷ []) ∷ run (1 ∷ 0 ∷ 0 ∷ []) ∷ []) (0 ∷ 0 ∷ 0 ∷ 0 ∷ 0 ∷ []) (51 ∷ 52 ∷ 53 ∷ 54 ∷ 0 ∷ []) [] [] [] (0 ∷ 0 ∷ []) (0 ∷ 0 ∷ []) none []
    ∷ []

-- "Serving a Test of level 1 at a sleeper: it wakes, sends Connect, the Test goes to the end."
abbrev sleeper : CallRow
sleeper =
    record {
      start = tested;
      calls = one 3 1 ∷ [];
      want = record {
        done = 1 ∷ [];
        refusals = 0 ∷ [];
        sent = 2;
        sends = a_message 1 1 none ∷ [];
        consumed = [];
        woken = 1 ∷ [];
        marks = 0 ∷ 1 ∷ [];
        halted = 0 ∷ 0 ∷ [];
        waking = none ∷ 0 ∷ [];
        words = packed 1 none 1 0 ∷ a_test ∷ [];
      };
    }

abbrev gots : List CallRow → List Shown
gots l = map (λ r. shown r.calls r.start) l

abbrev wants : List CallRow → List Shown
wants l = map (λ r. r.want) l

pub call-samples : gots (sleeper ∷ table) ≡ wants (sleeper ∷ table)
unfolding dones base1.upd base2.place base3.log2-to base3.log2 base4.then base4.loop base4.runs base4.loop_trace base4.runs_trace base5.every graph1.label graph1.joined_over message1.parts_of message1.msg_of message2.bare message2.listed_as message2.listed plan1.ascends plan1.in_order plan1.link_verdict plan1.links_refusal plan1.plan_refusal base7.before_by plan2.cost plan2.earlier node1.wake_on node1.awake node1.do_report node1.test_on node1.change_root node1.count_up node1.absorb node1.core_end node1.on_connect node1.seek node1.on_initiate node1.on_test node1.child_report node1.core_report node1.on_report node1.unless_asleep node1.respond_to node2.earliest node2.number node2.on_each field0.is_own field0.end_of field0.marks_in field1.new_marks field2.carry_out field2.wake field2.hand field2.back_of field2.serve field2.step field3.all_of field3.waiting_in field3.word_fits field3.node_fits field3.fits field4.valid field4.fresh_cells field4.set_up plan3.padded plan3.trimmed base6.tabulate field4.step_alone calls1.schedule_refusal base2.many calls2.hand_turn calls2.serve_turn calls2.round calls3.run_bytes calls3.run_rounds calls3.does calls3.after calls3.answers calls4.if_taken calls4.hand_turn_steps calls4.serve_turn_steps calls4.round_steps calls4.steps_of calls4.trail flat_map calls4.sends_at calls4.consumed_at calls4.wakes_one calls4.woken_in
call-samples = refl

-- one of the six twice: a message that differs in its link, its header or its carried number alone is another
abbrev others : List Message
others = a_message 2 6 none ∷ a_message 1 7 none ∷ a_message 1 6 0 ∷ []

pub times-samples : map (λ m. times_in m (a_message 0 1 none ∷ six)) (six ++ others) ≡ 2 ∷ 1 ∷ 1 ∷ 1 ∷ 1 ∷ 1 ∷ 0 ∷ 0 ∷ 0 ∷ []
times-samples = refl
