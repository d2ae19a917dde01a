-- Samples of the reporting program, computed: document 01's, its cost by request 03 (`sample`); by request 08 two modules without a link (`sample-apart`), and two
-- banks of two modules each (`sample-banks`).
use Rattle.std.specs.Prelude.{ℕ, ◌≤◌, ◌≡◌, refl, true, cond, not, replicate}
use Rattle.std.proofs.Common.{arith, sym, ap, ◌∙◌}
use mathlib.Core.List.{List, [], ◌∷◌, flat_map}
use Rattle.base.proofs.laws.Loop.{went, runs-rest}
use Rattle.format_text.specs.Ascii.{ascii}
use Rattle.field.specs.State.{State}
use Rattle.field.specs.Held.{Held, state_of, valid, set_up}
use Rattle.field.specs.Edges.{ceiling_of}
use Rattle.plan_file.specs.Reading.{read_plan}
use Rattle.plan_file.specs.Layout.{decode}
use Rattle.field_calls.specs.Rounds.{round, at_rest, rounds_run}
use Rattle.field_calls.specs.Call.{refused_run, laid_back, run_bytes, run_rounds}
use Rattle.host_job.specs.Job as job1
use Rattle.host_job.specs.Job.{job_wakes}
use Rattle.host_job.proofs.laws.Agrees.{job_is}
use Rattle.text_owed.specs.Reported.{job_text, reported}
use Rattle.text_owed.proofs.laws.Reported.{plan-taken}
use Rattle.base.specs.Cond as base1
use Rattle.base.specs.Keep as base2
use Rattle.base.specs.Log as base3
use Rattle.base.specs.Loop as base4
use Rattle.base.specs.Test as base5
use Rattle.base.specs.None as base7
use Rattle.graph.specs.Decide as graph1
use Rattle.graph.specs.Parts as parts1
use Rattle.format_message.specs.Header as message1
use Rattle.format_message.specs.Listed as message2
use Rattle.plan.specs.Refusal as plan1
use Rattle.plan.specs.Trimmed as plan3
use Rattle.plan.specs.Weights as plan2
use Rattle.node.specs.Rules as node1
use Rattle.node.specs.Work as node2
use Rattle.field.specs.Edges as field0
use Rattle.field.specs.State as field1
use Rattle.field.specs.Step as field2
use Rattle.field.specs.Valid as field3
use Rattle.field.specs.Held as field4
use Rattle.field_calls.specs.Schedule as calls1
use Rattle.field_calls.specs.Rounds as calls2
use Rattle.field_calls.specs.Call as calls3
use Rattle.base.specs.Table as base6
use Rattle.plan_file.specs.Layout as planfile1
use Rattle.plan_file.specs.Reading as planfile2
use Rattle.format_text.specs.Decimal as text1
use Rattle.plan.specs.Links.{Plan}
use Rattle.text_report.specs.Total as report1
use Rattle.text_report.specs.Text as report2

-- "For bytes 01 00 0C 00 02 00 01 00 00 00 01 00 03 00 04"
abbrev pub given : List ℕ
given = 0x01 ∷ 0x00 ∷ 0x0c ∷ 0x00 ∷ 0x02 ∷ 0x00 ∷ 0x01 ∷ 0x00 ∷ 0x00 ∷ 0x00 ∷ 0x01 ∷ 0x00 ∷ 0x03 ∷ 0x00 ∷ 0x04 ∷ []

-- "it prints exactly", with request 03's: "The sample plan prints "branch 0 1 4" and "total 4""
abbrev pub printed : List ℕ
printed = ascii "modules 2\nlinks 1\nbranch 0 1 4\ntotal 4\ncore 0 1\nmessages 6 of 12\nrounds 4\n"

-- request 08: "the sample of two modules without a link is now accepted"
abbrev pub apart_given : List ℕ
apart_given = 0x01 ∷ 0x00 ∷ 0x04 ∷ 0x00 ∷ 0x02 ∷ 0x00 ∷ 0x00 ∷ []

abbrev pub apart_printed : List ℕ
apart_printed = ascii "modules 2\nlinks 0\ntotal 0\ncore none\ncore none\nmessages 0 of 10\nrounds 0\n"

-- "Fields on both banks of a river": links 0-1, of readings 3 and 3, and 2-3, of 0 and 5
abbrev pub banks_given : List ℕ
banks_given = 0x01 ∷ 0x00 ∷ 0x14 ∷ 0x00 ∷ 0x04 ∷ 0x00 ∷ 0x02
    ∷ 0x00 ∷ 0x00 ∷ 0x00 ∷ 0x01 ∷ 0x00 ∷ 0x03 ∷ 0x00 ∷ 0x03 ∷ 0x00 ∷ 0x02 ∷ 0x00 ∷ 0x03 ∷ 0x00 ∷ 0x00 ∷ 0x00 ∷ 0x05 ∷ []

abbrev pub banks_printed : List ℕ
banks_printed = ascii "modules 4\nlinks 2\nbranch 0 1 3\nbranch 2 3 5\ntotal 8\ncore 0 1\ncore 2 3\nmessages 12 of 44\nrounds 4\n"

-- what comes to rest within k rounds does the same with a higher limit
stays : (h : Held) (k n : ℕ) (y : State) → k ≤ n → rounds_run h.field.plan k (state_of h) ≡ went k y → at_rest y ≡ true → run_rounds n h ≡ run_rounds k h
unfolding run_rounds
stays h k n y l d r =
    ap (λ x. cond (not (valid h)) (refused_run 31 h) (laid_back h x)) (runs-rest at_rest (λ i. round h.field.plan) k (state_of h) y d n l r ∙ sym d)

-- of bytes, over m words, in k rounds
module _ (bytes text : List ℕ) (m k : ℕ) where
  abbrev lent : List ℕ
  lent = replicate m 0

  abbrev p : Plan
  p = decode bytes

  -- the field once the lowest module of each part is awake
  abbrev woken : Held
  woken = (run_bytes (job_wakes p) (set_up p lent).state).state

  abbrev rest : State
  rest = (rounds_run woken.field.plan k (state_of woken)).state

  -- what is computed: the plan is read and set up, so many rounds come to rest, and their text
  record Computed : Type 0 where
    taken : record { refusal = 0; plan = p } ≡ read_plan bytes
    words : lent ≡ replicate (ceiling_of p) 0
    set : (set_up p lent).refusal ≡ 0
    rounds : rounds_run woken.field.plan k (state_of woken) ≡ went k rest
    still : at_rest rest ≡ true
    shown : job_text (run_rounds k woken) ≡ text

  prints : k ≤ 65535 → Computed → reported bytes ≡ text
  prints l c =
      plan-taken (record { refusal = 0; plan = p }) (read_plan bytes) c.taken refl lent c.words
      ∙ ap job_text (job_is p lent c.set ∙ stays woken k 65535 rest l c.rounds c.still)
      ∙ c.shown

computed : Computed given printed 12 4 × Computed apart_given apart_printed 10 0 × Computed banks_given banks_printed 44 4
unfolding flat_map job_text job1.wake_steps parts1.together parts1.lowest parts1.lowests parts1.part_nodes text1.decimal report1.total report2.branch_text report2.branch_lines report2.end_text report2.ends_text report2.part_text report2.core_text report2.report_text planfile1.decode planfile2.head_verdict planfile2.read_refusal planfile2.read_plan base6.tabulate base6.upto base1.upd base2.place base3.log2-to base3.log2 base4.then base4.loop base4.runs base5.every graph1.label graph1.joined_over message1.parts_of message1.msg_of message2.bare message2.listed_as message2.listed plan1.ascends plan1.in_order plan1.link_verdict plan1.links_refusal plan1.plan_refusal base7.before_by plan2.cost plan2.earlier node1.wake_on node1.awake node1.do_report node1.test_on node1.change_root node1.count_up node1.absorb node1.core_end node1.on_connect node1.seek node1.on_initiate node1.on_test node1.child_report node1.core_report node1.on_report node1.unless_asleep node1.respond_to node2.earliest node2.number node2.on_each field0.is_own field0.end_of field0.marks_in field1.new_marks field2.carry_out field2.wake field2.hand field2.back_of field2.serve field2.step field3.all_of field3.waiting_in field3.word_fits field3.node_fits field3.fits field4.valid field4.fresh_cells field4.set_up plan3.padded plan3.trimmed base2.many calls1.schedule_refusal calls2.hand_turn calls2.serve_turn calls2.round calls3.run_bytes calls3.run_rounds calls3.does
computed = (
  record { taken = refl; words = refl; set = refl; rounds = refl; still = refl; shown = refl },
  record { taken = refl; words = refl; set = refl; rounds = refl; still = refl; shown = refl },
  record { taken = refl; words = refl; set = refl; rounds = refl; still = refl; shown = refl },
)

pub sample : reported given ≡ printed
sample = prints given printed 12 4 (omega arith) computed.0

pub sample-apart : reported apart_given ≡ apart_printed
sample-apart = prints apart_given apart_printed 10 0 (omega arith) computed.1

pub sample-banks : reported banks_given ≡ banks_printed
sample-banks = prints banks_given banks_printed 44 4 (omega arith) computed.2
