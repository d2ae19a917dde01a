-- Steps given alone, computed: document 01's sleeper that serves a Test, each kind of step taken, each refusal (`step-samples`); what 31 says of a waking link
-- (`waking-31`).
use Rattle.std.specs.Prelude.{ℕ, ◌≡◌, refl, Bool, true, false, List, [], ◌∷◌, ◌++◌, map}
use Rattle.base.specs.None.{none}
use Rattle.base.specs.Loop.{After}
use Rattle.format_word.specs.Word.{packed}
use Rattle.plan.proofs.laws.Samples.{worse_reading}
use Rattle.field.specs.Held.{Held, step_alone}
use Rattle.base.specs.Cond as base1
use Rattle.base.specs.Keep as base2
use Rattle.base.specs.Log as base3
use Rattle.base.specs.Test as base5
use Rattle.base.specs.None as base7
use Rattle.graph.specs.Decide as graph1
use Rattle.format_message.specs.Header as message1
use Rattle.format_message.specs.Listed as message2
use Rattle.plan.specs.Refusal as plan1
use Rattle.plan.specs.Weights as plan2
use Rattle.plan.specs.Links.{Plan}
use Rattle.node.specs.Rules as node1
use Rattle.node.specs.Work as node2
use Rattle.field.specs.Edges as field0
use Rattle.field.specs.State as field1
use Rattle.field.specs.Step as field2
use Rattle.field.specs.Valid as field3
use Rattle.field.specs.Held as field4

-- 2 modules and 1 link with readings 3 and 4: M is 12
abbrev two : Plan
two = 2 ∷ 1 ∷ 0 ∷ 1 ∷ 3 ∷ 4 ∷ []

-- the words that can wait here
abbrev a_connect : ℕ → ℕ → ℕ
a_connect link handed = packed 1 none link handed

abbrev a_test : ℕ → ℕ → ℕ
a_test link handed = packed 11 0 link handed

abbrev an_accept : ℕ → ℕ → ℕ
an_accept link handed = packed 4 none link handed

-- modules: asleep; woken by a message over link j or by none, its Connect sent; of level 1, searching
abbrev asleep : List ℕ
asleep = 0 ∷ 0 ∷ none ∷ none ∷ none ∷ none ∷ none ∷ 0 ∷ 0 ∷ none ∷ []

abbrev woken : ℕ → List ℕ
woken j = 2 ∷ 0 ∷ none ∷ none ∷ none ∷ none ∷ none ∷ 0 ∷ 0 ∷ j ∷ []

abbrev searching : List ℕ
searching = 1 ∷ 1 ∷ 0 ∷ none ∷ none ∷ 0 ∷ none ∷ 0 ∷ 0 ∷ none ∷ []

-- modules 0 and 1, the two marks, sent, the waiting words
abbrev held : List ℕ → List ℕ → ℕ → ℕ → ℕ → List ℕ → Held
held a b m n sent words =
    record { field = record { plan = two; cells = a ++ b; marks = m ∷ n ∷ []; sent = sent }; words = field4.layout 12 words }

pub record StepRow : Type 0 where
  pub start : Held
  pub kind : ℕ
  pub number : ℕ
  pub want : After Held

abbrev row : Held → ℕ → ℕ → ℕ → Held → StepRow
row h kind number refusal left = record { start = h; kind = kind; number = number; want = record { refusal = refusal; state = left } }

-- refused: what it was given is left
abbrev no : ℕ → Held → ℕ → ℕ → StepRow
no refusal h kind number = row h kind number refusal h

abbrev table : List StepRow
table =
    -- "Serving a Test of level 1 at a sleeper: it wakes, sends Connect, the Test goes to the end."
    row (held searching asleep 0 0 1 (a_test 0 1 ∷ [])) 3 1 0 (held searching (woken 0) 0 1 2 (a_connect 1 0 ∷ a_test 0 1 ∷ []))
    -- a Test above the level of one that is awake goes to the end, and nothing else changes
    ∷ row (held searching (woken 0) 0 1 3 (a_test 0 1 ∷ a_connect 1 0 ∷ [])) 3 1 0 (held searching (woken 0) 0 1 3 (a_connect 1 0 ∷ a_test 0 1 ∷ []))
    -- wake; hand over the first of its link, behind what waits, and one that is not the first that waits; a service takes its word out, here with a Report of the edge
    ∷ row (held asleep asleep 0 0 0 []) 1 0 0 (held (woken none) asleep 1 0 1 (a_connect 0 0 ∷ []))
    ∷ row (held (woken none) (woken 0) 1 1 2 (a_connect 0 0 ∷ a_connect 1 0 ∷ [])) 2 0 0 (held (woken none) (woken 0) 1 1 2 (a_connect 1 0 ∷ a_connect 0 1 ∷ []))
    ∷ row (held (woken none) (woken 0) 1 1 2 (a_connect 0 0 ∷ a_connect 1 0 ∷ [])) 2 1 0 (held (woken none) (woken 0) 1 1 2 (a_connect 0 0 ∷ a_connect 1 1 ∷ []))
    ∷ row (held (1 ∷ 1 ∷ 0 ∷ none ∷ none ∷ 0 ∷ 0 ∷ 0 ∷ 0 ∷ none ∷ []) (woken 0) 0 0 3 (an_accept 1 1 ∷ a_connect 1 0 ∷ [])) 3 0 0
    (held (2 ∷ 1 ∷ 0 ∷ 0 ∷ 0 ∷ none ∷ 0 ∷ 0 ∷ 0 ∷ none ∷ []) (woken 0) 0 0 4 (a_connect 1 0 ∷ packed 6 0 0 0 ∷ []))
    -- waking links in a circle, as a host may have them
    ∷ row (held (woken 0) (woken 0) 1 1 2 (a_connect 0 0 ∷ [])) 2 0 0 (held (woken 0) (woken 0) 1 1 2 (a_connect 0 1 ∷ []))
    -- refusals, in their order
    ∷ no 31 (held (3 ∷ 0 ∷ none ∷ none ∷ none ∷ none ∷ none ∷ 0 ∷ 0 ∷ none ∷ []) asleep 0 0 0 []) 9 0
    ∷ no 31 (held asleep asleep 0 3 0 []) 1 0
    -- a waking link that is no link; a sleeper's that is one
    ∷ no 31 (held (woken 1) asleep 1 0 1 []) 1 1
    ∷ no 31 (held (0 ∷ 0 ∷ none ∷ none ∷ none ∷ none ∷ none ∷ 0 ∷ 0 ∷ 0 ∷ []) asleep 0 0 0 []) 1 1
    ∷ no 31 (held asleep asleep 0 0 0 (a_connect 0 0 ∷ [])) 1 0
    ∷ no 31 (held asleep asleep 0 0 1 (a_connect 2 0 ∷ [])) 1 0
    ∷ no 31 (held asleep asleep 0 0 2 (a_connect 0 0 ∷ 0 ∷ a_connect 0 0 ∷ [])) 1 0
    ∷ no 31 (held asleep asleep 0 0 13 []) 1 0
    ∷ no 54 (held asleep asleep 0 0 0 []) 0 7
    ∷ no 41 (held asleep asleep 0 0 0 []) 1 2
    ∷ no 41 (held asleep asleep 0 0 0 []) 3 2
    ∷ no 42 (held asleep asleep 0 0 0 []) 2 2
    ∷ no 43 (held (woken none) asleep 1 0 1 []) 1 0
    ∷ no 44 (held (woken none) asleep 1 0 1 (a_connect 0 1 ∷ [])) 2 0
    ∷ no 45 (held (woken none) asleep 1 0 1 (a_connect 0 0 ∷ [])) 3 1
    ∷ no 32 (held asleep asleep 0 0 1 (an_accept 0 1 ∷ [])) 3 1
    ∷ no 33 (held asleep asleep 0 0 12 []) 1 0
    -- a sleeper that a refused service would have woken
    ∷ no 33 (held (woken none) asleep 1 0 12 (a_connect 0 1 ∷ [])) 3 1
    ∷ []

abbrev gots : List StepRow → List (After Held)
gots l = map (λ r. step_alone r.kind r.number r.start) l

abbrev wants : List StepRow → List (After Held)
wants l = map (λ r. r.want) l

pub step-samples : gots table ≡ wants table
unfolding base1.upd base2.place base3.log2-to base3.log2 base5.every graph1.label graph1.joined_over message1.parts_of message1.msg_of message2.bare message2.listed_as message2.listed plan1.ascends plan1.in_order plan1.link_verdict plan1.links_refusal plan1.plan_refusal base7.before_by plan2.cost plan2.earlier node1.wake_on node1.awake node1.do_report node1.test_on node1.change_root node1.count_up node1.absorb node1.core_end node1.on_connect node1.seek node1.on_initiate node1.on_test node1.child_report node1.core_report node1.on_report node1.unless_asleep node1.respond_to node2.earliest node2.number node2.on_each field0.is_own field0.end_of field0.marks_in field1.new_marks field2.carry_out field2.wake field2.hand field2.back_of field2.serve field2.step field3.all_of field3.waiting_in field3.word_fits field3.node_fits field3.fits field4.valid field4.fresh_cells field4.set_up field4.step_alone
step-samples = refl

-- What 31 says of a waking link, in the triangle of links 0-1, 0-2 and 1-2: a module with its status, level, identity, halted and waking link.
pub record WakingFitsRow : Type 0 where
  pub module-number : ℕ
  pub status : ℕ
  pub level : ℕ
  pub identity : ℕ
  pub halted : ℕ
  pub waking : ℕ
  pub passes : Bool

abbrev fits_row : ℕ → ℕ → ℕ → ℕ → ℕ → ℕ → Bool → WakingFitsRow
fits_row v status level identity halted waking passes =
    record { module-number = v; status = status; level = level; identity = identity; halted = halted; waking = waking; passes = passes }

abbrev fits_of : WakingFitsRow → Bool
fits_of r =
    field3.node_fits worse_reading r.module-number
    (record {
      status = r.status;
      level = r.level;
      identity = r.identity;
      weight = none;
      best = none;
      test = none;
      branch = none;
      count = 0;
      halted = r.halted;
      waking = r.waking;
    })

abbrev fits_table : List WakingFitsRow
fits_table =
    -- awake: none or any own link, at any level, halted or not
    fits_row 0 2 0 none 0 none true
    ∷ fits_row 0 2 0 none 0 0 true
    ∷ fits_row 0 1 1 0 0 1 true
    ∷ fits_row 1 2 1 0 1 2 true
    ∷ fits_row 2 2 1 0 0 2 true
    -- another module's link
    ∷ fits_row 0 2 0 none 0 2 false
    ∷ fits_row 0 1 1 0 0 2 false
    ∷ fits_row 0 2 1 0 1 2 false
    ∷ fits_row 1 2 1 0 0 1 false
    ∷ fits_row 2 2 0 none 0 0 false
    -- no link
    ∷ fits_row 0 2 0 none 0 3 false
    ∷ fits_row 0 1 1 0 1 65534 false
    -- asleep: none, at any level, halted or not
    ∷ fits_row 0 0 0 none 0 none true
    ∷ fits_row 0 0 1 0 1 none true
    ∷ fits_row 0 0 0 none 0 0 false
    ∷ fits_row 0 0 1 0 0 1 false
    ∷ fits_row 0 0 0 none 1 0 false
    ∷ []

pub waking-31 : map fits_of fits_table ≡ map (λ r. r.passes) fits_table
unfolding base3.log2-to base3.log2 node2.number field0.is_own field3.node_fits
waking-31 = refl
