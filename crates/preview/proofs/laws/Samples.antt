-- Previews computed on a triangle, a star and one module, words as numbers: each kind of step, a sleeper whose Test goes back, an Initiate's copies, buffers that just
-- fit, are longer, are too short, and each refusal before 75 (`preview-samples`). What waits after the step, in its parts (`waiting-samples`).
use Rattle.std.specs.Prelude.{ℕ, ◌≡◌, refl, List, [], ◌∷◌, ◌++◌, map, replicate}
use Rattle.base.specs.Cond as base1
use Rattle.base.specs.Keep as base2
use Rattle.base.specs.Log as base3
use Rattle.base.specs.Test as base4
use Rattle.base.specs.None as base5
use Rattle.graph.specs.Decide as graph1
use Rattle.format_message.specs.Header as message1
use Rattle.format_message.specs.Listed as message2
use Rattle.plan.specs.Refusal as plan1
use Rattle.plan.specs.Weights as plan2
use Rattle.plan.specs.Links.{Plan}
use Rattle.plan.proofs.laws.Samples.{worse_reading}
use Rattle.node.specs.Rules as node1
use Rattle.node.specs.Work as node2
use Rattle.field.specs.Edges as field0
use Rattle.field.specs.State as field1
use Rattle.field.specs.Step as field2
use Rattle.field.specs.Valid as field3
use Rattle.field.specs.Valid.{waiting_in}
use Rattle.field.specs.Held as field4
use Rattle.field.specs.Held.{Held, state_of, step_alone}
use Rattle.field_calls.specs.Trail as calls1
use Rattle.preview.specs.Preview as preview1
use Rattle.preview.specs.Preview.{would_send, preview}
use Rattle.preview.specs.Claim as claim1
use Rattle.preview.specs.Claim.{remaining, goes_last}

-- Beside a triangle of links in the order 0, 2, 1, whose M is 21: a star of links 0-1, 0-2 and 0-3, whose M is 46.
abbrev star : Plan
star = 4 ∷ 3 ∷ 0 ∷ 1 ∷ 1 ∷ 1 ∷ 0 ∷ 2 ∷ 2 ∷ 2 ∷ 0 ∷ 3 ∷ 3 ∷ 3 ∷ []

-- cells, marks, sent, the words that wait
abbrev held : Plan → List ℕ → List ℕ → ℕ → List ℕ → Held
held p cells marks sent words = record { field = record { plan = p; cells = cells; marks = marks; sent = sent }; words = words ++ replicate 46 0 }

-- status, level, identity, best weight, best edge, test edge, in-branch, find-count, halted, waking link
abbrev asleep : List ℕ
asleep = 0 ∷ 0 ∷ 65535 ∷ 65535 ∷ 65535 ∷ 65535 ∷ 65535 ∷ 0 ∷ 0 ∷ 65535 ∷ []

abbrev strayed : List ℕ
strayed = 0 ∷ 0 ∷ 65535 ∷ 65535 ∷ 65535 ∷ 65535 ∷ 65535 ∷ 0 ∷ 0 ∷ 1 ∷ []

abbrev woken : List ℕ
woken = 2 ∷ 0 ∷ 65535 ∷ 65535 ∷ 65535 ∷ 65535 ∷ 65535 ∷ 0 ∷ 0 ∷ 65535 ∷ []

abbrev searching : ℕ → ℕ → List ℕ
searching test count = 1 ∷ 1 ∷ 0 ∷ 65535 ∷ 65535 ∷ test ∷ 0 ∷ count ∷ 0 ∷ 65535 ∷ []

-- done searching: its best edge is number 1
abbrev decided : List ℕ
decided = 2 ∷ 1 ∷ 0 ∷ 1 ∷ 1 ∷ 65535 ∷ 0 ∷ 0 ∷ 0 ∷ 65535 ∷ []

-- nobody woken, so many sent; nobody woken on one module, without a link
abbrev quiet : ℕ → Held
quiet sent = held worse_reading (asleep ++ asleep ++ asleep) (0 ∷ 0 ∷ 0 ∷ 0 ∷ 0 ∷ 0 ∷ []) sent []

abbrev alone : Held
alone = record { field = record { plan = 1 ∷ 0 ∷ []; cells = asleep; marks = []; sent = 0 }; words = [] }

-- 0 and 1 were woken, their Connects (30000FFFF01, 30001FFFF01) are handed over
abbrev joining : Held
joining = held worse_reading (woken ++ woken ++ asleep) (1 ∷ 1 ∷ 0 ∷ 0 ∷ 0 ∷ 0 ∷ []) 2 (3298551660289 ∷ 3298568437505 ∷ [])

-- 0 and 1 search, their Tests wait: 2000400000B, and 3000200000B handed over to 2, which sleeps or is awake
abbrev testing : List ℕ → Held
testing two = held worse_reading (searching 1 0 ++ searching 2 0 ++ two) (1 ∷ 1 ∷ 0 ∷ 0 ∷ 0 ∷ 0 ∷ []) 6 (2199090364427 ∷ 3298568437771 ∷ [])

-- no word waits; 0, and a record behind the last module, have a best edge
abbrev still : Held
still = held worse_reading (decided ++ woken ++ woken ++ decided) (1 ∷ 1 ∷ 0 ∷ 0 ∷ 0 ∷ 0 ∷ []) 6 []

-- 0 has as many reports to come as links, and 2's Connect over link 1 is to be served: 30003FFFF01
abbrev full : Held
full = held worse_reading (searching 65535 2 ++ woken ++ woken) (1 ∷ 1 ∷ 0 ∷ 1 ∷ 0 ∷ 0 ∷ []) 6 (3298601991937 ∷ [])

-- 0 gets Initiate(2, 1, Find) over link 0 (30001000152); its marks of links 0 and 2, and link 1 is a branch
abbrev informed : ℕ → ℕ → Held
informed first third = held star (woken ++ woken ++ woken ++ woken) (first ∷ 1 ∷ 1 ∷ 1 ∷ third ∷ 0 ∷ []) 9 (3298551660882 ∷ [])

pub record PreviewRow : Type 0 where
  pub at : Held
  pub kind : ℕ
  pub number : ℕ
  pub buffer : List ℕ
  pub refusal : ℕ
  pub count : ℕ
  pub left : List ℕ

abbrev yes : Held → ℕ → ℕ → List ℕ → ℕ → List ℕ → PreviewRow
yes h kind number buffer count left = record { at = h; kind = kind; number = number; buffer = buffer; refusal = 0; count = count; left = left }

-- refused: the number alone, and the buffer keeps
abbrev no : Held → ℕ → ℕ → List ℕ → ℕ → PreviewRow
no h kind number buffer refusal = record { at = h; kind = kind; number = number; buffer = buffer; refusal = refusal; count = 0; left = buffer }

abbrev table : List PreviewRow
table =
    -- Initiate(1, 0, Find): 2000000004A
    yes joining 3 0 (7 ∷ []) 1 (2199023255626 ∷ [])
    ∷ yes joining 3 0 (7 ∷ 8 ∷ 9 ∷ []) 1 (2199023255626 ∷ 8 ∷ 9 ∷ [])
    ∷ no joining 3 0 [] 75
    -- the sleeper's Connect, 20005FFFF01, and not the Test that goes back
    ∷ yes (testing asleep) 3 2 (7 ∷ []) 1 (2199123918593 ∷ [])
    ∷ yes (testing asleep) 3 2 (7 ∷ 8 ∷ []) 1 (2199123918593 ∷ 8 ∷ [])
    ∷ no (testing asleep) 3 2 [] 75
    -- an awake one puts it back and sends nothing; a hand-over sends nothing
    ∷ yes (testing woken) 3 2 [] 0 []
    ∷ yes (testing woken) 2 4 [] 0 []
    ∷ yes (testing woken) 2 4 (7 ∷ 8 ∷ []) 0 (7 ∷ 8 ∷ [])
    -- a wake: 20000FFFF01, of module 1 20001FFFF01; without a link nothing is sent
    ∷ yes (quiet 0) 1 0 (7 ∷ []) 1 (2199040032513 ∷ [])
    ∷ no (quiet 0) 1 0 [] 75
    ∷ yes (quiet 0) 1 1 (7 ∷ []) 1 (2199056809729 ∷ [])
    ∷ yes alone 1 0 [] 0 []
    ∷ yes alone 1 0 (7 ∷ []) 0 (7 ∷ [])
    -- the copy to link 1, then the Test over link 2: 20002000152, 20004000113
    ∷ yes (informed 1 0) 3 0 (7 ∷ 8 ∷ []) 2 (2199056810322 ∷ 2199090364691 ∷ [])
    ∷ yes (informed 1 0) 3 0 (7 ∷ 8 ∷ 9 ∷ []) 2 (2199056810322 ∷ 2199090364691 ∷ 9 ∷ [])
    ∷ no (informed 1 0) 3 0 (7 ∷ []) 75
    -- over a link that is Basic here, as a host may mark it: two copies, and the Test goes back over it: 20002000152, 20004000152, 20000000113
    ∷ yes (informed 0 1) 3 0 (7 ∷ 8 ∷ 9 ∷ []) 3 (2199056810322 ∷ 2199090364754 ∷ 2199023255827 ∷ [])
    ∷ no (informed 0 1) 3 0 (7 ∷ 8 ∷ []) 75
    -- the step's refusals, in their order and before 75; a sleeper has a waking link
    ∷ no (testing strayed) 3 2 [] 31
    ∷ no (quiet 22) 9 0 [] 31
    ∷ no (quiet 22) 1 0 [] 31
    ∷ no (quiet 0) 0 7 [] 54
    ∷ no (quiet 0) 4 7 [] 54
    ∷ no (quiet 0) 1 3 [] 41
    ∷ no still 3 3 [] 41
    ∷ no still 2 6 [] 42
    ∷ no joining 1 0 [] 43
    ∷ no joining 2 0 [] 44
    ∷ no still 3 0 [] 45
    ∷ no full 3 0 [] 32
    ∷ no (quiet 21) 1 0 [] 33
    ∷ []

pub preview-samples :
    map (λ r. preview r.kind r.number r.at r.buffer) table
    ≡ map (λ r. record { answer = record { refusal = r.refusal; count = r.count }; buffer = r.left }) table
unfolding base1.upd base2.place base3.log2-to base3.log2 base4.every graph1.label graph1.joined_over message1.parts_of message1.msg_of message2.bare message2.listed_as message2.listed plan1.ascends plan1.in_order plan1.link_verdict plan1.links_refusal plan1.plan_refusal base5.before_by plan2.cost plan2.earlier node1.wake_on node1.awake node1.do_report node1.test_on node1.change_root node1.count_up node1.absorb node1.core_end node1.on_connect node1.seek node1.on_initiate node1.on_test node1.unless_asleep node1.respond_to node2.earliest node2.number node2.on_each field0.is_own field0.end_of field0.marks_in field1.new_marks field2.carry_out field2.wake field2.hand field2.back_of field2.serve field2.step field3.all_of field3.waiting_in field3.word_fits field3.node_fits field3.fits field4.valid field4.step_alone calls1.sends_at preview1.would_send preview1.preview
preview-samples = refl

-- what waited without the word taken, the words sent, the word handed over or put back; all of it after the step
pub record WaitingRow : Type 0 where
  pub at : Held
  pub kind : ℕ
  pub number : ℕ
  pub before : List ℕ
  pub sent : List ℕ
  pub last : List ℕ
  pub after : List ℕ

abbrev waits : Held → ℕ → ℕ → List ℕ → List ℕ → List ℕ → List ℕ → WaitingRow
waits h kind number before sent last after = record { at = h; kind = kind; number = number; before = before; sent = sent; last = last; after = after }

-- a wake, a service, a hand-over, the sleeper
abbrev steps : List WaitingRow
steps =
    waits (quiet 0) 1 0 [] (2199040032513 ∷ []) [] (2199040032513 ∷ [])
    ∷ waits joining 3 0 (3298551660289 ∷ []) (2199023255626 ∷ []) [] (3298551660289 ∷ 2199023255626 ∷ [])
    ∷ waits (testing asleep) 2 4 (3298568437771 ∷ []) [] (3298601992203 ∷ []) (3298568437771 ∷ 3298601992203 ∷ [])
    ∷ waits (testing asleep) 3 2 (2199090364427 ∷ []) (2199123918593 ∷ []) (3298568437771 ∷ []) (2199090364427 ∷ 2199123918593 ∷ 3298568437771 ∷ [])
    ∷ []

pub waiting-samples :
    map (λ r. waits r.at r.kind r.number (remaining worse_reading r.kind r.number (state_of r.at)) (would_send r.kind r.number r.at)
    (goes_last worse_reading r.kind r.number (state_of r.at)) (waiting_in (step_alone r.kind r.number r.at).state.words)) steps
    ≡ steps
unfolding base1.upd base2.place base3.log2-to base3.log2 base4.every graph1.label graph1.joined_over message1.parts_of message1.msg_of message2.bare message2.listed_as message2.listed plan1.ascends plan1.in_order plan1.link_verdict plan1.links_refusal plan1.plan_refusal base5.before_by plan2.cost plan2.earlier node1.wake_on node1.awake node1.core_end node1.on_connect node1.on_test node1.respond_to node2.earliest node2.number field0.is_own field0.end_of field0.marks_in field1.new_marks field2.carry_out field2.wake field2.hand field2.back_of field2.serve field2.step field3.all_of field3.waiting_in field3.word_fits field3.node_fits field3.fits field4.valid field4.step_alone calls1.sends_at preview1.would_send claim1.remaining claim1.goes_last
waiting-samples = refl
