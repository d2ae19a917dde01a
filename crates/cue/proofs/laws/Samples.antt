-- A cue on a triangle, and on a show on two banks (request 08), computed: a start, deliveries that are heard and idle, and each refusal in its order (`start-samples`,
-- `delivery-samples`); the answer's numbers (`number-samples`); a run of deliveries (`run-samples`); copies counted and followed one by one (`count-samples`,
-- `bank-samples`, `follow-samples`, `channel-samples`, `order-samples`); the bank that a cue reaches (`bank-heard`).
use Rattle.std.specs.Prelude.{ℕ, zero, suc, ◌≡◌, refl, List, [], ◌∷◌, map, replicate}
use Rattle.std.proofs.Common.{arith}
use Rattle.base.specs.None.{none}
use Rattle.base.specs.Log as base1
use Rattle.base.specs.Test as base2
use Rattle.base.specs.Cond as base3
use Rattle.graph.specs.Decide as graph1
use Rattle.graph.specs.Labels as graph2
use Rattle.graph.specs.Parts as graph3
use Rattle.graph.specs.Parts.{part_nodes}
use Rattle.graph.proofs.laws.Parts.{two-parts}
use Rattle.plan.specs.Links.{graph_of}
use Rattle.plan.specs.Refusal as plan1
use Rattle.plan.specs.Weights as plan2
use Rattle.plan.proofs.laws.Samples.{worse_reading}
use Rattle.plan_tree.proofs.laws.Samples.{two_banks}
use Rattle.node.specs.Work as node1
use Rattle.field.specs.Edges as field1
use Rattle.field.specs.Valid as field2
use Rattle.field.specs.Held as field3
use Rattle.field.specs.Held.{Held, fresh_cells}
use Rattle.cue.specs.declared.Cue.{Cue}
use Rattle.cue.specs.Delivery.{Delivery, Refused, Idle, Heard}
use Rattle.cue.specs.Record.{unheard}
use Rattle.cue.specs.Copies as cue1
use Rattle.cue.specs.Calls as cue2
use Rattle.cue.specs.Calls.{start_cue, deliver_cue}
use Rattle.cue.specs.Follow as cue3
use Rattle.cue.specs.Claims as cue4
use Rattle.cue.specs.Claims.{deliveries, heard_over, AllHeard}
use Rattle.cue.specs.Copies.{copies_sent, copies_waiting}
use Rattle.cue.specs.Calls.{refusal_number, heard_number}
use Rattle.cue.specs.Follow.{Followed, follow_start, follow, arrives}

-- A triangle whose tree is links 0 and 2; M is 21. Only marks count: these modules sleep. `one` is module 1's mark for link 0, which is in the tree, `two` module 2's for link 1, which is not.
abbrev held : ℕ → ℕ → ℕ → Held
held sent one two =
    record { field = record { plan = worse_reading; cells = fresh_cells 3; marks = 1 ∷ one ∷ 0 ∷ two ∷ 1 ∷ 1 ∷ []; sent = sent }; words = replicate 21 0 }

-- marked like the tree; a tree link that is not marked; another one that is; no field, as more was sent than M
abbrev finished : Held
finished = held 0 1 2

abbrev lacking : Held
lacking = held 0 0 2

abbrev overmarked : Held
overmarked = held 0 1 1

abbrev spoilt : Held
spoilt = held 22 0 2

-- nor is this one: module 0 sleeps, and has a waking link
abbrev strayed : Held
strayed =
    record { field = record { plan = worse_reading; cells = 0 ∷ 0 ∷ none ∷ none ∷ none ∷ none ∷ none ∷ 0 ∷ 0 ∷ 0 ∷ fresh_cells 2; marks = 1 ∷ 1 ∷ 0 ∷ 2 ∷ 1 ∷ 1 ∷ []; sent = 0 }; words = replicate 21 0 }

-- other marks: the lower end of link 0 lacks; an end of link 2 lacks; both ends agree, but on another tree
abbrev marked : List ℕ → Held
marked marks = record { field = record { plan = worse_reading; cells = fresh_cells 3; marks = marks; sent = 0 }; words = replicate 21 0 }

-- one module and no link, straight from setup: M is 0
abbrev alone : Held
alone = record { field = record { plan = 1 ∷ 0 ∷ []; cells = fresh_cells 1; marks = []; sent = 0 }; words = [] }

-- two parts, links 0-1 and 2-3; M is 44. At rest with both woken, or with module 2 alone: then link 0 is not marked.
abbrev banks : List ℕ → Held
banks marks = record { field = record { plan = two_banks; cells = fresh_cells 4; marks = marks; sent = 0 }; words = replicate 44 0 }

abbrev both_woken : Held
both_woken = banks (1 ∷ 1 ∷ 1 ∷ 1 ∷ [])

abbrev one_woken : Held
one_woken = banks (0 ∷ 0 ∷ 1 ∷ 1 ∷ [])

-- heard, cue, link, hops
abbrev rec : ℕ → ℕ → ℕ → ℕ → Cue
rec heard cue link hops = record { heard = heard; cue = cue; link = link; hops = hops }

-- a record past N, which keeps; the sender's; two that have heard
abbrev past : Cue
past = rec 9 9 9 9

abbrev sender : Cue
sender = rec 1 7 none 0

abbrev one : Cue
one = rec 1 7 0 1

abbrev two : Cue
two = rec 1 7 2 2

abbrev four : Cue → Cue → Cue → List Cue
four a b c = a ∷ b ∷ c ∷ past ∷ []

-- on two banks, with cue 9
abbrev five : Cue → Cue → Cue → Cue → List Cue
five a b c d = a ∷ b ∷ c ∷ d ∷ past ∷ []

abbrev sender9 : Cue
sender9 = rec 1 9 none 0

abbrev begun9 : List Cue
begun9 = five unheard unheard sender9 unheard

abbrev reached9 : List Cue
reached9 = five unheard unheard sender9 (rec 1 9 1 1)

pub record StartRow : Type 0 where
  pub at : Held
  pub lent : List Cue
  pub sender : ℕ
  pub cue : ℕ
  pub refusal : ℕ
  pub left : List Cue

-- refused: the records stay
abbrev no : Held → List Cue → ℕ → ℕ → StartRow
no h lent s r = record { at = h; lent = lent; sender = s; cue = 7; refusal = r; left = lent }

-- a cue is started: at module 0; on one module; at module 2 on two banks, and 71 there while one bank sleeps; then "They follow 31 in that order": 31, 71, 72, 73
abbrev starts : List StartRow
starts =
    record { at = finished; lent = four past past past; sender = 0; cue = 7; refusal = 0; left = four sender (rec 0 0 none 0) (rec 0 0 none 0) }
    ∷ record { at = alone; lent = past ∷ []; sender = 0; cue = 65535; refusal = 0; left = rec 1 65535 none 0 ∷ [] }
    ∷ record { at = both_woken; lent = five past past past past; sender = 2; cue = 9; refusal = 0; left = begun9 }
    ∷ no one_woken (five past past past past) 2 71
    ∷ no spoilt [] 3 31
    ∷ no strayed [] 3 31
    ∷ no lacking [] 3 71
    ∷ no overmarked [] 3 71
    ∷ no (marked (0 ∷ 1 ∷ 0 ∷ 2 ∷ 1 ∷ 1 ∷ [])) [] 3 71
    ∷ no (marked (1 ∷ 1 ∷ 1 ∷ 2 ∷ 1 ∷ 1 ∷ [])) [] 3 71
    ∷ no (marked (1 ∷ 1 ∷ 0 ∷ 2 ∷ 1 ∷ 0 ∷ [])) [] 3 71
    ∷ no (marked (1 ∷ 1 ∷ 1 ∷ 1 ∷ 0 ∷ 0 ∷ [])) [] 3 71
    ∷ no (marked (0 ∷ 0 ∷ 0 ∷ 0 ∷ 0 ∷ 0 ∷ [])) [] 3 71
    ∷ no finished (past ∷ past ∷ []) 3 72
    ∷ no finished (past ∷ past ∷ []) 2 73
    ∷ []

pub start-samples : map (λ r. start_cue r.at r.lent r.sender r.cue) starts ≡ map (λ r. record { refusal = r.refusal; state = r.left }) starts
unfolding base1.log2-to base1.log2 base2.every graph1.label graph1.joined_over graph1.in_tree graph2.rename plan1.ascends plan1.in_order plan1.link_verdict plan1.links_refusal plan1.plan_refusal plan2.cost plan2.earlier node1.number field1.is_own field2.all_of field2.waiting_in field2.word_fits field2.node_fits field2.fits field3.fresh_cells field3.valid cue2.branches_agree cue2.start_refusal cue2.start_cue
start-samples = refl

pub record DeliveryRow : Type 0 where
  pub at : Held
  pub lent : List Cue
  pub link : ℕ
  pub answer : Delivery
  pub left : List Cue

abbrev keeps : Held → List Cue → ℕ → Delivery → DeliveryRow
keeps h lent d a = record { at = h; lent = lent; link = d; answer = a; left = lent }

abbrev heard_by : List Cue → ℕ → List Cue → DeliveryRow
heard_by lent d left = record { at = finished; lent = lent; link = d; answer = Heard; left = left }

abbrev rows : List DeliveryRow
rows =
    -- no tree link; module 1 has not heard; heard; heard already; heard; the other sender
    keeps finished (four sender unheard unheard) 2 Idle
    ∷ keeps finished (four sender unheard unheard) 4 Idle
    ∷ heard_by (four sender unheard unheard) 0 (four sender one unheard)
    ∷ keeps finished (four sender one unheard) 0 Idle
    ∷ keeps finished (four sender one unheard) 1 Idle
    ∷ heard_by (four sender one unheard) 4 (four sender one two)
    ∷ heard_by (four unheard sender unheard) 1 (four (rec 1 7 0 1) sender unheard)
    -- 31, 71, then 73: too few; hops, tree link, cue, a second sender, an unheard near end, nobody; a number that is neither 0 nor 1; then 42
    ∷ keeps spoilt [] 6 (Refused 31)
    ∷ keeps strayed [] 6 (Refused 31)
    ∷ keeps lacking [] 6 (Refused 71)
    ∷ keeps overmarked [] 6 (Refused 71)
    ∷ keeps finished (sender ∷ one ∷ []) 6 (Refused 73)
    ∷ keeps finished (four sender one (rec 1 7 2 3)) 6 (Refused 73)
    ∷ keeps finished (four sender one (rec 1 7 1 1)) 6 (Refused 73)
    ∷ keeps finished (four sender one (rec 1 8 2 2)) 6 (Refused 73)
    ∷ keeps finished (four sender one sender) 6 (Refused 73)
    ∷ keeps finished (four unheard one two) 6 (Refused 73)
    ∷ keeps finished (four unheard unheard unheard) 6 (Refused 73)
    ∷ keeps finished (four sender (rec 2 7 0 1) unheard) 6 (Refused 73)
    -- unheard, but not zeros and none; a sender with hops; not an own link; the near end has not heard
    ∷ keeps finished (four sender (rec 0 0 0 0) unheard) 6 (Refused 73)
    ∷ keeps finished (four sender (rec 0 7 none 0) unheard) 6 (Refused 73)
    ∷ keeps finished (four sender (rec 0 0 none 1) unheard) 6 (Refused 73)
    ∷ keeps finished (four (rec 1 7 none 1) unheard unheard) 6 (Refused 73)
    ∷ keeps finished (four sender unheard (rec 1 7 0 1)) 6 (Refused 73)
    ∷ keeps finished (four sender one (rec 1 7 0 2)) 6 (Refused 73)
    ∷ keeps finished (four (rec 1 0 none 0) unheard (rec 1 0 2 1)) 6 (Refused 73)
    ∷ keeps spoilt (four sender unheard unheard) 0 (Refused 31)
    ∷ keeps lacking (four sender unheard unheard) 0 (Refused 71)
    ∷ keeps finished (four sender one two) 5 Idle
    ∷ keeps finished (four sender one two) 6 (Refused 42)
    ∷ keeps alone (sender ∷ []) 0 (Refused 42)
    -- two banks: heard in the sender's part; idle in the other; 73: heard there from nobody, or from a second sender
    ∷ record { at = both_woken; lent = begun9; link = 2; answer = Heard; left = reached9 }
    ∷ keeps both_woken reached9 0 Idle
    ∷ keeps both_woken (five unheard (rec 1 9 0 1) sender9 unheard) 2 (Refused 73)
    ∷ keeps both_woken (five sender9 (rec 1 9 0 1) sender9 unheard) 2 (Refused 73)
    ∷ []

pub delivery-samples : map (λ r. deliver_cue r.at r.lent r.link) rows ≡ map (λ r. record { answer = r.answer; cues = r.left }) rows
unfolding base1.log2-to base1.log2 base2.every graph1.label graph1.joined_over graph1.in_tree graph2.rename plan1.ascends plan1.in_order plan1.link_verdict plan1.links_refusal plan1.plan_refusal plan2.cost plan2.earlier node1.number field1.is_own field1.end_of field2.all_of field2.waiting_in field2.word_fits field2.node_fits field2.fits field3.fresh_cells field3.valid cue1.sent_over cue1.arrived_over cue1.delivered cue2.branches_agree cue2.right_of cue2.right_at cue2.left_by_sending cue2.delivery_refusal cue2.deliver_cue
delivery-samples = refl

-- Copies followed one by one: what the six channels hold after a start at module 1, and after deliveries: over 1 to module 0, which has no other branch; over
-- 1 again, where none waits; over 4 to module 2
abbrev held-by : Followed → List (List Cue)
held-by x = map x.channel (0 ∷ 1 ∷ 2 ∷ 3 ∷ 4 ∷ 5 ∷ [])

abbrev followed : List ℕ → Followed
followed ds = follow worse_reading ds (follow_start worse_reading (four past past past) 1 7)

pub follow-samples :
    map (λ ds. held-by (followed ds)) ([] ∷ (1 ∷ []) ∷ (1 ∷ 1 ∷ []) ∷ (1 ∷ 4 ∷ []) ∷ [])
    ≡ ([] ∷ (sender ∷ []) ∷ [] ∷ [] ∷ (sender ∷ []) ∷ [] ∷ [])
    ∷ ([] ∷ [] ∷ [] ∷ [] ∷ (sender ∷ []) ∷ [] ∷ [])
    ∷ ([] ∷ [] ∷ [] ∷ [] ∷ (sender ∷ []) ∷ [] ∷ [])
    ∷ ([] ∷ [] ∷ [] ∷ [] ∷ [] ∷ [] ∷ [])
    ∷ []
unfolding base3.upd graph1.label graph1.joined_over graph1.in_tree graph2.rename plan2.cost plan2.earlier cue3.passes_on cue3.arrives cue3.follow
follow-samples = refl

-- The answer's numbers, and what Claims counts: after cue 7 from module 0, deliveries over 2 (idle), 0, 0 (idle), 9 (42), 4
pub number-samples : map (λ a. refusal_number a ∷ heard_number a ∷ []) (Refused 73 ∷ Idle ∷ Heard ∷ []) ≡ (73 ∷ 0 ∷ []) ∷ (0 ∷ 0 ∷ []) ∷ (0 ∷ 1 ∷ []) ∷ []
number-samples = refl

abbrev order : List ℕ
order = 2 ∷ 0 ∷ 0 ∷ 9 ∷ 4 ∷ []

-- what the answers "heard" were for, and what is left
pub run-samples :
    ◌≡◌ {A = List ℕ × List Cue} (heard_over finished order (four sender unheard unheard), deliveries finished order (four sender unheard unheard))
    (0 ∷ 4 ∷ [], four sender one two)
unfolding base1.log2-to base1.log2 base2.every graph1.label graph1.joined_over graph1.in_tree graph2.rename plan1.ascends plan1.in_order plan1.link_verdict plan1.links_refusal plan1.plan_refusal plan2.cost plan2.earlier node1.number field1.is_own field1.end_of field2.all_of field2.waiting_in field2.word_fits field2.node_fits field2.fits field3.fresh_cells field3.valid cue1.sent_over cue1.arrived_over cue1.delivered cue2.branches_agree cue2.right_of cue2.right_at cue2.left_by_sending cue2.delivery_refusal cue2.deliver_cue cue4.heard_over cue4.deliveries
run-samples = refl

-- sent and waiting
pub count-samples :
    map (λ l. copies_sent worse_reading l ∷ copies_waiting worse_reading l ∷ []) (four sender unheard unheard ∷ four sender one unheard ∷ four sender one two ∷ four unheard sender unheard ∷ [])
    ≡ (1 ∷ 1 ∷ []) ∷ (2 ∷ 1 ∷ []) ∷ (2 ∷ 0 ∷ []) ∷ (2 ∷ 2 ∷ []) ∷ []
unfolding graph1.label graph1.joined_over graph1.in_tree graph2.rename plan2.cost plan2.earlier cue1.sent_over cue1.arrived_over
count-samples = refl

-- on two banks: sent and waiting, and how many modules the sender's part has; then each of those has heard
pub bank-samples :
    map (λ l. copies_sent two_banks l ∷ copies_waiting two_banks l ∷ part_nodes (graph_of two_banks) 4 2 ∷ []) (begun9 ∷ reached9 ∷ [])
    ≡ (1 ∷ 1 ∷ 2 ∷ []) ∷ (1 ∷ 0 ∷ 2 ∷ []) ∷ []
unfolding graph1.label graph1.joined_over graph1.in_tree graph2.rename graph3.part_nodes plan2.cost plan2.earlier cue1.sent_over cue1.arrived_over
bank-samples = refl

pub bank-heard : AllHeard two_banks 2 reached9
unfolding graph1.label graph1.joined_over graph2.rename graph3.together
bank-heard zero l w = absurd (two-parts (graph_of two_banks) 2 0 refl w)
bank-heard (suc zero) l w = absurd (two-parts (graph_of two_banks) 2 1 refl w)
bank-heard (suc (suc zero)) l w = refl
bank-heard (suc (suc (suc zero))) l w = refl
bank-heard (suc (suc (suc (suc v)))) l w = absurd (omega arith)

-- a channel of two copies: the first one arrives, the other stays; what is passed on stands last
pub channel-samples :
    map (λ d. (arrives worse_reading 0 (record { cues = four sender unheard unheard; channel = λ e. one ∷ two ∷ [] }) (sender ∷ two ∷ [])).channel d) (0 ∷ 1 ∷ 4 ∷ 6 ∷ [])
    ≡ (two ∷ []) ∷ (one ∷ two ∷ []) ∷ (one ∷ two ∷ one ∷ []) ∷ (one ∷ two ∷ []) ∷ []
unfolding base3.upd graph1.label graph1.joined_over graph1.in_tree graph2.rename plan2.cost plan2.earlier cue3.passes_on cue3.arrives
channel-samples = refl

-- the order counts; what the records are
pub order-samples :
    map (λ ds. (follow worse_reading ds (follow_start worse_reading (four past past past) 0 7)).cues) ((0 ∷ 4 ∷ []) ∷ (4 ∷ 0 ∷ []) ∷ [])
    ≡ four sender one two ∷ four sender one unheard ∷ []
unfolding base3.upd graph1.label graph1.joined_over graph1.in_tree graph2.rename plan2.cost plan2.earlier cue3.passes_on cue3.arrives cue3.follow
order-samples = refl
