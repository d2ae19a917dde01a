-- Document 01's starred samples: one table of the definitions, one theorem over its rows (`starred`).
use Rattle.std.specs.Prelude.{ℕ, ◌≡◌, refl, true, false, List, [], ◌∷◌, ◌++◌, map}
use Rattle.base.specs.None.{none, before_by}
use Rattle.base.specs.Cond.{upd}
use Rattle.base.specs.Keep.{place}
use Rattle.base.specs.Log.{log2-to, log2}
use Rattle.base.specs.Table.{tabulate}
use Rattle.base.specs.Test.{every}
use Rattle.graph.specs.Decide.{label, joined_over, in_tree}
use Rattle.format_message.specs.Msg.{Msg, connect, initiate, test}
use Rattle.format_message.specs.Header.{header_of, carried_of, parts_of, msg_of}
use Rattle.format_message.specs.Listed.{bare, listed_as, listed}
use Rattle.format_frame.specs.Frame.{frame_bytes, frame_refusal}
use Rattle.format_word.specs.Word.{pack_waiting}
use Rattle.base.specs.Ceiling.{ceiling}
use Rattle.plan.specs.Refusal.{ascends, in_order, link_verdict, links_refusal, plan_refusal}
use Rattle.plan.specs.Weights.{cost, earlier}
use Rattle.plan.specs.Trimmed.{padded}
use Rattle.plan_file.specs.Layout.{decode}
use Rattle.plan_file.specs.Reading.{read_refusal, head_verdict}
use Rattle.plan_tree.specs.Tree.{central_tree, tree_bytes, tree_refusal}
use Rattle.node.specs.Rules.{wake_on, awake, on_test, unless_asleep, respond_to}
use Rattle.node.specs.Work.{earliest, number}
use Rattle.field.specs.Edges.{is_own, end_of, marks_in}
use Rattle.field.specs.Held.{Held, layout, step_alone, valid}
use Rattle.field.specs.State.{new_marks}
use Rattle.field.specs.Step.{carry_out, back_of, serve, step}
use Rattle.field.specs.Valid.{all_of, waiting_in, word_fits, node_fits, fits}

-- what the definitions compute, and what document 01 says
pub record StarredRow : Type 0 where
  pub computed : List ℕ
  pub said : List ℕ

abbrev row : List ℕ → List ℕ → StarredRow
row a b = record { computed = a; said = b }

-- the refusal of a plan's bytes
abbrev refusal : List ℕ → List ℕ
refusal s = read_refusal s ∷ []

-- the bytes of a plan: head (length, N, L), then its links
abbrev plan_bytes : ℕ → ℕ → ℕ → List ℕ → List ℕ
plan_bytes length modules links rest = 1 ∷ 0 ∷ length ∷ 0 ∷ modules ∷ 0 ∷ links ∷ rest

abbrev link : ℕ → ℕ → ℕ → ℕ → List ℕ
link lower higher near far = 0 ∷ lower ∷ 0 ∷ higher ∷ 0 ∷ near ∷ 0 ∷ far ∷ []

abbrev triangle : List ℕ
triangle = plan_bytes 28 3 3 (link 0 1 2 3 ++ (link 0 2 2 3 ++ link 1 2 2 3))

-- the frame of a message, with the check's answer before it
abbrev framed : Msg → List ℕ
framed m = let s = frame_bytes (header_of m) (carried_of m) in frame_refusal s ∷ s

-- Two modules and one link. Module 0 searches at level 1 with identity 0 and tests link 0; module 1 has a status and a waking link, its mark of
-- link 0 is m.
abbrev pair : ℕ → ℕ → ℕ → ℕ → List ℕ → Held
pair status waking m sent words =
    record {
      field =
          record {
            plan = 2 ∷ 1 ∷ 0 ∷ 1 ∷ 3 ∷ 4 ∷ [];
            cells =
                1 ∷ 1 ∷ 0 ∷ none ∷ none ∷ 0 ∷ none ∷ 0 ∷ 0 ∷ none
                ∷ status ∷ 0 ∷ none ∷ none ∷ none ∷ none ∷ none ∷ 0 ∷ 0 ∷ waking ∷ [];
            marks = 0 ∷ m ∷ [];
            sent = sent;
          };
      words = layout 12 words;
    }

-- module 0's Test, handed over; module 1's Connect, sent
abbrev a_test : ℕ
a_test = pack_waiting (record { msg = test 1 0; link = 0; handed = true })

abbrev a_connect : ℕ
a_connect = pack_waiting (record { msg = connect 0; link = 1; handed = false })

-- answer, cells, marks, sent count and words after module 1 serves
abbrev served : Held → List ℕ
served h =
    let a = step_alone 3 1 h in
    a.refusal ∷ a.state.field.sent ∷ (a.state.field.cells ++ (a.state.field.marks ++ a.state.words))

abbrev shown : Held → List ℕ
shown h = 0 ∷ h.field.sent ∷ (h.field.cells ++ (h.field.marks ++ h.words))

abbrev rows : List StarredRow
rows =
    -- "M: N 1, L 0: 0. N 2, L 1: 12. N 3, L 3: 21. N 192, L 600: 7920."
    row (ceiling 1 0 ∷ ceiling 2 1 ∷ ceiling 3 3 ∷ ceiling 192 600 ∷ []) (0 ∷ 12 ∷ 21 ∷ 7920 ∷ [])
    -- "Empty bytes: 11. N 193: 14."
    ∷ row (refusal []) (11 ∷ [])
    ∷ row (refusal (plan_bytes 4 193 0 [])) (14 ∷ [])
    -- "Three modules, three links, each with readings 2 and 3: tree 0-1 and 0-2."
    ∷ row (refusal triangle) (0 ∷ [])
    ∷ row (central_tree (decode triangle) (9 ∷ 9 ∷ 9 ∷ [])).state (1 ∷ 1 ∷ 0 ∷ [])
    -- "Reading 2001: 18."
    ∷ row (refusal (plan_bytes 12 2 1 (0 ∷ 0 ∷ 0 ∷ 1 ∷ 7 ∷ 209 ∷ 0 ∷ 3 ∷ []))) (18 ∷ [])
    -- "Initiate, level 2, link 5, Find: frame 01 00 03 52 00 05 (hexadecimal). Connect, level 0: 01 00 03 01 FF FF."
    ∷ row (framed (initiate 2 5 1)) (0 ∷ 0x01 ∷ 0x00 ∷ 0x03 ∷ 0x52 ∷ 0x00 ∷ 0x05 ∷ [])
    ∷ row (framed (connect 0)) (0 ∷ 0x01 ∷ 0x00 ∷ 0x03 ∷ 0x01 ∷ 0xff ∷ 0xff ∷ [])
    -- "Serving a Test of level 1 at a sleeper: it wakes, sends Connect, the Test goes to the end."
    ∷ row (served (pair 0 none 0 1 (a_test ∷ []))) (shown (pair 2 0 1 2 (a_connect ∷ a_test ∷ [])))
    ∷ []

pub starred : map (λ r. r.computed) rows ≡ map (λ r. r.said) rows
unfolding
    upd place log2-to log2 tabulate every
    label joined_over in_tree
    parts_of msg_of bare listed_as listed
    frame_refusal
    ascends in_order link_verdict links_refusal plan_refusal
    cost earlier
    padded decode head_verdict read_refusal
    tree_bytes tree_refusal central_tree
    wake_on awake on_test unless_asleep respond_to before_by earliest number
    is_own end_of marks_in
    new_marks carry_out back_of serve step
    all_of waiting_in word_fits node_fits fits valid step_alone
starred = refl
