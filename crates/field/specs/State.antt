-- What a step changes: the cells of the modules, the marks, the waiting words in their order, the sent count. The plan stands beside it.
use Rattle.std.specs.Prelude.{ℕ, suc, ◌+◌, ◌*◌, cond, ◌&&◌, List, [], ◌∷◌, ◌++◌, map, length, get_or, eqb, ltb}
use Rattle.std.proofs.lemmas.List.Edits.{sets}
use Rattle.base.specs.Limits.{max_modules}
use Rattle.format_message.specs.Msg.{Msg}
use Rattle.format_message.specs.Header.{header_of, carried_of, meant}
use Rattle.format_word.specs.Word.{packed, header_in, carried_in}
use Rattle.plan.specs.Links.{Plan, links_of}
use Rattle.node.specs.declared.Node.{Node}
use Rattle.node.specs.Work.{Work, Send, node_by}
pub use Rattle.node.specs.Work.{WIDTH, values}
use Rattle.field.specs.Edges.{from, link_of, end_of, marks_in}

pub record State : Type 0 where
  pub cells : List ℕ
  pub marks : List ℕ
  pub words : List ℕ
  pub sent : ℕ

-- the cells of all modules that a field has room for
abbrev pub CELLS : ℕ
CELLS = max_modules * WIDTH

-- value j of module v stands at this cell
abbrev pub cell_of : ℕ → ℕ → ℕ
cell_of v j = v * WIDTH + j

-- "A module has status, level, identity, best weight, best edge, test edge, in-branch, find-count, halted" and (request 05) "the link whose message
-- woke it": module v's node
abbrev pub node_in : List ℕ → ℕ → Node
node_in cells v = node_by (λ j. get_or cells (cell_of v j) 0)

abbrev pub node_at : State → ℕ → Node
node_at s v = node_in s.cells v

abbrev pub put_node : List ℕ → ℕ → Node → List ℕ
put_node cells v n = sets cells (v * WIDTH) (values n)

-- "and a mark for each own link": v's mark of link k, 0 where k is no link of v
abbrev pub mark_at : Plan → State → ℕ → ℕ → ℕ
mark_at p s v k = marks_in p s.marks v k

-- the mark of directed end d, x before it, where module v's marks become m
abbrev pub new_mark : Plan → ℕ → (ℕ → ℕ) → ℕ → ℕ → ℕ
new_mark p v m d x = cond (ltb d (2 * links_of p) && eqb (from p d) v) (m (link_of d)) x

-- the same for the ends from d on
unfoldable pub new_marks : Plan → ℕ → (ℕ → ℕ) → ℕ → List ℕ → List ℕ
new_marks p v m d [] = []
new_marks p v m d (x ∷ l) = new_mark p v m d x ∷ new_marks p v m (suc d) l

abbrev pub put_marks : Plan → List ℕ → ℕ → (ℕ → ℕ) → List ℕ
put_marks p marks v m = new_marks p v m 0 marks

-- a message of v, not handed over yet
abbrev pub word_of : Plan → ℕ → Send → ℕ
word_of p v x = packed (header_of x.msg) (carried_of x.msg) (end_of p v x.edge) 0

abbrev pub posted : Plan → ℕ → List Send → List ℕ
posted p v l = map (word_of p v) l

-- what a waiting word says
abbrev pub msg_in : ℕ → Msg
msg_in w = meant (header_in w) (carried_in w)

-- A response's values, marks and sends in the field, where `words` wait beside it: "A send goes to the end." "The sent count .. grows by one
-- for each message sent." The put-back word, if there is one, goes behind all: "a put-back moves it to the end", and is no send.
abbrev pub placed : Plan → ℕ → Work → State → List ℕ → List ℕ → State
placed p v w s words back =
    record {
      cells = put_node s.cells v w.node;
      marks = put_marks p s.marks v w.mark;
      words = (words ++ posted p v w.sends) ++ back;
      sent = s.sent + length w.sends;
    }
