-- The form of a sample: a node with its own edges, a message, and what the response must be, all in numbers.
use Rattle.std.specs.Prelude.{ℕ, cond, ◌&&◌, ◌||◌, List, [], ◌∷◌, length, get_or, eqb, ltb}
use Rattle.format_message.specs.Msg.{Msg, connect, initiate, test, accept, reject, report, change, none}
use Rattle.node.specs.declared.Node.{Node}
use Rattle.node.specs.Work.{Own, Send, Work, values, node_by, REFUSED}
use Rattle.node.proofs.laws.Values.{tabled}
use Rattle.node.specs.Rules.{respond}

-- what a response gives: answer, the node's values, the marks by edge number, the sends as (edge, kind, level, carried, find)
pub record ResponseShown : Type 0 where
  pub answer : ℕ
  pub node : List ℕ
  pub marks : List ℕ
  pub sends : List (List ℕ)

pub record ResponseRow : Type 0 where
  -- for each edge number 1 if it is an own edge, and a number by which edges are ordered: the rules take any order without ties, here equal numbers go by the edge's
  pub own : List ℕ
  pub weights : List ℕ
  -- ⌊log2 N⌋
  pub limit : ℕ
  pub node : List ℕ
  pub marks : List ℕ
  pub edge : ℕ
  pub msg : Msg
  pub want : ResponseShown

abbrev pub sample_own : List ℕ → List ℕ → Own
sample_own own ws =
    record {
      edges = length own;
      own = λ k. eqb (get_or own k 0) 1;
      earlier = λ a b. ltb (get_or ws a 0) (get_or ws b 0) || (eqb (get_or ws a 0) (get_or ws b 0) && ltb a b);
    }

abbrev pub node_of : List ℕ → Node
node_of xs = node_by (λ j. get_or xs j 0)

abbrev pub numbers : Msg → List ℕ
numbers (connect l) = 1 ∷ l ∷ none ∷ 0 ∷ []
numbers (initiate l f find) = 2 ∷ l ∷ f ∷ find ∷ []
numbers (test l f) = 3 ∷ l ∷ f ∷ 0 ∷ []
numbers accept = 4 ∷ 0 ∷ none ∷ 0 ∷ []
numbers reject = 5 ∷ 0 ∷ none ∷ 0 ∷ []
numbers (report x) = 6 ∷ 0 ∷ x ∷ 0 ∷ []
numbers change = 7 ∷ 0 ∷ none ∷ 0 ∷ []

abbrev pub sends_of : List Send → List (List ℕ)
sends_of [] = []
sends_of (s ∷ ss) = (s.edge ∷ numbers s.msg) ∷ sends_of ss

-- of a refused response only its number counts
abbrev pub response_shown : ℕ → Work → ResponseShown
response_shown n w =
    cond (eqb w.answer REFUSED)
    (record { answer = REFUSED; node = []; marks = []; sends = [] })
    (record { answer = w.answer; node = values w.node; marks = tabled w.mark 0 n; sends = sends_of w.sends })

abbrev pub got : ResponseRow → ResponseShown
got r =
    response_shown (length r.own)
    (respond (sample_own r.own r.weights) r.limit r.msg r.edge (node_of r.node) (λ k. get_or r.marks k 0))

abbrev pub gots : List ResponseRow → List ResponseShown
gots [] = []
gots (r ∷ rs) = got r ∷ gots rs

abbrev pub wants : List ResponseRow → List ResponseShown
wants [] = []
wants (r ∷ rs) = r.want ∷ wants rs
