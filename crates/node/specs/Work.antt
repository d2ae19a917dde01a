-- What a response works on: a node, its own edges with their marks and order, the messages sent.
-- A module of document 01 is a node, a link an edge.
use Rattle.std.specs.Prelude.{ℕ, zero, suc, ◌+◌, Bool, true, cond, ◌&&◌, List, [], ◌∷◌, ◌++◌, eqb, get_or, set}
use Rattle.base.specs.Cond.{bit, upd}
use Rattle.base.specs.None.{before_by}
pub use Rattle.base.specs.Names.{ASLEEP, FIND, FOUND, BASIC, BRANCH, REJECTED, branches}
use Rattle.format_message.specs.Msg.{Msg, none}
use Rattle.node.specs.declared.Node.{Node}

-- the answer to a message
abbrev pub TAKEN : ℕ
TAKEN = 0

abbrev pub BACK : ℕ
BACK = 1

abbrev pub REFUSED : ℕ
REFUSED = 32

-- "Setup gives zeros and nones."; "Each module's record gains the link whose message woke it: none for a sleeper .." (request 05)
abbrev pub setup : Node
setup =
    record { status = ASLEEP; level = 0; identity = none; weight = none; best = none; test = none; branch = none; count = 0; halted = 0; waking = none }

-- how many numbers they are
abbrev pub WIDTH : ℕ
WIDTH = 10

-- the numbers, in document 01's order, "the waking link after halted" (request 06)
abbrev pub values : Node → List ℕ
values n =
    n.status ∷ n.level ∷ n.identity ∷ n.weight ∷ n.best ∷ n.test ∷ n.branch ∷ n.count ∷ n.halted ∷ n.waking ∷ []

-- the node of which f j is the value number j
abbrev pub node_by : (ℕ → ℕ) → Node
node_by f =
    record { status = f 0; level = f 1; identity = f 2; weight = f 3; best = f 4; test = f 5; branch = f 6; count = f 7; halted = f 8; waking = f 9 }

-- The edges as one node sees them: edge numbers are below `edges`, `own` tells those that end here, `earlier` is the order of weights.
pub record Own : Type 0 where
  pub edges : ℕ
  pub own : ℕ → Bool
  pub earlier : ℕ → ℕ → Bool

-- ""none" is later than all": a is earlier than b, for edges or none
abbrev pub before : Own → ℕ → ℕ → Bool
before o = before_by (o.earlier)

-- a message and the own edge that it is sent on
pub record Send : Type 0 where
  pub edge : ℕ
  pub msg : Msg

-- A response under way. answer: TAKEN, BACK or REFUSED; mark: of each own edge; sends: in their order.
pub record Work : Type 0 where
  pub answer : ℕ
  pub node : Node
  pub mark : ℕ → ℕ
  pub sends : List Send

-- nothing done yet
abbrev pub start : Node → (ℕ → ℕ) → Work
start n m = record { answer = TAKEN; node = n; mark = m; sends = [] }

-- "place received message on end of queue": the rest of the response stands
abbrev pub put_back : Work → Work
put_back w = record { answer = BACK; node = w.node; mark = w.mark; sends = w.sends }

-- refused by 32. The rest is left as it stands here, and the caller drops it: a refused step alters nothing.
abbrev pub refused : Work → Work
refused w = record { answer = REFUSED; node = w.node; mark = w.mark; sends = w.sends }

abbrev pub send : ℕ → Msg → Work → Work
send k m w =
    record { answer = w.answer; node = w.node; mark = w.mark; sends = w.sends ++ (record { edge = k; msg = m } ∷ []) }

-- SE(k) ← c
abbrev pub set_mark : ℕ → ℕ → Work → Work
set_mark k c w = record { answer = w.answer; node = w.node; mark = upd w.mark k c; sends = w.sends }

abbrev pub with_node : Node → Work → Work
with_node n w = record { answer = w.answer; node = n; mark = w.mark; sends = w.sends }

-- value number j ← x; the numbers below are those of `values`
abbrev pub set_value : ℕ → ℕ → Node → Node
set_value j x n = node_by (λ i. get_or (set (values n) j x) i 0)

-- SN ← x
abbrev pub set_status : ℕ → Node → Node
set_status = set_value 0

-- best-edge ← e, best-wt ← x
abbrev pub set_best : ℕ → ℕ → Node → Node
set_best e x n = set_value 4 e (set_value 3 x n)

-- test-edge ← x
abbrev pub set_test : ℕ → Node → Node
set_test = set_value 5

-- find-count ← x
abbrev pub set_count : ℕ → Node → Node
set_count = set_value 7

abbrev pub set_halted : ℕ → Node → Node
set_halted = set_value 8

-- Of the own edges that pass test f, those numbered below n. A loop that has looked at edges 0 to n - 1 holds the value at n.

-- the earliest of them, or none
unfoldable pub earliest : Own → (ℕ → Bool) → ℕ → ℕ
earliest o f zero = none
earliest o f (suc n) = cond (o.own n && f n && before o n (earliest o f n)) n (earliest o f n)

-- how many there are
unfoldable pub number : Own → (ℕ → Bool) → ℕ → ℕ
number o f zero = 0
number o f (suc n) = number o f n + bit (o.own n && f n)

-- m on each of them, by rising edge number
unfoldable pub on_each : Own → (ℕ → Bool) → Msg → ℕ → List Send
on_each o f m zero = []
on_each o f m (suc n) = on_each o f m n ++ cond (o.own n && f n) (record { edge = n; msg = m } ∷ []) []

-- the test that every edge passes
abbrev pub any_edge : ℕ → Bool
any_edge k = true

-- "adjacent edges in the state Basic"
abbrev pub basic : Work → ℕ → Bool
basic w k = eqb (w.mark k) BASIC

-- the number of own edges
abbrev pub degree : Own → ℕ
degree o = number o any_edge (o.edges)
