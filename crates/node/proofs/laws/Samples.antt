-- Samples of the rules: the starred one of document 01, its corners and traps, each refusal 32. One theorem over the table (`samples`).
use Rattle.std.specs.Prelude.{ℕ, ◌≡◌, refl, List, [], ◌∷◌}
use Rattle.base.specs.Cond.{upd}
use Rattle.base.specs.None.{before_by}
use Rattle.format_message.specs.Msg.{Msg, none, connect, initiate, test, accept, reject, report, change}
use Rattle.node.specs.Work.{earliest, number, on_each}
use Rattle.node.specs.Rules.{wake_on, awake, do_report, test_on, change_root, count_up, absorb, core_end, on_connect, seek, on_initiate, on_test, child_report, core_report, on_report, unless_asleep, respond_to}
use Rattle.node.proofs.laws.Table.{ResponseRow, ResponseShown, gots, wants}

-- All samples are of one node with the own edges 0, 1 and 3, of weights 7, 5 and 5; edge 2 is not its own; the level limit is 2.
-- A node is (status, level, identity, weight, best, test, branch, count, halted, waking), a send (edge, kind, level, carried, Find).
abbrev row : List ℕ → List ℕ → ℕ → Msg → ResponseShown → ResponseRow
row n marks j m want =
    record {
      own = 1 ∷ 1 ∷ 0 ∷ 1 ∷ [];
      weights = 7 ∷ 5 ∷ 1 ∷ 5 ∷ [];
      limit = 2;
      node = n;
      marks = marks;
      edge = j;
      msg = m;
      want = want;
    }

abbrev taken : List ℕ → List ℕ → List (List ℕ) → ResponseShown
taken n marks sends = record { answer = 0; node = n; marks = marks; sends = sends }

abbrev back : List ℕ → List ℕ → List (List ℕ) → ResponseShown
back n marks sends = record { answer = 1; node = n; marks = marks; sends = sends }

abbrev refusal : ResponseShown
refusal = record { answer = 32; node = []; marks = []; sends = [] }

abbrev asleep : List ℕ
asleep = 0 ∷ 0 ∷ none ∷ none ∷ none ∷ none ∷ none ∷ 0 ∷ 0 ∷ none ∷ []

-- woken by a message that came over edge j
abbrev woken : ℕ → List ℕ
woken j = 2 ∷ 0 ∷ none ∷ none ∷ none ∷ none ∷ none ∷ 0 ∷ 0 ∷ j ∷ []

-- a node of level 1, identity 1, in-branch 1, woken over edge 0, that tests edge 3 and waits for no Report
abbrev finder : List ℕ
finder = 1 ∷ 1 ∷ 1 ∷ none ∷ none ∷ 3 ∷ 1 ∷ 0 ∷ 0 ∷ 0 ∷ []

-- the same once it has found edge 3
abbrev finds : List ℕ
finds = 2 ∷ 1 ∷ 1 ∷ 3 ∷ 3 ∷ none ∷ 1 ∷ 0 ∷ 0 ∷ 0 ∷ []

-- the same, woken by a wake step
abbrev stepped : List ℕ
stepped = 2 ∷ 1 ∷ 1 ∷ 3 ∷ 3 ∷ none ∷ 1 ∷ 0 ∷ 0 ∷ none ∷ []

-- the same once it has found nothing
abbrev empty : List ℕ
empty = 2 ∷ 1 ∷ 1 ∷ none ∷ none ∷ none ∷ 1 ∷ 0 ∷ 0 ∷ 0 ∷ []

abbrev basics : List ℕ
basics = 0 ∷ 0 ∷ 0 ∷ 0 ∷ []

abbrev one : List ℕ
one = 0 ∷ 1 ∷ 0 ∷ 0 ∷ []

-- * "Serving a Test of level 1 at a sleeper: it wakes, sends Connect, the Test goes to the end." Of its own edges 1 is the earliest. The put-back
-- keeps the waking edge.
abbrev pub test_at_sleeper : ResponseRow
test_at_sleeper = row asleep basics 0 (test 1 2) (back (woken 0) one ((1 ∷ 1 ∷ 0 ∷ none ∷ 0 ∷ []) ∷ []))

abbrev pub table : List ResponseRow
table =
    test_at_sleeper
    -- a Connect on the edge that the wake chose: both ends are branch, so the next level begins
    ∷ row asleep basics 1 (connect 0) (taken (woken 1) one ((1 ∷ 1 ∷ 0 ∷ none ∷ 0 ∷ []) ∷ (1 ∷ 2 ∷ 1 ∷ 1 ∷ 1 ∷ []) ∷ []))
    -- absorbed while Find: find-count rises
    ∷ row finder one 0 (connect 0) (taken (1 ∷ 1 ∷ 1 ∷ none ∷ none ∷ 3 ∷ 1 ∷ 1 ∷ 0 ∷ 0 ∷ []) (1 ∷ 1 ∷ 0 ∷ 0 ∷ []) ((0 ∷ 2 ∷ 1 ∷ 1 ∷ 1 ∷ []) ∷ []))
    -- absorbed while Found: it does not
    ∷ row finds one 0 (connect 0) (taken finds (1 ∷ 1 ∷ 0 ∷ 0 ∷ []) ((0 ∷ 2 ∷ 1 ∷ 1 ∷ 0 ∷ []) ∷ []))
    -- what is served later does not change what woke it, a wake step or a message
    ∷ row finds one 3 (connect 0) (taken finds (0 ∷ 1 ∷ 0 ∷ 1 ∷ []) ((3 ∷ 2 ∷ 1 ∷ 1 ∷ 0 ∷ []) ∷ []))
    ∷ row stepped one 0 (connect 0) (taken stepped (1 ∷ 1 ∷ 0 ∷ 0 ∷ []) ((0 ∷ 2 ∷ 1 ∷ 1 ∷ 0 ∷ []) ∷ []))
    ∷ row stepped one 0 (test 1 2) (taken stepped one ((0 ∷ 4 ∷ 0 ∷ none ∷ 0 ∷ []) ∷ []))
    ∷ row finds one 1 change (taken finds (0 ∷ 1 ∷ 0 ∷ 1 ∷ []) ((3 ∷ 1 ∷ 1 ∷ none ∷ 0 ∷ []) ∷ []))
    -- a Connect of the own level on a Basic edge waits
    ∷ row finds one 0 (connect 1) (back finds one [])
    -- copies by rising number, then the Test
    ∷ row finds (1 ∷ 1 ∷ 0 ∷ 0 ∷ []) 1 (initiate 2 0 1) (taken (1 ∷ 2 ∷ 0 ∷ none ∷ none ∷ 3 ∷ 1 ∷ 1 ∷ 0 ∷ 0 ∷ []) (1 ∷ 1 ∷ 0 ∷ 0 ∷ []) ((0 ∷ 2 ∷ 2 ∷ 0 ∷ 1 ∷ []) ∷ (3 ∷ 3 ∷ 2 ∷ 0 ∷ 0 ∷ []) ∷ []))
    -- a Test of a level above one's own waits; one of another fragment is accepted
    ∷ row finds one 0 (test 2 1) (back finds one [])
    ∷ row finds one 0 (test 1 2) (taken finds one ((0 ∷ 4 ∷ 0 ∷ none ∷ 0 ∷ []) ∷ []))
    -- a late Test of the own fragment on a Branch edge leaves it Branch; so does a Reject
    ∷ row finds one 1 (test 1 1) (taken finds one ((1 ∷ 5 ∷ 0 ∷ none ∷ 0 ∷ []) ∷ []))
    ∷ row finder (0 ∷ 1 ∷ 0 ∷ 1 ∷ []) 3 reject (taken (1 ∷ 1 ∷ 1 ∷ none ∷ none ∷ 0 ∷ 1 ∷ 0 ∷ 0 ∷ 0 ∷ []) (0 ∷ 1 ∷ 0 ∷ 1 ∷ []) ((0 ∷ 3 ∷ 1 ∷ 1 ∷ 0 ∷ []) ∷ []))
    -- Accept on the test edge: the Report goes by the in-branch
    ∷ row finder one 3 accept (taken finds one ((1 ∷ 6 ∷ 0 ∷ 3 ∷ 0 ∷ []) ∷ []))
    -- a Report on the in-branch: earlier does nothing, later changes the root, none against none halts
    ∷ row finds one 1 (report 2) (taken finds one [])
    ∷ row finds one 1 (report 0) (taken finds (0 ∷ 1 ∷ 0 ∷ 1 ∷ []) ((3 ∷ 1 ∷ 1 ∷ none ∷ 0 ∷ []) ∷ []))
    ∷ row empty one 1 (report none) (taken (2 ∷ 1 ∷ 1 ∷ none ∷ none ∷ none ∷ 1 ∷ 0 ∷ 1 ∷ 0 ∷ []) one [])
    ∷ row finder one 1 (report none) (back finder one [])
    -- refused by 32: a sleeper serves another kind; an Initiate above the limit; find-count below 0 and above the own edges;
    -- a Report with in-branch none; change-root with best edge none; a Test of level 0
    ∷ row asleep basics 1 (initiate 1 1 0) refusal
    ∷ row (2 ∷ 2 ∷ 1 ∷ 3 ∷ 3 ∷ none ∷ 1 ∷ 0 ∷ 0 ∷ 0 ∷ []) one 1 (connect 2) refusal
    ∷ row finder one 3 (report 2) refusal
    ∷ row (1 ∷ 1 ∷ 1 ∷ none ∷ none ∷ 3 ∷ 1 ∷ 3 ∷ 0 ∷ 0 ∷ []) one 0 (connect 0) refusal
    ∷ row (1 ∷ 1 ∷ 1 ∷ none ∷ none ∷ 3 ∷ none ∷ 0 ∷ 0 ∷ 0 ∷ []) one 3 accept refusal
    ∷ row empty one 3 change refusal
    ∷ row (woken none) one 3 reject refusal
    ∷ []

pub response-samples : gots table ≡ wants table
unfolding upd before_by earliest number on_each wake_on awake do_report test_on change_root count_up absorb core_end on_connect seek on_initiate on_test child_report core_report on_report unless_asleep respond_to
response-samples = refl
