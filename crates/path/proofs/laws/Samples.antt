-- Paths and marks on small plans, as rows that the definitions compute: the samples of requests 07 and 08 and every refusal (`path-samples`, `near-samples`).
use Rattle.std.specs.Prelude.{ℕ, ◌≡◌, refl, List, [], ◌∷◌, map}
use Rattle.base.specs.None.{none}
use Rattle.base.specs.Loop.{After}
use Rattle.graph.specs.Decide.{in_tree}
use Rattle.graph.specs.Between.{latest_from}
use Rattle.graph.specs.Parts.{together}
use Rattle.plan.specs.Links.{Plan}
use Rattle.plan.specs.Weights.{cost, earlier}
use Rattle.plan.specs.Refusal.{ascends, in_order, link_verdict, links_refusal, plan_refusal}
use Rattle.plan.proofs.laws.Samples.{worse_reading}
use Rattle.plan_tree.proofs.laws.Samples.{two_banks}
use Rattle.path.specs.Between.{PathShown, path_between}
use Rattle.path.specs.Near.{mark_near}

-- PLANS

-- four modules in a row 0-3, 3-1, 1-2, by the links 0, 2, 1; the costs are given
abbrev row : ℕ → ℕ → ℕ → Plan
row a b c = 4 ∷ 3 ∷ 0 ∷ 3 ∷ a ∷ 0 ∷ 1 ∷ 2 ∷ 0 ∷ b ∷ 1 ∷ 3 ∷ c ∷ c ∷ []

-- three links with the same cost: 4 and 4, 4 and 1, 0 and 4; all 2 and 3
abbrev by_sum : Plan
by_sum = 3 ∷ 3 ∷ 0 ∷ 1 ∷ 4 ∷ 4 ∷ 0 ∷ 2 ∷ 4 ∷ 1 ∷ 1 ∷ 2 ∷ 0 ∷ 4 ∷ []

abbrev by_number : Plan
by_number = 3 ∷ 3 ∷ 0 ∷ 1 ∷ 2 ∷ 3 ∷ 0 ∷ 2 ∷ 2 ∷ 3 ∷ 1 ∷ 2 ∷ 2 ∷ 3 ∷ []

-- two modules without a link
abbrev unlinked : Plan
unlinked = 2 ∷ 0 ∷ []

-- what is refused: 16 the first link's ends, 17 the same link twice, 18 a reading
abbrev turned_link : Plan
turned_link = 2 ∷ 1 ∷ 1 ∷ 0 ∷ 5 ∷ 5 ∷ []

abbrev two_links : Plan
two_links = 2 ∷ 2 ∷ 0 ∷ 1 ∷ 5 ∷ 5 ∷ 0 ∷ 1 ∷ 5 ∷ 5 ∷ []

abbrev high_reading : Plan
high_reading = 2 ∷ 1 ∷ 0 ∷ 1 ∷ 5 ∷ 2001 ∷ []

-- PATHS

pub record PathRow : Type 0 where
  pub plan : Plan
  pub from : ℕ
  pub to : ℕ
  pub lent : List ℕ
  pub refusal : ℕ
  pub way : ℕ
  pub length : ℕ
  pub worst : ℕ
  pub buffer : List ℕ

-- what is answered, and what the buffer holds then
abbrev shows : Plan → ℕ → ℕ → List ℕ → ℕ → ℕ → List ℕ → PathRow
shows p u v lent length worst buffer = record { plan = p; from = u; to = v; lent = lent; refusal = 0; way = 1; length = length; worst = worst; buffer = buffer }

-- refused by a number, the buffer as it was
abbrev refuses : Plan → ℕ → ℕ → List ℕ → ℕ → PathRow
refuses p u v lent refusal = record { plan = p; from = u; to = v; lent = lent; refusal = refusal; way = 0; length = 0; worst = none; buffer = lent }

-- no way: no refusal, the buffer as it was
abbrev lacks : Plan → ℕ → ℕ → List ℕ → PathRow
lacks p u v lent = refuses p u v lent 0

-- request 07's samples: 0 to 2 over module 1, which is the longer way by number of links and the better one
unfoldable pub path_rows : List PathRow
path_rows =
    shows worse_reading 0 2 (7 ∷ 7 ∷ 7 ∷ 7 ∷ []) 2 2 (0 ∷ 2 ∷ 7 ∷ 7 ∷ [])
    ∷ shows worse_reading 2 0 (7 ∷ 7 ∷ []) 2 2 (2 ∷ 0 ∷ [])
    ∷ refuses worse_reading 2 0 (7 ∷ []) 79
    ∷ shows worse_reading 1 1 [] 0 none []
    ∷ shows worse_reading 1 1 (7 ∷ []) 0 none (7 ∷ [])
    ∷ shows worse_reading 1 2 (7 ∷ 8 ∷ []) 1 2 (2 ∷ 8 ∷ [])
    ∷ refuses worse_reading 0 3 [] 41
    ∷ refuses worse_reading 3 0 [] 41
    ∷ refuses worse_reading 3 3 [] 41
    ∷ refuses worse_reading 0 4 (7 ∷ 7 ∷ []) 41
    -- the worst link in the middle, first and last
    ∷ shows (row 1 2 3) 0 2 (7 ∷ 7 ∷ 7 ∷ []) 3 2 (0 ∷ 2 ∷ 1 ∷ [])
    ∷ shows (row 3 2 1) 0 2 (7 ∷ 7 ∷ 7 ∷ 8 ∷ 9 ∷ []) 3 0 (0 ∷ 2 ∷ 1 ∷ 8 ∷ 9 ∷ [])
    ∷ shows (row 2 3 1) 0 2 (7 ∷ 7 ∷ 7 ∷ []) 3 1 (0 ∷ 2 ∷ 1 ∷ [])
    ∷ shows (row 2 3 1) 2 0 (7 ∷ 7 ∷ 7 ∷ []) 3 1 (1 ∷ 2 ∷ 0 ∷ [])
    ∷ shows (row 2 3 1) 0 1 (7 ∷ 7 ∷ 7 ∷ []) 2 0 (0 ∷ 2 ∷ 7 ∷ [])
    ∷ refuses (row 1 2 3) 0 2 (7 ∷ 7 ∷ []) 79
    -- of equal costs by the sum of the readings, of equal sums by number
    ∷ shows by_sum 0 1 (7 ∷ 7 ∷ []) 2 1 (1 ∷ 2 ∷ [])
    ∷ shows by_sum 1 0 (7 ∷ 7 ∷ []) 2 1 (2 ∷ 1 ∷ [])
    ∷ shows by_number 1 2 (7 ∷ 7 ∷ []) 2 1 (0 ∷ 1 ∷ [])
    ∷ shows by_number 2 1 (7 ∷ 7 ∷ []) 2 1 (1 ∷ 0 ∷ [])
    -- one module, and nobody
    ∷ shows (1 ∷ 0 ∷ []) 0 0 [] 0 none []
    ∷ refuses (0 ∷ 0 ∷ []) 0 0 (7 ∷ []) 41
    -- the plan's checks first
    ∷ refuses (193 ∷ 0 ∷ []) 0 0 [] 14
    ∷ refuses (2 ∷ 601 ∷ []) 5 5 [] 15
    ∷ refuses turned_link 0 1 [] 16
    ∷ refuses two_links 0 1 (7 ∷ []) 17
    ∷ refuses high_reading 2 1 [] 18
    -- request 08: no way over the water, with or without room, after 41; along one bank as before
    ∷ lacks two_banks 0 2 []
    ∷ lacks two_banks 3 1 (7 ∷ 8 ∷ 9 ∷ [])
    ∷ shows two_banks 0 1 (7 ∷ 8 ∷ []) 1 0 (0 ∷ 8 ∷ [])
    ∷ shows two_banks 3 2 (7 ∷ []) 1 1 (1 ∷ [])
    ∷ shows two_banks 2 2 [] 0 none []
    ∷ refuses two_banks 2 3 [] 79
    ∷ refuses two_banks 0 4 [] 41
    ∷ lacks unlinked 0 1 (7 ∷ 7 ∷ [])
    ∷ lacks unlinked 1 0 []
    ∷ shows unlinked 1 1 [] 0 none []
    ∷ []

unfoldable pub path_done : PathRow → PathShown
unfolding path_between
path_done r = path_between r.plan r.from r.to r.lent

abbrev pub path_said : PathRow → PathShown
path_said r = record { answer = record { refusal = r.refusal; way = r.way; length = r.length; worst = r.worst }; buffer = r.buffer }

pub path-samples : map path_done path_rows ≡ map path_said path_rows
unfolding path_rows path_done earlier cost plan_refusal links_refusal link_verdict in_order ascends together in_tree latest_from
path-samples = refl

-- MARKS

pub record NearRow : Type 0 where
  pub plan : Plan
  pub from : ℕ
  pub within : ℕ
  pub lent : List ℕ
  pub refusal : ℕ
  pub bytes : List ℕ

abbrev marks : Plan → ℕ → ℕ → List ℕ → List ℕ → NearRow
marks p m h lent bytes = record { plan = p; from = m; within = h; lent = lent; refusal = 0; bytes = bytes }

abbrev leaves : Plan → ℕ → ℕ → List ℕ → ℕ → NearRow
leaves p m h lent refusal = record { plan = p; from = m; within = h; lent = lent; refusal = refusal; bytes = lent }

unfoldable pub near_rows : List NearRow
near_rows =
    marks worse_reading 0 0 (7 ∷ 7 ∷ 7 ∷ 7 ∷ []) (1 ∷ 0 ∷ 0 ∷ 7 ∷ [])
    ∷ marks worse_reading 0 1 (7 ∷ 7 ∷ 7 ∷ []) (1 ∷ 1 ∷ 0 ∷ [])
    ∷ marks worse_reading 2 1 (7 ∷ 7 ∷ 7 ∷ []) (0 ∷ 1 ∷ 1 ∷ [])
    ∷ marks worse_reading 2 2 (7 ∷ 7 ∷ 7 ∷ 8 ∷ 9 ∷ []) (1 ∷ 1 ∷ 1 ∷ 8 ∷ 9 ∷ [])
    ∷ leaves worse_reading 0 1 (7 ∷ 7 ∷ []) 79
    ∷ leaves worse_reading 3 1 (7 ∷ 7 ∷ []) 41
    ∷ leaves worse_reading 3 1 (7 ∷ 7 ∷ 7 ∷ []) 41
    -- by links, not by their costs
    ∷ marks (row 1 2 3) 0 1 (7 ∷ 7 ∷ 7 ∷ 7 ∷ []) (1 ∷ 0 ∷ 0 ∷ 1 ∷ [])
    ∷ marks (row 1 2 3) 0 2 (7 ∷ 7 ∷ 7 ∷ 7 ∷ []) (1 ∷ 1 ∷ 0 ∷ 1 ∷ [])
    ∷ marks (row 3 2 1) 1 1 (7 ∷ 7 ∷ 7 ∷ 7 ∷ []) (0 ∷ 1 ∷ 1 ∷ 1 ∷ [])
    ∷ marks (row 3 2 1) 2 4294967295 (7 ∷ 7 ∷ 7 ∷ 7 ∷ 7 ∷ []) (1 ∷ 1 ∷ 1 ∷ 1 ∷ 7 ∷ [])
    ∷ marks (1 ∷ 0 ∷ []) 0 0 (7 ∷ []) (1 ∷ [])
    ∷ leaves (0 ∷ 0 ∷ []) 0 0 [] 41
    ∷ leaves (193 ∷ 0 ∷ []) 193 0 [] 14
    ∷ leaves (2 ∷ 601 ∷ []) 0 1 [] 15
    ∷ leaves turned_link 2 1 (7 ∷ 7 ∷ []) 16
    ∷ leaves two_links 0 1 (7 ∷ 7 ∷ []) 17
    ∷ leaves high_reading 0 1 [] 18
    -- request 08: the other bank is not marked, however large h
    ∷ marks two_banks 2 5 (7 ∷ 7 ∷ 7 ∷ 7 ∷ 7 ∷ []) (0 ∷ 0 ∷ 1 ∷ 1 ∷ 7 ∷ [])
    ∷ marks two_banks 0 0 (7 ∷ 7 ∷ 7 ∷ 7 ∷ []) (1 ∷ 0 ∷ 0 ∷ 0 ∷ [])
    ∷ marks unlinked 1 9 (7 ∷ 7 ∷ []) (0 ∷ 1 ∷ [])
    ∷ leaves unlinked 0 9 (7 ∷ []) 79
    ∷ leaves unlinked 2 9 (7 ∷ []) 41
    ∷ []

unfoldable pub marks_done : NearRow → After (List ℕ)
unfolding mark_near
marks_done r = mark_near r.plan r.from r.within r.lent

abbrev pub marks_said : NearRow → After (List ℕ)
marks_said r = record { refusal = r.refusal; state = r.bytes }

pub near-samples : map marks_done near_rows ≡ map marks_said near_rows
unfolding near_rows marks_done earlier cost plan_refusal links_refusal link_verdict in_order ascends together in_tree
near-samples = refl
