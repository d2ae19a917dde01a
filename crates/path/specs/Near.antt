-- Document 02's request 07: "A second answer writes N bytes, 1 for each module within h branches of one module and 0 otherwise."
use Rattle.std.specs.Prelude.{ℕ, Bool, ◌&&◌, List, ◌++◌, length, drop, ltb, leb}
use Rattle.base.specs.Cond.{bit}
use Rattle.base.specs.Loop.{After, answering}
use Rattle.base.specs.Refuse.{or_else, first_refusal}
use Rattle.base.specs.Table.{tabulate}
use Rattle.graph.specs.Parts.{together}
use Rattle.plan.specs.Links.{graph_of, Plan, modules_of}
use Rattle.plan.specs.Refusal.{plan_refusal}
use Rattle.path.specs.Between.{tree_path}

-- "within h branches": tree links, of the tree path; a module of another part is not (request 08)
abbrev pub within_branches : Plan → ℕ → ℕ → ℕ → Bool
within_branches p m h v = together (graph_of p) m v && leb (length (tree_path p m v)) h

unfoldable pub near_bytes : Plan → ℕ → ℕ → List ℕ
unfolding tabulate together tree_path
near_bytes p m h = tabulate (modules_of p) (λ v. bit (within_branches p m h v))

-- "Errors: 79 a buffer shorter .. than N for the marks; it follows the plan's checks and 41."
unfoldable pub near_refusal : Plan → ℕ → ℕ → ℕ
near_refusal p room m =
    first_refusal (plan_refusal p)
    (or_else (leb (modules_of p) m) 41
    (or_else (ltb room (modules_of p)) 79 0))

-- the answer, and what the lent buffer holds then; "the rest of either buffer keeps"
unfoldable pub mark_near : Plan → ℕ → ℕ → List ℕ → After (List ℕ)
unfolding near_refusal near_bytes
mark_near p m h buffer = answering (near_refusal p (length buffer) m) buffer (near_bytes p m h ++ drop (modules_of p) buffer)
