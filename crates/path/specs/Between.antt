-- Document 02's request 07: "For two modules the answer is the tree path as link numbers, from the first module on, at the front of a lent buffer, and the
-- latest link on it."
use Rattle.std.specs.Prelude.{ℕ, Result, Ok, Err, Option, Some, None, cond, ◌&&◌, ◌||◌, List, ◌++◌, length, drop, eqb, ltb, leb}
use Rattle.base.specs.None.{none}
use Rattle.base.specs.Refuse.{or_else, first_refusal}
use Rattle.graph.specs.Between.{between, latest_of}
use Rattle.graph.specs.Parts.{together}
use Rattle.plan.specs.Links.{graph_of, Plan, modules_of}
use Rattle.plan.specs.Weights.{earlier}
use Rattle.plan.specs.Refusal.{plan_refusal}
use Rattle.plan_tree.specs.Tree.{tree_link}
use Rattle.refusal.specs.declared.Refusal.{Refusal}
use Rattle.refusal.specs.Number.{numbered}
use Rattle.path.specs.declared.LinkPath.{LinkPath}
use Rattle.path.specs.declared.PathFound.{PathFound}

-- "the tree path as link numbers, from the first module on"
unfoldable pub tree_path : Plan → ℕ → ℕ → List ℕ
unfolding between
tree_path p u v = between (graph_of p) (tree_link p) u v

-- "and the latest link on it": none where there is none
abbrev pub worst_on : Plan → List ℕ → ℕ
worst_on p links = latest_of (earlier p) links

-- "Errors: 79 a buffer shorter than the path ..; it follows the plan's checks and 41", for either module. Between parts there is no path to be shorter than.
unfoldable pub path_refusal : Plan → ℕ → ℕ → ℕ → ℕ
unfolding tree_path together
path_refusal p room u v =
    first_refusal (plan_refusal p)
    (or_else (leb (modules_of p) u || leb (modules_of p) v) 41
    (or_else (together (graph_of p) u v && ltb room (length (tree_path p u v))) 79 0))

-- what a call answers, in C's numbers: a path, "no way", or a refusal
abbrev pub path_told : Result (Option LinkPath) Refusal → PathFound
path_told (Ok (Some x)) = record { refusal = 0; way = 1; length = x.length; worst = x.worst }
path_told (Ok None) = record { refusal = 0; way = 0; length = 0; worst = none }
path_told (Err r) = record { refusal = numbered r; way = 0; length = 0; worst = none }

-- what the call answers, and the lent buffer afterwards
pub record PathShown : Type 0 where
  pub answer : PathFound
  pub buffer : List ℕ

-- refused: the number alone, and nothing is written
abbrev pub no_path : ℕ → List ℕ → PathShown
no_path refusal buffer = record { answer = record { refusal = refusal; way = 0; length = 0; worst = none }; buffer = buffer }

-- "A path between parts is answered "no way"." (request 08): no refusal, and nothing is written
abbrev pub no_way : List ℕ → PathShown
no_way buffer = no_path 0 buffer

-- these links at the front; "the rest of either buffer keeps"
abbrev pub this_path : Plan → List ℕ → List ℕ → PathShown
this_path p links buffer = record { answer = record { refusal = 0; way = 1; length = length links; worst = worst_on p links }; buffer = links ++ drop (length links) buffer }

unfoldable pub path_between : Plan → ℕ → ℕ → List ℕ → PathShown
unfolding tree_path together path_refusal
path_between p u v buffer =
    let refusal = path_refusal p (length buffer) u v in
    cond (eqb refusal 0) (cond (together (graph_of p) u v) (this_path p (tree_path p u v) buffer) (no_way buffer)) (no_path refusal buffer)
