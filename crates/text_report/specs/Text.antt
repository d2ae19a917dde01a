-- What the reporting program prints of a field and a number of rounds. (Document 01, samples, has one whole.)
use Rattle.std.specs.Prelude.{ℕ, zero, suc, ◌*◌, min, Bool, cond, not, ◌&&◌, ◌||◌, get_or, eqb}
use mathlib.Core.List.{List, [], ◌++◌, flat_map}
use Rattle.format_text.specs.Ascii.{ascii}
use Rattle.format_text.specs.Lines.{named, line}
use Rattle.plan.specs.Weights.{cost}
use Rattle.base.specs.Ceiling.{ceiling}
use Rattle.graph.specs.Graph.{Graph}
use Rattle.graph.specs.Parts.{together, lowests, part_nodes}
use Rattle.plan.specs.Links.{Plan, modules_of, links_of, lower_of, higher_of, graph_of}
use Rattle.plan.specs.Refusal.{plan_refusal}
use Rattle.base.specs.Limits.{max_links}
use Rattle.node.specs.Work.{BRANCH}
use Rattle.field.specs.declared.Field.{Field}
use Rattle.field.specs.State.{node_in}
use Rattle.text_report.specs.Total.{total}

abbrev pub sizes_text : ℕ → ℕ → List ℕ
sizes_text n l = line "modules " n ++ line "links " l

-- "Branch lines give lower, higher and cost": one for a link whose mark is Branch
abbrev pub branch_line : ℕ → ℕ → ℕ → List ℕ
branch_line lower higher c = named "branch " lower ++ named " " higher ++ line " " c

unfoldable pub branch_text : ℕ → ℕ → ℕ → ℕ → List ℕ
branch_text mark lower higher c = cond (eqb mark BRANCH) (branch_line lower higher c) []

-- "by link number": of the links below k, by the lower end's mark. At rest both ends say the same (demand 3).
unfoldable pub branch_lines : Plan → List ℕ → ℕ → List ℕ
branch_lines p marks zero = []
branch_lines p marks (suc k) =
    branch_lines p marks k ++ branch_text (get_or marks (2 * k) 0) (lower_of p k) (higher_of p k) (cost p k)

-- "core names the halted ends": of the modules of u's part that are below v, by number
unfoldable pub end_text : Bool → ℕ → ℕ → List ℕ
end_text in_part halted v = cond (in_part && eqb halted 1) (named " " v) []

unfoldable pub ends_text : Graph → List ℕ → ℕ → ℕ → List ℕ
ends_text g cells u zero = []
ends_text g cells u (suc v) = ends_text g cells u v ++ end_text (together g u v) (node_in cells v).halted v

-- "a core line for each", ""core none" for a part of one" (request 08): that of u's part
unfoldable pub part_text : Graph → ℕ → List ℕ → ℕ → List ℕ
part_text g n cells u = cond (eqb (part_nodes g n u) 1) (ascii "core none\n") (ascii "core" ++ ends_text g cells u n ++ ascii "\n")

-- one for each part whose lowest module is below v, "in that order"
abbrev pub part_lines : Plan → List ℕ → ℕ → List ℕ
part_lines p cells v = flat_map (part_text (graph_of p) (modules_of p) cells) (lowests (graph_of p) v)

-- one for each part; "the blank plan keeps its single line". A plan that would be refused, which only a caller's own field can have, is not asked for its parts: a
-- single line too.
unfoldable pub core_text : Plan → List ℕ → List ℕ
core_text p cells = cond (eqb (modules_of p) 0 || not (eqb (plan_refusal p) 0)) (ascii "core none\n") (part_lines p cells (modules_of p))

-- "then sent and M, rounds completed"
abbrev pub tail_text : ℕ → ℕ → ℕ → List ℕ
tail_text sent most rounds = named "messages " sent ++ line " of " most ++ line "rounds " rounds

-- The whole. (An accepted plan has no more than 600 links, and a field has room for no more.)
unfoldable pub report_text : Field → ℕ → List ℕ
report_text f rounds =
    sizes_text (modules_of f.plan) (links_of f.plan)
    ++ branch_lines f.plan f.marks (min (links_of f.plan) max_links)
    ++ line "total " (total f.plan f.marks (min (links_of f.plan) max_links))
    ++ core_text f.plan f.cells
    ++ tail_text f.sent (ceiling (modules_of f.plan) (links_of f.plan)) rounds
