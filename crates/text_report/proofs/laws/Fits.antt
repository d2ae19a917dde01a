-- No report has more than 47157 bytes (`report-length`).
use Prim.Native.Nat.{ℕ, zero, suc, ◌+◌, ◌*◌, ◌≤◌, min}
use native.Mathlib.Omega.{arith}
use Rattle.std.specs.Prelude.{Bool, true, false, get_or, eqb}
use Rattle.std.proofs.Math.Bool.{cond}
use mathlib.Core.List.{List, [], ◌++◌, flat_map}
use Rattle.std.proofs.Math.ListN.{length, length-append}
use Rattle.base.specs.Ceiling.{ceiling}
use Rattle.base.specs.Limits.{max_links}
use Rattle.base.specs.Cond.{bit}
use Rattle.base.specs.Sum.{sum}
use Rattle.base.proofs.laws.Cond.{eqb-cases, by-eq}
use Rattle.base.proofs.laws.Loop.{by-test}
use Rattle.graph.specs.Graph.{Graph}
use Rattle.graph.specs.Parts.{together, lowest, lowests, part_nodes}
use Rattle.graph.proofs.laws.Parts.{lowests-flat, parts_share}
use Rattle.format_text.specs.Ascii.{ascii}
use Rattle.format_text.specs.Lines.{named, line}
use Rattle.format_text.proofs.laws.Lines.{both, named-length, line-length}
use Rattle.plan.specs.Links.{Plan, modules_of, links_of, lower_of, higher_of, graph_of}
use Rattle.plan.specs.Refusal.{plan_refusal}
use Rattle.plan.proofs.laws.Accepted.{accepted}
use Rattle.plan.specs.Weights.{cost}
use Rattle.field.specs.declared.Field.{Field}
use Rattle.node.specs.Work.{BRANCH}
use Rattle.field.specs.State.{node_in}
use Rattle.text_report.specs.Total.{total}
use Rattle.text_report.specs.Text.{sizes_text, branch_text, branch_lines, end_text, ends_text, part_text, core_text, tail_text, report_text}
use Rattle.text_report.proofs.laws.Text.{core-blank, core-unparted, core-parts}

branch-length : (mark lower higher c : ℕ) → length (branch_text mark lower higher c) ≤ 70
unfolding branch_text
branch-length mark lower higher c = by-test (eqb mark BRANCH) (λ b. length (cond b (named "branch " lower ++ named " " higher ++ line " " c) []) ≤ 70)
    (both (named "branch " lower ++ named " " higher) (line " " c) (both (named "branch " lower) (named " " higher) (named-length "branch " lower) (named-length " " higher)) (line-length " " c))
    (omega arith)

branches-length : (p : Plan) (marks : List ℕ) (k : ℕ) → length (branch_lines p marks k) ≤ 70 * k
unfolding branch_lines
branches-length p marks zero = omega arith
branches-length p marks (suc k) =
    rw (length-append (branch_lines p marks k) (branch_text (get_or marks (2 * k) 0) (lower_of p k) (higher_of p k) (cost p k)))
    (omega (arith, branches-length p marks k, branch-length (get_or marks (2 * k) 0) (lower_of p k) (higher_of p k) (cost p k)))

end-length : (in_part : Bool) (halted v : ℕ) → length (end_text in_part halted v) ≤ 21 * bit in_part
unfolding end_text
end-length true halted v = by-test (eqb halted 1) (λ b. length (cond b (named " " v) []) ≤ 21) (named-length " " v) (omega arith)
end-length false halted v = omega arith

module _ (g : Graph) (cells : List ℕ) where
  ends-length : (u v : ℕ) → length (ends_text g cells u v) ≤ 21 * sum v (λ w. bit (together g u w))
  unfolding ends_text
  ends-length u zero = omega arith
  ends-length u (suc v) = rw (length-append (ends_text g cells u v) (end_text (together g u v) (node_in cells v).halted v))
      (omega (arith, ends-length u v, end-length (together g u v) (node_in cells v).halted v))

  part_length : (n u : ℕ) → length (part_text g n cells u) ≤ 5 + 21 * part_nodes g n u
  unfolding part_text part_nodes
  part_length n u = eqb-cases (part_nodes g n u) 1 (λ b. length (cond b (ascii "core none\n") (ascii "core" ++ ends_text g cells u n ++ ascii "\n")) ≤ 5 + 21 * part_nodes g n u)
      (λ e. omega arith)
      (λ d. rw (length-append (ascii "core" ++ ends_text g cells u n) (ascii "\n"), length-append (ascii "core") (ends_text g cells u n)) (omega (arith, ends-length u n)))

  -- of the parts whose lowest is below k
  parts-length : (n k : ℕ) → length (flat_map (part_text g n cells) (lowests g k)) ≤ 5 * k + 21 * sum k (λ u. cond (lowest g u) (part_nodes g n u) 0)
  unfolding lowests flat_map
  parts-length n zero = omega arith
  parts-length n (suc k) = rw (← lowests-flat g (part_text g n cells) k, length-append (flat_map (part_text g n cells) (lowests g k)) (cond (lowest g k) (part_text g n cells k) []))
      (by-test (lowest g k)
      (λ b. length (flat_map (part_text g n cells) (lowests g k)) + length (cond b (part_text g n cells k) []) ≤ 5 * suc k + 21 * (cond b (part_nodes g n k) 0 + sum k (λ u. cond (lowest g u) (part_nodes g n u) 0)))
      (omega (arith, parts-length n k, part_length n k))
      (omega (arith, parts-length n k)))

-- each module is named in one line at the most: 5 + 21 bytes for each of 192
core-length : (p : Plan) (cells : List ℕ) → length (core_text p cells) ≤ 4992
core-length p cells = by-eq (modules_of p) 0 (λ e. rw (core-blank p cells e) (omega arith))
    (λ n. by-eq (plan_refusal p) 0
    (λ e. rw (core-parts p cells n e) (omega (arith, parts-length (graph_of p) cells (modules_of p) (modules_of p), parts_share (graph_of p) (modules_of p), (accepted p e).modules_ok)))
    (λ d. rw (core-unparted p cells d) (omega arith)))

lines-length : (p : Plan) (marks : List ℕ) (l : ℕ) → length (branch_lines p marks (min l max_links)) ≤ 42000
lines-length p marks l = omega (arith, branches-length p marks (min l max_links))

sizes-length : (n l : ℕ) → length (sizes_text n l) ≤ 56
sizes-length n l = both (line "modules " n) (line "links " l) (line-length "modules " n) (line-length "links " l)

tail-length : (sent most rounds : ℕ) → length (tail_text sent most rounds) ≤ 82
tail-length sent most rounds =
    both (named "messages " sent ++ line " of " most) (line "rounds " rounds)
    (both (named "messages " sent) (line " of " most) (named-length "messages " sent) (line-length " of " most))
    (line-length "rounds " rounds)

pub report-length : (f : Field) (rounds : ℕ) → length (report_text f rounds) ≤ 47157
unfolding report_text
report-length f rounds =
    let p = f.plan in
    let h = sizes_text (modules_of p) (links_of p) in
    let b = branch_lines p f.marks (min (links_of p) max_links) in
    let sum = total p f.marks (min (links_of p) max_links) in
    let k = core_text p f.cells in
    let t = tail_text f.sent (ceiling (modules_of p) (links_of p)) rounds in
    both (h ++ b ++ line "total " sum ++ k) t
    (both (h ++ b ++ line "total " sum) k
    (both (h ++ b) (line "total " sum) (both h b (sizes-length (modules_of p) (links_of p)) (lines-length p f.marks (links_of p))) (line-length "total " sum))
    (core-length p f.cells))
    (tail-length f.sent (ceiling (modules_of p) (links_of p)) rounds)
