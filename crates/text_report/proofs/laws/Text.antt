-- The parts of a report put one after the other are the report (`report-parts`, `report-of`); one law for each line's outcome and each turn of
-- its loops.
use Rattle.std.specs.Prelude.{ℕ, ◌+◌, ◌*◌, ◌≤◌, min, ◌≡◌, ◌≢◌, Bool, true, false, ◌&&◌, ◌||◌, get_or, eqb}
use Rattle.std.proofs.Common.{arith, add-one}
use Rattle.std.proofs.Math.Path.{refl}
use Rattle.std.proofs.Math.Bool.{cond}
use mathlib.Core.List.{List, [], ◌++◌, flat_map}
use borrow.Author.Tests.{eq-eqb, ne_eqb}
use Rattle.base.proofs.laws.Loop.{by-test}
use Rattle.graph.specs.Graph.{Graph}
use Rattle.graph.specs.Parts.{together, lowest, lowests, part_nodes}
use Rattle.graph.proofs.laws.Parts.{lowests-flat}
use Rattle.format_text.specs.Ascii.{ascii}
use Rattle.format_text.specs.Lines.{named, line}
use Rattle.format_text.specs.Put.{Page, put}
use Rattle.format_text.proofs.laws.Put.{put_on}
use Rattle.plan.specs.Weights.{cost}
use Rattle.base.specs.Ceiling.{ceiling}
use Rattle.plan.specs.Links.{Plan, modules_of, links_of, lower_of, higher_of, graph_of}
use Rattle.plan.specs.Refusal.{plan_refusal}
use Rattle.base.specs.Limits.{max_links}
use Rattle.node.specs.declared.Node.{Node}
use Rattle.node.specs.Work.{BRANCH}
use Rattle.field.specs.declared.Field.{Field}
use Rattle.field.specs.State.{node_in}
use Rattle.text_report.specs.Total.{total}
use Rattle.text_report.specs.Text.{sizes_text, branch_line, branch_text, branch_lines, end_text, ends_text, part_text, part_lines, core_text, tail_text, report_text}

-- its five parts, each put on what the part before left
pub report-parts : (f : Field) (rounds : ℕ) (p : Page) {q₁ q₂ q₃ q₄ q₅ : Page}
    → q₁ ≡ put p (sizes_text (modules_of f.plan) (links_of f.plan))
    → q₂ ≡ put q₁ (branch_lines f.plan f.marks (min (links_of f.plan) max_links))
    → q₃ ≡ put q₂ (line "total " (total f.plan f.marks (min (links_of f.plan) max_links)))
    → q₄ ≡ put q₃ (core_text f.plan f.cells)
    → q₅ ≡ put q₄ (tail_text f.sent (ceiling (modules_of f.plan) (links_of f.plan)) rounds)
    → q₅ ≡ put p (report_text f rounds)
unfolding report_text
report-parts f rounds p e₁ e₂ e₃ e₄ e₅ =
    let h = sizes_text (modules_of f.plan) (links_of f.plan) in
    let b = branch_lines f.plan f.marks (min (links_of f.plan) max_links) in
    let t = line "total " (total f.plan f.marks (min (links_of f.plan) max_links)) in
    let k = core_text f.plan f.cells in
    put_on p (h ++ b ++ t ++ k) _ (put_on p (h ++ b ++ t) k (put_on p (h ++ b) t (put_on p h b e₁ e₂) e₃) e₄) e₅

-- the same of a plan that a field has room for, each part as it is known to be
pub report-of : (f : Field) (rounds : ℕ) (p : Plan) → f.plan ≡ p → links_of p ≤ max_links → {b k : List ℕ} {t : ℕ}
    → branch_lines p f.marks (links_of p) ≡ b → total p f.marks (links_of p) ≡ t → core_text p f.cells ≡ k
    → report_text f rounds
    ≡ sizes_text (modules_of p) (links_of p) ++ b ++ line "total " t ++ k ++ tail_text f.sent (ceiling (modules_of p) (links_of p)) rounds
unfolding report_text
report-of f rounds p e l eb et ek = let all : min (links_of p) max_links ≡ links_of p = omega arith in rw (e, all, eb, et, ek) refl

-- For code: which line, one turn more.
module _ (mark lower higher c : ℕ) where
  pub branch-none : mark ≢ BRANCH → branch_text mark lower higher c ≡ []
  unfolding branch_text
  branch-none h = simp (ne_eqb _ _ h)

  pub branch_one : mark ≡ BRANCH → branch_text mark lower higher c ≡ branch_line lower higher c
  unfolding branch_text
  branch_one h = simp (eq-eqb _ _ h)

module _ (halted v : ℕ) where
  pub end-elsewhere : (in_part : Bool) → in_part ≡ false → end_text in_part halted v ≡ []
  unfolding end_text
  end-elsewhere in_part e = rw e

  pub end_none : (in_part : Bool) → halted ≢ 1 → end_text in_part halted v ≡ []
  unfolding end_text
  end_none in_part h = rw (ne_eqb _ _ h) (by-test in_part (λ b. cond (b && false) (named " " v) [] ≡ []) refl refl)

  pub end-one : (in_part : Bool) → in_part ≡ true → halted ≡ 1 → end_text in_part halted v ≡ named " " v
  unfolding end_text
  end-one in_part e h = rw (e, eq-eqb _ _ h)

module _ (g : Graph) (n : ℕ) (cells : List ℕ) (u : ℕ) where
  pub part-line-none : part_nodes g n u ≡ 1 → part_text g n cells u ≡ ascii "core none\n"
  unfolding part_text
  part-line-none h = simp (eq-eqb _ _ h)

  pub part-line-ends : part_nodes g n u ≢ 1 → part_text g n cells u ≡ ascii "core" ++ ends_text g cells u n ++ ascii "\n"
  unfolding part_text
  part-line-ends h = simp (ne_eqb _ _ h)

module _ (p : Plan) (cells : List ℕ) where
  pub core-blank : modules_of p ≡ 0 → core_text p cells ≡ ascii "core none\n"
  unfolding core_text
  core-blank e = rw (eq-eqb (modules_of p) 0 e)

  pub core-unparted : plan_refusal p ≢ 0 → core_text p cells ≡ ascii "core none\n"
  unfolding core_text
  core-unparted h = rw (ne_eqb (plan_refusal p) 0 h) (by-test (eqb (modules_of p) 0) (λ b. cond (b || true) (ascii "core none\n") (part_lines p cells (modules_of p)) ≡ ascii "core none\n") refl refl)

  pub core-parts : modules_of p ≢ 0 → plan_refusal p ≡ 0 → core_text p cells ≡ part_lines p cells (modules_of p)
  unfolding core_text
  core-parts n e = rw (ne_eqb (modules_of p) 0 n, eq-eqb (plan_refusal p) 0 e)

  pub parts_none : part_lines p cells 0 ≡ []
  unfolding lowests flat_map
  parts_none = refl

  pub parts-turn : (v : ℕ) → part_lines p cells v ++ cond (lowest (graph_of p) v) (part_text (graph_of p) (modules_of p) cells v) [] ≡ part_lines p cells (v + 1)
  parts-turn v = rw add-one (lowests-flat (graph_of p) (part_text (graph_of p) (modules_of p) cells) v)

pub lines_none : (p : Plan) (marks : List ℕ) → branch_lines p marks 0 ≡ []
unfolding branch_lines
lines_none p marks = refl

pub lines-turn : (p : Plan) (marks : List ℕ) (k : ℕ) {a b c : ℕ} → a ≡ lower_of p k → b ≡ higher_of p k → c ≡ cost p k
    → branch_lines p marks k ++ branch_text (get_or marks (2 * k) 0) a b c ≡ branch_lines p marks (k + 1)
unfolding branch_lines
lines-turn p marks k ea eb ec = rw (ea, eb, ec, add-one)

module _ (g : Graph) (cells : List ℕ) (u : ℕ) where
  pub ends-none : ends_text g cells u 0 ≡ []
  unfolding ends_text
  ends-none = refl

  pub ends-turn : (v : ℕ) (b : Bool) (n : Node) → b ≡ together g u v → n ≡ node_in cells v → ends_text g cells u v ++ end_text b n.halted v ≡ ends_text g cells u (v + 1)
  unfolding ends_text
  ends-turn v b n eb en = rw (add-one v, eb, en) refl

pub capped : (n x most : ℕ) → n ≡ min x most → n ≤ most
capped n x most e = omega arith
