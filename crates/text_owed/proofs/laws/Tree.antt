-- The lines of a field whose marks are the tree's are the tree's lines (`lines-tree`, `total-tree`); of two modules of a part that have halted, its core line
-- (`part-two`).
use Prim.Native.Nat.{ℕ, zero, suc, ◌*◌, ◌≤◌, ◌<◌}
use native.Mathlib.Omega.{arith}
use Rattle.std.specs.Prelude.{◌≡◌, ◌≢◌, true, cond, get_or, eqb}
use Rattle.std.proofs.Math.Path.{refl, ap}
use Rattle.std.proofs.Common.{sym, ◌∙◌}
use mathlib.Core.List.{List, [], ◌++◌, append-nil}
use Rattle.base.proofs.laws.Cond.{bool_cases, by-eq}
use Rattle.base.specs.Sum.{sum}
use Rattle.format_text.specs.Ascii.{ascii}
use Rattle.graph.specs.Graph.{Graph}
use Rattle.graph.specs.Parts.{together, part_nodes}
use Rattle.plan.specs.Weights.{cost}
use Rattle.plan_tree.specs.Tree.{tree_link}
use Rattle.plan.specs.Links.{Plan}
use Rattle.node.specs.Work.{BRANCH}
use Rattle.field.specs.State.{node_in}
use Rattle.text_report.specs.Total.{total}
use Rattle.text_report.specs.Text.{branch_text, branch_lines, end_text, ends_text, part_text}
use Rattle.format_text.specs.Lines.{named}
use Rattle.text_report.proofs.laws.Text.{end-elsewhere, end_none, end-one, part-line-ends}
use Rattle.text_owed.specs.Tree.{tree_lines, core_line}

module _ (p : Plan) (marks : List ℕ) where
  -- of the links below n, lower ends mark those of the tree
  abbrev pub MarksTree : ℕ → Type 0
  MarksTree n = (k : ℕ) → k < n → eqb (get_or marks (2 * k) 0) BRANCH ≡ tree_link p k

  pub lines-tree : (n : ℕ) → MarksTree n → branch_lines p marks n ≡ tree_lines p n
  unfolding branch_lines branch_text tree_lines
  lines-tree zero m = refl
  lines-tree (suc n) m = rw (lines-tree n (λ k l. m k (omega arith)), m n (omega arith)) refl

  pub total-tree : (n : ℕ) → MarksTree n → total p marks n ≡ sum n (λ k. cond (tree_link p k) (cost p k) 0)
  unfolding total
  total-tree zero m = refl
  total-tree (suc n) m = rw (m n (omega arith), total-tree n (λ k l. m k (omega arith)))
      (bool_cases (tree_link p n) (λ t. rw t (omega arith)) (λ f. rw f (omega arith)))

-- THE CORE LINE OF u's PART
module _ (g : Graph) (cells : List ℕ) (u : ℕ) where
  abbrev halted : ℕ → ℕ
  halted v = (node_in cells v).halted

  -- v is of the part, and has halted
  abbrev Shown : ℕ → Type 0
  Shown v = (together g u v ≡ true) × (halted v ≡ 1)

  end-hidden : (v : ℕ) → ¬ Shown v → end_text (together g u v) (halted v) v ≡ []
  end-hidden v h = bool_cases (together g u v) (λ t. end_none (halted v) v _ (λ e. h (t, e))) (λ f. end-elsewhere (halted v) v _ f)

  ends-skip : (m n : ℕ) → m ≤ n → ((v : ℕ) → m ≤ v → v < n → ¬ Shown v) → ends_text g cells u n ≡ ends_text g cells u m
  unfolding ends_text
  ends-skip m zero l h = ap (ends_text g cells u) (let e : 0 ≡ m = omega arith in e)
  ends-skip m (suc n) l h = by-eq m (suc n) (λ e. ap (ends_text g cells u) (sym e))
      (λ d. let k : m ≤ n = omega arith in
      ap (λ t. ends_text g cells u n ++ t) (end-hidden n (h n k (omega arith))) ∙ append-nil (ends_text g cells u n)
      ∙ ends-skip m n k (λ v a b. h v a (omega arith)))

  ends_more : (v : ℕ) → Shown v → ends_text g cells u (suc v) ≡ ends_text g cells u v ++ named " " v
  unfolding ends_text
  ends_more v e = ap (λ t. ends_text g cells u v ++ t) (end-one (halted v) v _ e.0 e.1)

  module _ (a b n : ℕ) (order : a < b) (inside : b < n) (first : Shown a) (second : Shown b)
      (others : (v : ℕ) → v < n → v ≢ a → v ≢ b → ¬ Shown v) where
    ends-two : ends_text g cells u n ≡ named " " a ++ named " " b
    unfolding ends_text
    ends-two =
        ends-skip (suc b) n (omega arith) (λ v l m. others v m (λ e. omega arith) (λ e. omega arith))
        ∙ ends_more b second
        ∙ ap (λ t. t ++ named " " b)
        (ends-skip (suc a) b (omega arith) (λ v l m. others v (omega arith) (λ e. omega arith) (λ e. omega arith))
        ∙ ends_more a first
        ∙ ap (λ t. t ++ named " " a) (ends-skip 0 a (omega arith) (λ v l m. others v (omega arith) (λ e. omega arith) (λ e. omega arith))))

    pub part-two : part_nodes g n u ≢ 1 → part_text g n cells u ≡ core_line a b
    part-two d = part-line-ends g n cells u d ∙ ap (λ t. ascii "core" ++ t ++ ascii "\n") ends-two
