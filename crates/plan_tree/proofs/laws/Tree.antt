-- The outcomes of `central_tree`: refused by the plan's number (`refused-plan`), refused by 20 (`refused-size`), or built (`built`, `exact_bytes`).
-- What a byte tells (`byte-tells`).
use Rattle.std.specs.Prelude.{ℕ, ◌<◌, ◌≡◌, ◌≢◌, List, length, get_or, eqb}
use Rattle.std.proofs.Common.{arith, sym, ◌∙◌, true≢false}
use Rattle.std.proofs.Math.Path.{ap}
use Rattle.base.specs.Cond.{bit}
use Rattle.base.proofs.laws.Cond.{bool_cases, eqb_same, eqb-diff, by-eq}
use Rattle.base.specs.Loop.{answering}
use Rattle.base.proofs.laws.Refuse.{answers-refused}
use Rattle.base.proofs.laws.Table.{get_d_tabulate, tabulated}
use Rattle.graph.proofs.laws.Decide.{in_tree-tree, tree-in_tree}
use Rattle.plan.specs.Links.{graph_of, Plan, links_of}
use Rattle.plan.specs.Weights.{earlier}
use Rattle.plan.specs.Refusal.{plan_refusal}
use Rattle.plan.proofs.laws.Accepted.{Accepted}
use Rattle.plan_tree.specs.laws.Forest.{Ends, Exact}
use Rattle.plan_tree.specs.Lent.{at}
use Rattle.plan_tree.specs.Tree.{tree_link, tree_bytes, tree_refusal, central_tree}

module _ (p : Plan) (out : List ℕ) where
  -- the builder's answer, for each outcome of its tests
  answers : (n : ℕ) → tree_refusal p out ≡ n → answering n out (tree_bytes p) ≡ central_tree p out
  unfolding central_tree
  answers n q = ap (λ m. answering m out (tree_bytes p)) (sym q)

  pub refused-plan : plan_refusal p ≢ 0 → record { refusal = plan_refusal p; state = out } ≡ central_tree p out
  unfolding tree_refusal
  refused-plan n = answers-refused (plan_refusal p) out (tree_bytes p) n ∙ answers (plan_refusal p) (rw (eqb-diff (plan_refusal p) 0 n))

  pub refused-size : plan_refusal p ≡ 0 → length out ≢ links_of p → record { refusal = 20; state = out } ≡ central_tree p out
  unfolding tree_refusal
  refused-size z n = answers 20 (rw (z, eqb-diff (length out) (links_of p) n))

  pub built : plan_refusal p ≡ 0 → length out ≡ links_of p → record { refusal = 0; state = tree_bytes p } ≡ central_tree p out
  unfolding tree_refusal
  built z e = answers 0 (rw (z, e, eqb_same (links_of p)))

  -- what an answer of 0 tells
  pub answered : (central_tree p out).refusal ≡ 0 → (plan_refusal p ≡ 0) × (length out ≡ links_of p)
  answered e = by-eq (plan_refusal p) 0
      (λ z. by-eq (length out) (links_of p) (λ l. (z, l)) (λ n. absurd (omega (arith, ap (λ b. b.refusal) (refused-size z n)))))
      (λ n. absurd (n (ap (λ b. b.refusal) (refused-plan n) ∙ e)))

  pub answered-bytes : (central_tree p out).refusal ≡ 0 → (central_tree p out).state ≡ tree_bytes p
  answered-bytes e = let a = answered e in sym (ap (λ b. b.state) (built a.0 a.1))

-- a byte tells whether its link is in the tree
pub byte-tells : (p : Plan) (k : ℕ) → k < links_of p → eqb (get_or (tree_bytes p) k 0) 1 ≡ tree_link p k
unfolding tree_bytes
byte-tells p k l = rw (get_d_tabulate (links_of p) (λ j. bit (tree_link p j)) k l) (bool_cases (tree_link p k) (λ t. rw t) (λ f. rw f))

-- bytes that mark the tree edges are the tree's bytes
pub exact_bytes : (p : Plan) (s : List ℕ) → length s ≡ links_of p → Exact (graph_of p) (earlier p) (at s) → s ≡ tree_bytes p
unfolding tree_bytes
exact_bytes p s e x = tabulated (links_of p) (λ k. bit (tree_link p k)) s e (λ k l. bool_cases (tree_link p k)
    (λ t. rw t (x.all k l (in_tree-tree (graph_of p) (earlier p) k t)))
    (λ f. rw f (by-eq (at s k) 1 (λ q. absurd (true≢false (sym (tree-in_tree (graph_of p) (earlier p) k (x.tree k l q)) ∙ f))) (λ n. omega (arith, x.byte k l)))))

-- an accepted plan's links are edges between nodes
pub accepted-ends : (p : Plan) → Accepted p → Ends (graph_of p)
accepted-ends p a k l = let o = a.each k l in (omega (arith, o.ordered, o.inside, a.modules_ok), omega (arith, o.inside, a.modules_ok))
