-- What the builder writes (`tree-claim`), by Written: no set of links that joins each part's modules costs less (`written-least`), nor has at the same cost a
-- smaller sum of readings (`written-least-sum`). A refused call alters no byte (`refused-keeps`).
use Rattle.std.specs.Prelude.{ℕ, ◌≤◌, ◌≡◌, ◌≢◌, Bool, List}
use Rattle.std.proofs.Common.{arith}
use Rattle.base.proofs.laws.Cond.{eqb-diff}
use Rattle.plan.specs.Links.{Plan}
use Rattle.plan.specs.Weights.{cost, reading_sum}
use Rattle.plan_tree.specs.Tree.{tree_refusal, central_tree}
use Rattle.plan_tree.specs.Claim.{total_of, JoinsParts, TreeClaim}
use Rattle.plan_tree.proofs.laws.Written.{chosen, joining-spans}
pub use Rattle.plan_tree.proofs.laws.Written.{written-length, written-tree, tree-written, written-other, written-spans, written-acyclic, written-least-parts, written-least-sum-parts}

module _ (p : Plan) (out : List ℕ) (taken : (central_tree p out).refusal ≡ 0) where
  pub written-least : (s : ℕ → Bool) → JoinsParts p s → total_of p (cost p) (chosen p out taken) ≤ total_of p (cost p) s
  written-least s all = written-least-parts p out taken s (joining-spans p out taken s all)

  pub written-least-sum : (s : ℕ → Bool) → JoinsParts p s → total_of p (cost p) s ≡ total_of p (cost p) (chosen p out taken)
      → total_of p (reading_sum p) (chosen p out taken) ≤ total_of p (reading_sum p) s
  written-least-sum s all e = written-least-sum-parts p out taken s (joining-spans p out taken s all) (omega (arith, e))

-- THE CLAIM
pub tree-claim : TreeClaim
tree-claim p out taken = record {
  size = written-length p out taken;
  tree = written-tree p out taken;
  others = written-other p out taken;
  spanning = written-spans p out taken;
  acyclic = written-acyclic p out taken;
  least = written-least p out taken;
  least_sum = written-least-sum p out taken;
}

-- a refused call alters no byte
pub refused-keeps : (p : Plan) (out : List ℕ) → (central_tree p out).refusal ≢ 0 → (central_tree p out).state ≡ out
unfolding central_tree
refused-keeps p out n = rw (eqb-diff (tree_refusal p out) 0 n)
