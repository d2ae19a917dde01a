-- Samples of the tree, document 01's and of requests 03 and 08, as rows that the definitions compute (`tree-samples`); totals on two banks (`bank-totals`).
-- `two_banks` is for samples elsewhere too.
use Rattle.std.specs.Prelude.{ℕ, ◌≡◌, refl, List, [], ◌∷◌, map, eqb}
use Rattle.graph.specs.Decide.{in_tree}
use Rattle.graph.specs.Least.{total_cost}
use Rattle.plan.specs.Weights.{cost, earlier}
use Rattle.plan.specs.Refusal.{ascends, in_order, link_verdict, links_refusal, plan_refusal}
use Rattle.base.specs.Loop.{After}
use Rattle.plan_tree.specs.Tree.{tree_link, central_tree}
use Rattle.plan_tree.specs.Claim.{total_of}
use Rattle.plan.specs.Links.{Plan}
use Rattle.plan.proofs.laws.Samples.{worse_reading}

-- a plan, the buffer lent for it, the answer and the buffer after
pub record TreeRow : Type 0 where
  pub plan : Plan
  pub lent : List ℕ
  pub refusal : ℕ
  pub bytes : List ℕ

-- "Three modules, three links, each with readings 2 and 3: tree 0-1 and 0-2."
abbrev triangle : Plan
triangle = 3 ∷ 3 ∷ 0 ∷ 1 ∷ 2 ∷ 3 ∷ 0 ∷ 2 ∷ 2 ∷ 3 ∷ 1 ∷ 2 ∷ 2 ∷ 3 ∷ []

-- readings 4 and 4, 4 and 1, 0 and 4: of equal costs the sums decide, whose order is not that of the numbers
abbrev by_sum : Plan
by_sum = 3 ∷ 3 ∷ 0 ∷ 1 ∷ 4 ∷ 4 ∷ 0 ∷ 2 ∷ 4 ∷ 1 ∷ 1 ∷ 2 ∷ 0 ∷ 4 ∷ []

-- request 08's show on two banks: links 0-1 and 2-3
abbrev pub two_banks : Plan
two_banks = 4 ∷ 2 ∷ 0 ∷ 1 ∷ 3 ∷ 3 ∷ 2 ∷ 3 ∷ 0 ∷ 5 ∷ []

-- the triangle also with a buffer of two bytes; where the costs decide, and the sums; in two parts (request 08) two modules without a
-- link, and the show on two banks
unfoldable pub tree_rows : List TreeRow
tree_rows =
    record { plan = triangle; lent = 9 ∷ 9 ∷ 9 ∷ []; refusal = 0; bytes = 1 ∷ 1 ∷ 0 ∷ [] }
    ∷ record { plan = triangle; lent = 9 ∷ 9 ∷ []; refusal = 20; bytes = 9 ∷ 9 ∷ [] }
    ∷ record { plan = worse_reading; lent = 9 ∷ 9 ∷ 9 ∷ []; refusal = 0; bytes = 1 ∷ 0 ∷ 1 ∷ [] }
    ∷ record { plan = by_sum; lent = 9 ∷ 9 ∷ 9 ∷ []; refusal = 0; bytes = 0 ∷ 1 ∷ 1 ∷ [] }
    ∷ record { plan = 2 ∷ 0 ∷ []; lent = []; refusal = 0; bytes = [] }
    ∷ record { plan = two_banks; lent = 9 ∷ 9 ∷ []; refusal = 0; bytes = 1 ∷ 1 ∷ [] }
    ∷ []

-- what the builder does, and what the row says
unfoldable pub done : TreeRow → After (List ℕ)
unfolding central_tree
done r = central_tree r.plan r.lent

abbrev pub said : TreeRow → After (List ℕ)
said r = record { refusal = r.refusal; state = r.bytes }

pub tree-samples : map done tree_rows ≡ map said tree_rows
unfolding tree_rows done earlier cost plan_refusal links_refusal link_verdict in_order ascends
tree-samples = refl

-- on two banks link 0 alone costs less than the tree, and joins module 0's part only
pub bank-totals : map (total_of two_banks (cost two_banks)) ((λ k. eqb k 0) ∷ tree_link two_banks ∷ []) ≡ 3 ∷ 8 ∷ []
unfolding total_cost cost earlier in_tree
bank-totals = refl
