-- An order that goes by a second cost between edges of equal cost: of the sets that span at no larger total cost, none has a smaller total of the second one
-- than the tree (`tree-least-second`).
use Rattle.std.specs.Prelude.{ℕ, zero, suc, ◌+◌, ◌*◌, ◌≤◌, ◌<◌, min, ◌≡◌, Bool, true, cond}
use native.Mathlib.Omega.{arith}
use Rattle.std.proofs.Math.Nat.{le-min, min-le_left, min-le_right, min-eq_left, mul-le-mul_left}
use Rattle.std.proofs.Common.{le_trans, ap}
use Rattle.base.specs.Sum.{sum}
use Rattle.base.proofs.laws.Cond.{by-eq, bool_cases}
use Rattle.graph.specs.Graph.{Graph}
use Rattle.graph.specs.Order.{Order}
use Rattle.graph.specs.Decide.{in_tree}
use Rattle.graph.specs.Least.{total_cost, Spanning}
use Rattle.graph.proofs.laws.Least.{tree-least}

module _ (most : ℕ) (cost second : ℕ → ℕ) where
  -- both costs in one: what the second adds is no more than a step of the first
  abbrev both : ℕ → ℕ
  both k = most * cost k + min (second k) most

  both-sum : (s : ℕ → Bool) (n : ℕ) → ((k : ℕ) → k < n → second k ≤ most)
      → sum n (λ e. cond (s e) (both e) 0) ≡ most * sum n (λ e. cond (s e) (cost e) 0) + sum n (λ e. cond (s e) (second e) 0)
  both-sum s zero h = omega arith
  both-sum s (suc n) h =
      let before = both-sum s n (λ k l. h k (omega arith)) in
      bool_cases (s n)
      (λ t. rw (t, min-eq_left (h n (omega arith))) (omega (arith, before)))
      (λ f. rw f (omega (arith, before)))

  both-le : (a b : ℕ) → cost a ≤ cost b → (cost a ≡ cost b → second a ≤ second b) → both a ≤ both b
  both-le a b l tie = by-eq (cost a) (cost b)
      (λ e. omega (arith, ap (λ x. most * x) e, le-min (le_trans (min-le_left (second a) most) (tie e)) (min-le_right (second a) most)))
      (λ d. omega (arith, mul-le-mul_left most (step d), min-le_right (second a) most))
    where
      step : ¬ (cost a ≡ cost b) → cost a + 1 ≤ cost b
      step d = omega arith

module _ (g : Graph) (o : Order (g.L)) (most : ℕ) (cost second : ℕ → ℕ) (first : (a b : ℕ) → o.earlier a b ≡ true → cost a ≤ cost b)
    (tie : (a b : ℕ) → o.earlier a b ≡ true → cost a ≡ cost b → second a ≤ second b) (bound : (k : ℕ) → k < g.L → second k ≤ most) where
  pub tree-least-second : (s : ℕ → Bool) → Spanning g s → total_cost g cost s ≤ total_cost g cost (in_tree g (o.earlier))
      → total_cost g second (in_tree g (o.earlier)) ≤ total_cost g second s
  unfolding total_cost
  tree-least-second s sp l =
      omega (
        arith,
        mul-le-mul_left most l,
        both-sum most cost second s (g.L) bound,
        both-sum most cost second (in_tree g (o.earlier)) (g.L) bound,
        tree-least g o (both most cost second) (λ a b e. both-le most cost second a b (first a b e) (tie a b e)) s sp,
      )
