-- Counting the links of each module: one link more raises the counts of its two modules (`degrees-on`).
use Prim.Native.Nat.{ℕ, zero, suc, ◌+◌, ◌≤◌, ◌<◌}
use native.Mathlib.Omega.{arith}
use native.Mathlib.Numerals.{add-one}
use mathlib.Core.Path.{◌≡◌, sym, ap, ◌∙◌}
use mathlib.Core.Bool.{Bool, true, false, ◌&&◌}
use mathlib.Core.List.{List}
use lib.ListN.{length, get_or, set, length-set}
use lib.Seq.{get_or-set_same, get_or-set_other}
use borrow.Author.Tests.{eq-eqb, ne_eqb}
use Rattle.base.proofs.laws.Cond.{bit_le, by-eq}
use Rattle.base.specs.Limits.{max_modules}
use Rattle.plan.proofs.laws.Accepted.{Accepted}
use Rattle.plan.specs.Links.{Plan, links_of, lower_of, higher_of}
use Rattle.field.specs.Edges.{own_of}
use Rattle.node.specs.Work.{Own, number, any_edge}
use Rattle.field.proofs.laws.Edges.{own-lower, own-higher}

number-le : (o : Own) (f : ℕ → Bool) (n : ℕ) → number o f n ≤ n
unfolding number
number-le o f zero = omega arith
number-le o f (suc n) = omega (arith, number-le o f n, bit_le (o.own n && f n))

-- the counts over the first k links
abbrev pub Degrees : Plan → ℕ → List ℕ → Type 0
Degrees p k degrees =
    (v : ℕ) → v < max_modules → get_or degrees v 0 ≡ number (own_of p v) any_edge k

number-hit : (o : Own) (k : ℕ) → o.own k ≡ true → number o any_edge (k + 1) ≡ number o any_edge k + 1
unfolding number
number-hit o k h = rw (add-one k, h)

number-miss : (o : Own) (k : ℕ) → o.own k ≡ false → number o any_edge (k + 1) ≡ number o any_edge k
unfolding number
number-miss o k h = rw (add-one k, h) (omega arith)

-- each count is small
pub degrees-small : (p : Plan) (k : ℕ) (degrees : List ℕ) → Degrees p k degrees → (v : ℕ) → v < max_modules → get_or degrees v 0 ≤ k
degrees-small p k degrees c v h =
    omega (arith, c v h, number-le (own_of p v) any_edge k)

-- the two modules of a link
pub ends : (p : Plan) → Accepted p → (k a b : ℕ) → k < links_of p → a ≡ lower_of p k → b ≡ higher_of p k → (a < b) × (b < max_modules)
ends p o k a b l low high = let e = o.each k l in (omega arith, omega arith)

-- link k from a to b
module _ (p : Plan) (k : ℕ) (l : k < links_of p) (a b : ℕ) (low : a ≡ lower_of p k) (high : b ≡ higher_of p k) (degrees : List ℕ)
    (sized : length degrees ≡ max_modules) (up : a < b) (inside : b < max_modules) (c : Degrees p k degrees) where
  abbrev pub raised : List ℕ
  raised = set degrees a (get_or degrees a 0 + 1)

  pub degrees-on : Degrees p (k + 1) (set raised b (get_or raised b 0 + 1))
  degrees-on v h =
      let o = own_of p v in
      by-eq a v
      (λ e. let own = own-lower p v k l (sym low ∙ e) in
      get_or-set_other raised b v (get_or raised b 0 + 1) 0 (λ q. omega arith)
      ∙ ap (λ i. get_or raised i 0) (sym e) ∙ get_or-set_same degrees a (get_or degrees a 0 + 1) 0 (omega arith)
      ∙ ap (λ x. x + 1) (ap (λ i. get_or degrees i 0) e ∙ c v h) ∙ sym (number-hit o k own))
      (λ n. let other = own-higher p v k l (λ q. n (low ∙ q)) in
      by-eq b v
      (λ e. let own = other ∙ eq-eqb (higher_of p k) v (sym high ∙ e) in
      ap (λ i. get_or (set raised b (get_or raised b 0 + 1)) i 0) (sym e)
      ∙ get_or-set_same raised b (get_or raised b 0 + 1) 0 (omega (arith, length-set degrees a (get_or degrees a 0 + 1)))
      ∙ ap (λ x. x + 1) (get_or-set_other degrees a b (get_or degrees a 0 + 1) 0 (λ q. omega arith) ∙ ap (λ i. get_or degrees i 0) e ∙ c v h)
      ∙ sym (number-hit o k own))
      (λ m. let own = other ∙ ne_eqb (higher_of p k) v (λ q. m (high ∙ q)) in
      get_or-set_other raised b v (get_or raised b 0 + 1) 0 (λ q. m (sym q))
      ∙ get_or-set_other degrees a v (get_or degrees a 0 + 1) 0 (λ q. n (sym q))
      ∙ c v h ∙ sym (number-miss o k own)))
