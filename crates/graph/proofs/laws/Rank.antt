-- The rank of an edge: how many edges are earlier. It turns `earlier` into `<` on numbers (`rank_in-lt`, `rank_in-inj`, `rank-bound`).
use Rattle.std.specs.Prelude.{ℕ, ◌≤◌, ◌<◌, ◌≡◌, ◌⊎◌, true, false}
use Rattle.std.proofs.Common.{arith, sym, ap, ◌∙◌, inl, inr, true≢false}
use Rattle.std.proofs.Math.Decide.{dec_le}
use Rattle.std.proofs.Math.Logic.{by_cases}
use Rattle.base.specs.Cond.{bit}
use Rattle.base.proofs.laws.Cond.{by-eq, bit_le, bit-mono}
use Rattle.base.specs.Sum.{sum}
use Rattle.base.proofs.laws.Sum.{sum_lt, sum-const}
use Rattle.graph.specs.Graph.{Graph, Way}
use Rattle.graph.specs.Order.{Order, InTree}
use Rattle.graph.proofs.laws.Ways.{wider}

unfoldable pub rank_in : {L : ℕ} → Order L → ℕ → ℕ
rank_in {L} o k = sum L (λ j. bit (o.earlier j k))

module _ {L : ℕ} (o : Order L) where
  pub rank_in-lt : (a b : ℕ) → a < L → o.earlier a b ≡ true → rank_in o a < rank_in o b
  unfolding rank_in
  rank_in-lt a b l e = sum_lt L a (λ j. bit (o.earlier j a)) (λ j. bit (o.earlier j b)) l
      (λ j lj. bit-mono (o.earlier j a) (o.earlier j b) (λ h. o.trans j a b h e))
      (rw (o.irrefl a, e) (omega arith))

  pub rank-earlier : (a b : ℕ) → a < L → b < L → rank_in o a < rank_in o b → o.earlier a b ≡ true
  rank-earlier a b la lb h = by-eq a b (λ e. absurd (omega (arith, ap (rank_in o) e))) (λ n. pick (o.total a b la lb n))
    where
      pick : (o.earlier a b ≡ true) ⊎ (o.earlier b a ≡ true) → o.earlier a b ≡ true
      pick (inl e) = e
      pick (inr e) = absurd (omega (arith, rank_in-lt b a lb e))

  -- "not earlier" is ≥ on ranks
  pub rank-not-earlier : (a b : ℕ) → a < L → b < L → o.earlier a b ≡ false → rank_in o b ≤ rank_in o a
  rank-not-earlier a b la lb e = by_cases (dec_le (rank_in o b) (rank_in o a)) (λ h. h)
      (λ n. absurd (true≢false (sym (rank-earlier a b la lb (omega arith)) ∙ e)))

  pub rank-bound : (k : ℕ) → k < L → rank_in o k < L
  unfolding rank_in
  rank-bound k l = omega (arith, sum_lt L k (λ j. bit (o.earlier j k)) (λ j. 1) l (λ j lj. bit_le (o.earlier j k)) (rw (o.irrefl k) (omega arith)), sum-const L 1)

  pub rank_in-inj : (a b : ℕ) → a < L → b < L → rank_in o a ≡ rank_in o b → a ≡ b
  rank_in-inj a b la lb h = by-eq a b (λ e. e) (λ n. absurd (clash (o.total a b la lb n)))
    where
      clash : (o.earlier a b ≡ true) ⊎ (o.earlier b a ≡ true) → ⊥
      clash (inl e) = omega (arith, rank_in-lt a b la e)
      clash (inr e) = omega (arith, rank_in-lt b a lb e)

-- THE PATH RULE by ranks: e is in the tree exactly if no way between its ends uses only edges of lower rank
module _ (g : Graph) (o : Order (g.L)) (e : ℕ) where
  pub tree-rank : e < g.L → InTree g (o.earlier) e → ¬ Way g (λ f. rank_in o f < rank_in o e) (g.lo e) (g.hi e)
  tree-rank l t w = t (wider (λ f lf h. rank-earlier o f e lf l h) w)

  pub rank-tree : ¬ Way g (λ f. rank_in o f < rank_in o e) (g.lo e) (g.hi e) → InTree g (o.earlier) e
  rank-tree t w = t (wider (λ f lf h. rank_in-lt o f e lf h) w)
