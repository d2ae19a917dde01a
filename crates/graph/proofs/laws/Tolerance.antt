-- How late an edge may become and stay in the tree. An order in which it stands as late as it can is at hand, with the earliest latest edge, j, that a way
-- between its ends has there (`BestLatest`). In any order in which it stands no later, and all others as they did, it is in the tree exactly if j is not
-- earlier (`tree-by-latest`). And where it is in the tree it stays there when it comes to stand earlier (`tree-when-earlier`).
use Rattle.std.specs.Prelude.{ℕ, ◌≤◌, ◌<◌, ◌≡◌, ◌≢◌, ◌⊎◌, Bool, true, false, not}
use Rattle.std.proofs.Common.{sym, ap, subst, ◌∙◌, inl, inr, true≢false}
use Rattle.base.specs.None.{none}
use Rattle.base.specs.Pool.{All}
use Rattle.base.proofs.laws.Cond.{bool_cases, by-eq}
use Rattle.base.proofs.laws.Pool.{All-map, All-both, All-here}
use Rattle.graph.specs.Graph.{Graph, Way, Any}
use Rattle.graph.specs.Order.{Order, Earlier, InTree}
use Rattle.graph.specs.Decide.{in_tree}
use Rattle.graph.specs.Path.{edges_of}
use Rattle.graph.specs.Between.{latest_of, Latest}
use Rattle.graph.proofs.laws.Ways.{wider}
use Rattle.graph.proofs.laws.Decide.{in_tree-tree, tree-in_tree}
use Rattle.graph.proofs.laws.Path.{edges-below, edges-wider}
use Rattle.graph.proofs.laws.Latest.{latest-of, all-some, edges-in, edges_some, way_by}

-- a way has j as its latest edge, and no way has an earlier one
pub record BestLatest (g : Graph) (earlier : ℕ → ℕ → Bool) (S : ℕ → Type 0) (u v j : ℕ) : Type 0 where
  pub way : Way g S u v
  pub latest : Latest earlier (edges_of way) j
  pub best : (w : Way g Any u v) (m : ℕ) → Latest earlier (edges_of w) m → earlier m j ≡ false

-- where it stands earlier it stays in the tree: fewer edges are earlier than it
pub tree-when-earlier : (g : Graph) (late early : ℕ → ℕ → Bool) (k : ℕ) → ((f : ℕ) → f < g.L → early f k ≡ true → late f k ≡ true)
    → InTree g late k → InTree g early k
tree-when-earlier g late early k fewer t w = t (wider fewer w)

module _ (g : Graph) (few : g.L ≤ none) (late early : Order (g.L)) (k : ℕ) (d : g.lo k ≢ g.hi k)
    (others : (e f : ℕ) → k ≢ e → k ≢ f → early.earlier e f ≡ late.earlier e f)
    (fewer : (f : ℕ) → early.earlier f k ≡ true → late.earlier f k ≡ true)
    {S : ℕ → Type 0} (j : ℕ) (lj : j < g.L) (b : BestLatest g (late.earlier) S (g.lo k) (g.hi k) j) where
  -- no edge of that way is k, and all are earlier than k
  earlier-way : early.earlier j k ≡ true → Way g (Earlier (early.earlier) k) (g.lo k) (g.hi k)
  earlier-way t = way_by b.way (All-map each (All-both (edges-below b.way) b.latest.latest))
    where
      apart : k ≢ j
      apart e = true≢false (sym (subst (λ x. early.earlier x k ≡ true) (sym e) t) ∙ early.irrefl k)

      over : (e : ℕ) → k ≢ e → (late.earlier j e ≡ true) ⊎ (late.earlier e j ≡ true) → late.earlier j e ≡ false → early.earlier e k ≡ true
      over e n (inl y) f = absurd (true≢false (sym y ∙ f))
      over e n (inr y) f = early.trans e j k (others e j n apart ∙ y) t

      each : (e : ℕ) → (e < g.L) × (late.earlier j e ≡ false) → early.earlier e k ≡ true
      each e h = by-eq j e
          (λ q. subst (λ x. early.earlier x k ≡ true) q t)
          (λ n. over e (λ q. true≢false (sym (fewer j t) ∙ ap (late.earlier j) q ∙ h.1)) (late.total j e lj h.0 n) h.1)

  -- a way of edges earlier than k has a latest one, which is not earlier than j
  none-earlier : early.earlier j k ≡ false → InTree g (early.earlier) k
  none-earlier f w = by-eq m j
      (λ q. true≢false (sym (subst (λ x. early.earlier x k ≡ true) q mk) ∙ f))
      (λ n. over (late.total m j lm lj n))
    where
      w' : Way g Any (g.lo k) (g.hi k)
      w' = wider (λ e l s. tt) w

      m : ℕ
      m = latest_of (late.earlier) (edges_of w')

      top : Latest (late.earlier) (edges_of w') m
      top = latest-of late (edges_of w') (edges_some d w') (all-some late few (edges-below w'))

      lm : m < g.L
      lm = All-here top.among (edges-below w')

      mk : early.earlier m k ≡ true
      mk = All-here top.among (subst (All (Earlier (early.earlier) k)) (sym (edges-wider (λ e l s. tt) w)) (edges-in w))

      apart : k ≢ m
      apart e = true≢false (sym (subst (λ x. early.earlier x k ≡ true) (sym e) mk) ∙ early.irrefl k)

      over : (late.earlier m j ≡ true) ⊎ (late.earlier j m ≡ true) → ⊥
      over (inl y) = true≢false (sym y ∙ b.best w' m top)
      over (inr y) = by-eq k j
          (λ e. true≢false (sym (late.trans k m k (subst (λ x. late.earlier x m ≡ true) (sym e) y) (fewer m mk)) ∙ late.irrefl k))
          (λ n. true≢false (sym (early.trans j m k (others j m n apart ∙ y) mk) ∙ f))

  pub tree-by-latest : in_tree g (early.earlier) k ≡ not (early.earlier j k)
  tree-by-latest = bool_cases (early.earlier j k)
      (λ t. bool_cases (in_tree g (early.earlier) k)
      (λ y. absurd (in_tree-tree g (early.earlier) k y (earlier-way t)))
      (λ n. rw t n))
      (λ f. rw f (tree-in_tree g (early.earlier) k (none-earlier f)))
