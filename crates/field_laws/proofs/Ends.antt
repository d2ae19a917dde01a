-- Directed links and own links as edges of the plan's graph: what a directed link joins (`directed-joins`), what an own link joins (`own-joins`); an end's own
-- directed link leads to the other end (`end-leads`).
use Rattle.std.specs.Prelude.{ℕ, ◌*◌, ◌%◌, ◌<◌, ◌≡◌, refl, ◌≢◌, true, cond}
use Rattle.std.proofs.Common.{arith, sym, subst, ◌∙◌, eq-eqb}
use Rattle.base.proofs.laws.Cond.{eqb-cases}
use Rattle.graph.specs.Graph.{Joins, up, down}
use Rattle.graph.proofs.laws.Ways.{ends_same}
use Rattle.plan.specs.Links.{Plan, links_of, lower_of, higher_of, graph_of}
use Rattle.field.specs.Edges.{is_own, end_of, link_of, from, dest}
use Rattle.field.proofs.laws.Edges.{own-lower, own-higher}
use Rattle.field_laws.proofs.Places.{link-over, from-over, over_below}

module _ (p : Plan) where
  pub directed-joins : (d : ℕ) → d < 2 * links_of p → Joins (graph_of p) (link_of d) (from p d) (dest p d)
  directed-joins d l = eqb-cases (d % 2) 0
      (λ b. Joins (graph_of p) (link_of d) (cond b (lower_of p (link_of d)) (higher_of p (link_of d))) (cond b (higher_of p (link_of d)) (lower_of p (link_of d))))
      (λ e. up (omega arith) refl refl)
      (λ n. down (omega arith) refl refl)

  pub joined-own : {k u v : ℕ} → u ≢ v → Joins (graph_of p) k u v → is_own p u k ≡ true
  joined-own {k} n (up l e f) = own-lower p _ k l e
  joined-own {k} n (down l e f) = own-higher p _ k l (λ q. n (sym q ∙ f)) ∙ eq-eqb _ _ e

  pub own-joins : (v k : ℕ) → is_own p v k ≡ true → Joins (graph_of p) k v (dest p (end_of p v k))
  own-joins v k o =
      let d = end_of p v k in
      subst (λ x. Joins (graph_of p) k x (dest p d)) (from-over p v k o)
      (subst (λ x. Joins (graph_of p) x (from p d) (dest p d)) (link-over p v k) (directed-joins d (over_below p v k o)))

  pub end-leads : {k u v : ℕ} → u ≢ v → Joins (graph_of p) k u v → dest p (end_of p u k) ≡ v
  end-leads {k} {u} n j = ends_same (own-joins u k (joined-own n j)) j
