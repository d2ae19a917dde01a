-- An accepted plan as the protocol sees it (`net`): its graph, its nodes, the order of its edges. Directed links are the channels of that graph (`ends_of`,
-- `dest-is`).
use Rattle.std.specs.Prelude.{ℕ, ◌*◌, ◌%◌, ◌<◌, ◌≡◌, true, cond}
use Rattle.std.proofs.Common.{arith, subst, ◌∙◌, ⊎_elim, eq-eqb}
use Rattle.std.proofs.Math.Path.{refl}
use Rattle.base.proofs.laws.Cond.{eqb-cases}
use Rattle.graph.specs.Graph.{up, down}
use Rattle.graph.proofs.laws.Ways.{ends_same}
use Rattle.plan.specs.Links.{Plan, graph_of, modules_of, links_of, lower_of, higher_of}
use Rattle.plan.proofs.laws.Weights.{order_of}
use Rattle.plan.proofs.laws.Accepted.{Accepted}
use Rattle.field.proofs.laws.Edges.{own-lower, own-higher}
use Rattle.field.specs.Edges.{is_own, own_of, link_of, from, dest, end_of}
use Rattle.field_laws.proofs.Places.{own-link-below, own-end, from-over, link-over, over_below}
use Rattle.protocol.specs.Network.{Network, Edge}
use Rattle.protocol_bridge.proofs.Real.{own_p}

module _ (p : Plan) (a : Accepted p) where
  abbrev pub net : Network
  net = record {
    g = graph_of p;
    N = modules_of p;
    order = order_of p;
    ends-lt = λ k l. (omega (arith, (a.each k l).ordered, (a.each k l).inside), (a.each k l).inside);
    no_loop = λ k l e. omega (arith, (a.each k l).ordered);
    small = omega (arith, a.links_ok);
  }

  -- a node's own edges are the same to both
  pub own_same : (v : ℕ) → own_of p v ≡ own_p net v
  unfolding is_own
  own_same v = refl

  -- an own link leads to another module, and the other way round
  own-ends : (v k : ℕ) → is_own p v k ≡ true → (u : ℕ) × Edge net k v u
  own-ends v k o = ⊎_elim
      (λ e. (higher_of p k, up (own-link-below p v k o) e refl))
      (λ h. (lower_of p k, down (own-link-below p v k o) h.1 refl))
      (own-end p v k o)

  pub net-ends-own : {k v u : ℕ} → Edge net k v u → is_own p v k ≡ true
  net-ends-own {k} (up l e f) = own-lower p _ k l e
  net-ends-own {k} (down l e f) =
      own-higher p _ k l (λ q. omega (arith, (a.each k l).ordered)) ∙ eq-eqb _ _ e

  -- a directed link leads from one end of its link to the other
  pub ends_of : (d : ℕ) → d < 2 * links_of p → Edge net (link_of d) (from p d) (dest p d)
  ends_of d l = eqb-cases (d % 2) 0 (λ b. Edge net (link_of d) (cond b (lower_of p (link_of d)) (higher_of p (link_of d))) (cond b (higher_of p (link_of d)) (lower_of p (link_of d))))
      (λ e. up (omega arith) refl refl)
      (λ n. down (omega arith) refl refl)

  -- and v's directed link over k leads to k's other end
  pub dest-is : {k v u : ℕ} → Edge net k v u → dest p (end_of p v k) ≡ u
  dest-is {k} {v} e =
      let o = net-ends-own e in
      let d = end_of p v k in
      ends_same (subst (λ x. Edge net k x (dest p d)) (from-over p v k o) (subst (λ x. Edge net x (from p d) (dest p d)) (link-over p v k) (ends_of d (over_below p v k o)))) e
