-- Plan values that mean the same plan are accepted together (`same-accepted`, `same_taken`), and have the same tree (`tree-same`).
use Prim.Native.Nat.{ℕ, zero, suc, ◌<◌}
use Rattle.std.proofs.Common.{arith, sym, subst₂, ◌∙◌}
use Rattle.std.specs.Prelude.{◌≡◌}
use Rattle.std.proofs.Math.Path.{refl}
use Rattle.graph.specs.Graph.{Joins, up, down, Way, stop, go}
use Rattle.graph.specs.Order.{Earlier, InTree}
use Rattle.plan.specs.Links.{Plan, links_of, graph_of}
use Rattle.plan.specs.Refusal.{in_order, plan_refusal}
use Rattle.plan.proofs.laws.Accepted.{Accepted, LinkOk, accepted, accepted-back}
use Rattle.plan.specs.Same.{Same}
use Rattle.plan.specs.Weights.{cost, earlier}

module _ {p q : Plan} (e : Same p q) where
  same-order : (k : ℕ) → k < links_of p → in_order p k ≡ in_order q k
  unfolding in_order
  same-order zero l = refl
  same-order (suc k) l = rw (e.lows k (omega arith), e.highs k (omega arith), e.lows (suc k) l, e.highs (suc k) l)

  same-link : (k : ℕ) → k < links_of p → LinkOk p k → LinkOk q k
  same-link k l o =
      let a = e.lows k l in
      let b = e.highs k l in
      record {
        ordered = omega (arith, o.ordered);
        inside = omega (arith, o.inside, e.modules);
        after = sym (same-order k l) ∙ o.after;
        near_ok = omega (arith, o.near_ok, e.nears k l);
        far_ok = omega (arith, o.far_ok, e.fars k l);
      }

  same-joins : {k u v : ℕ} → Joins (graph_of p) k u v → Joins (graph_of q) k u v
  same-joins {k} (up l a b) = up (omega (arith, e.links)) (sym (e.lows k l) ∙ a) (sym (e.highs k l) ∙ b)
  same-joins {k} (down l a b) = down (omega (arith, e.links)) (sym (e.highs k l) ∙ a) (sym (e.lows k l) ∙ b)

  joins-below : {k u v : ℕ} → Joins (graph_of p) k u v → k < links_of p
  joins-below (up l a b) = l
  joins-below (down l a b) = l

  pub same_way : {S R : ℕ → Type 0} → ((k : ℕ) → k < links_of p → S k → R k) → {u v : ℕ} → Way (graph_of p) S u v → Way (graph_of q) R u v
  same_way f stop = stop
  same_way f (go k j s w) = go k (same-joins j) (f k (joins-below j) s) (same_way f w)

  -- the order of two of its links
  same-earlier : (j k : ℕ) → j < links_of p → k < links_of p → earlier p j k ≡ earlier q j k
  unfolding earlier cost
  same-earlier j k l m = rw (e.nears j l, e.fars j l, e.nears k m, e.fars k m)

  pub same-accepted : Accepted p → Accepted q
  same-accepted a = record {
    modules_ok = omega (arith, a.modules_ok, e.modules);
    links_ok = omega (arith, a.links_ok, e.links);
    each = λ k l. let m : k < links_of p = omega (arith, e.links) in same-link k m (a.each k m);
  }

  -- an accepted plan value, in other entries past its links
  pub same_taken : plan_refusal p ≡ 0 → plan_refusal q ≡ 0
  same_taken z = accepted-back q (same-accepted (accepted p z))

pub same-sym : {p q : Plan} → Same p q → Same q p
same-sym e = record {
  modules = sym e.modules;
  links = sym e.links;
  lows = λ k l. sym (e.lows k (omega (arith, e.links)));
  highs = λ k l. sym (e.highs k (omega (arith, e.links)));
  nears = λ k l. sym (e.nears k (omega (arith, e.links)));
  fars = λ k l. sym (e.fars k (omega (arith, e.links)));
}

-- a link is in the tree of both, or of neither
pub tree-same : {p q : Plan} → Same p q → (k : ℕ) → k < links_of p → InTree (graph_of p) (earlier p) k → InTree (graph_of q) (earlier q) k
tree-same {p} {q} e k l t w =
    let f = same-sym e in
    let m : k < links_of q = omega (arith, e.links) in
    t (subst₂ (λ u v. Way (graph_of p) (Earlier (earlier p) k) u v) (f.lows k m) (f.highs k m)
    (same_way f (λ j i s. sym (same-earlier f j k i m) ∙ s) w))
