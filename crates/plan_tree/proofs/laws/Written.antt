-- What the builder writes: exactly the tree by the path rule (`written-tree`, `written-other`); it spans, has no cycle, and no set of links that joins the
-- ends of each link costs less (`written-spans`, `written-acyclic`, `written-least-parts`, `written-least-sum-parts`).
-- `central_tree p out` is the builder's contract; an answer of 0 is a plan that was taken.
use Rattle.std.specs.Prelude.{ℕ, ◌*◌, ◌≤◌, ◌<◌, ◌≡◌, Bool, List, length, get_or}
use Rattle.std.proofs.Common.{arith, ap, ◌∙◌, eq-eqb, eqb-true}
use Rattle.base.specs.Cond.{bit}
use Rattle.base.specs.Limits.{max_reading}
use Rattle.base.proofs.laws.Cond.{bool_cases}
use Rattle.base.proofs.laws.Sum.{sum-eq}
use Rattle.base.proofs.laws.Table.{length-tabulate, get_d_tabulate}
use Rattle.graph.specs.Graph.{Way}
use Rattle.graph.specs.Order.{InTree}
use Rattle.graph.proofs.laws.Ways.{But, wider}
use Rattle.graph.specs.Decide.{Set}
use Rattle.graph.proofs.laws.Decide.{in_tree-tree, tree-in_tree}
use Rattle.graph.proofs.laws.Span.{spans}
use Rattle.graph.proofs.laws.Cycle.{spare}
use Rattle.graph.specs.Least.{total_cost, Spanning}
use Rattle.graph.proofs.laws.Least.{tree-least, spanning-parts}
use Rattle.graph.proofs.laws.Second.{tree-least-second}
use Rattle.plan.specs.Links.{graph_of, Plan, links_of, modules_of, lower_of, higher_of}
use Rattle.plan.specs.Weights.{cost, reading_sum, earlier}
use Rattle.plan.proofs.laws.Weights.{earlier-cost, earlier-sum, order_of}
use Rattle.plan.proofs.laws.Accepted.{Accepted, accepted}
use Rattle.plan_tree.specs.Tree.{tree_link, tree_bytes, central_tree}
use Rattle.plan_tree.specs.Claim.{chosen_by, total_of, JoinsParts}
use Rattle.plan_tree.proofs.laws.Tree.{answered, answered-bytes, byte-tells}

module _ (p : Plan) (out : List ℕ) (taken : (central_tree p out).refusal ≡ 0) where
  -- byte k, and the set of links that it marks
  abbrev pub byte : ℕ → ℕ
  byte k = get_or (central_tree p out).state k 0

  abbrev pub chosen : ℕ → Bool
  chosen = chosen_by (central_tree p out).state

  plan-ok : Accepted p
  plan-ok = accepted p (answered p out taken).0

  -- L bytes
  pub written-length : length (central_tree p out).state ≡ links_of p
  unfolding tree_bytes
  written-length = rw (answered-bytes p out taken) (length-tabulate (links_of p) (λ k. bit (tree_link p k)))

  written_byte : (k : ℕ) → k < links_of p → byte k ≡ bit (tree_link p k)
  unfolding tree_bytes
  written_byte k l = rw (answered-bytes p out taken) (get_d_tabulate (links_of p) (λ j. bit (tree_link p j)) k l)

  written-marked : (k : ℕ) → k < links_of p → chosen k ≡ tree_link p k
  written-marked k l = rw (answered-bytes p out taken) (byte-tells p k l)

  -- 1 FOR A TREE LINK, 0 otherwise: by the path rule
  pub written-tree : (k : ℕ) → k < links_of p → InTree (graph_of p) (earlier p) k → byte k ≡ 1
  written-tree k l t = written_byte k l ∙ rw (tree-in_tree (graph_of p) (earlier p) k t)

  pub tree-written : (k : ℕ) → k < links_of p → byte k ≡ 1 → InTree (graph_of p) (earlier p) k
  tree-written k l e = in_tree-tree (graph_of p) (earlier p) k (bool_cases (tree_link p k) (λ t. t) (λ f. absurd (omega (arith, written_byte k l, ap bit f))))

  pub written-other : (k : ℕ) → k < links_of p → ¬ InTree (graph_of p) (earlier p) k → byte k ≡ 0
  written-other k l n = written_byte k l ∙ bool_cases (tree_link p k) (λ t. absurd (n (in_tree-tree (graph_of p) (earlier p) k t))) (λ f. rw f)

  chosen-tree : (k : ℕ) → k < links_of p → Set chosen k → InTree (graph_of p) (earlier p) k
  chosen-tree k l e = tree-written k l (eqb-true (byte k) 1 e)

  -- SPANNING: the marked links join whatever links join
  pub written-joins : {S : ℕ → Type 0} {u v : ℕ} → Way (graph_of p) S u v → Way (graph_of p) (Set chosen) u v
  written-joins w = wider (λ k l t. eq-eqb (byte k) 1 (written-tree k l t)) (spans (graph_of p) (order_of p) w)

  pub written-spans : JoinsParts p chosen
  written-spans u v lu lv w = written-joins w

  -- NO CYCLE: without one of them the others do not join its ends
  pub written-acyclic : (k : ℕ) → k < links_of p → Set chosen k → ¬ Way (graph_of p) (But (Set chosen) k) (lower_of p k) (higher_of p k)
  written-acyclic k l e w = spare (graph_of p) (order_of p) k l (chosen-tree k l e) (wider (λ j lj m. (chosen-tree j lj m.0, m.1)) w)

  -- LEAST TOTAL COST
  written-total : (c : ℕ → ℕ) → total_of p c chosen ≡ total_of p c (tree_link p)
  unfolding total_cost
  written-total c = sum-eq (links_of p) _ _ (λ k l. rw (written-marked k l))

  -- among the sets that join the ends of each link
  pub written-least-parts : (s : ℕ → Bool) → Spanning (graph_of p) s → total_of p (cost p) chosen ≤ total_of p (cost p) s
  written-least-parts s sp = rw (written-total (cost p)) (tree-least (graph_of p) (order_of p) (cost p) (earlier-cost p) s sp)

  -- and of those that cost no more, none has a smaller sum of readings
  pub written-least-sum-parts : (s : ℕ → Bool) → Spanning (graph_of p) s → total_of p (cost p) s ≤ total_of p (cost p) chosen
      → total_of p (reading_sum p) chosen ≤ total_of p (reading_sum p) s
  written-least-sum-parts s sp l =
      rw (written-total (reading_sum p))
      (tree-least-second (graph_of p) (order_of p) (2 * max_reading) (cost p) (reading_sum p) (earlier-cost p) (earlier-sum p)
      (λ k b. let o = plan-ok.each k b in omega (arith, o.near_ok, o.far_ok)) s sp (rw (written-total (cost p)) at l))

  -- a set that joins each part's modules is among them
  pub joining-spans : (s : ℕ → Bool) → JoinsParts p s → Spanning (graph_of p) s
  joining-spans = spanning-parts (graph_of p) (modules_of p) (λ k l. let o = plan-ok.each k l in (omega (arith, o.ordered, o.inside), o.inside))
