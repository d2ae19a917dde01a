-- What follows from the claim on the tree alone, for a plan in any number of parts: the marked links join the ends of every link (`ends-joined`) and cost no more
-- than all links do (`least-of-all`); where they cost the same, their readings come to no more (`least-sum-of-all`).
use Rattle.std.specs.Prelude.{ℕ, ◌≤◌, ◌<◌, ◌≡◌, refl, Bool, true, List}
use Rattle.graph.specs.Graph.{Way, up, stop, go}
use Rattle.graph.specs.Decide.{Set}
use Rattle.graph.proofs.laws.Ways.{wider}
use Rattle.plan.specs.Links.{graph_of, Plan, modules_of, links_of, lower_of, higher_of}
use Rattle.plan.specs.Weights.{cost, reading_sum}
use Rattle.plan_tree.specs.Claim.{chosen_by, total_of, JoinsParts, TreeOf}

abbrev all_links : ℕ → Bool
all_links k = true

module _ {p : Plan} {bytes : List ℕ} (t : TreeOf p bytes) where
  pub ends-joined : (k : ℕ) → k < links_of p → lower_of p k < modules_of p → higher_of p k < modules_of p → Way (graph_of p) (Set (chosen_by bytes)) (lower_of p k) (higher_of p k)
  ends-joined k l a b = t.spanning (lower_of p k) (higher_of p k) a b (go k (up l refl refl) tt stop)

  all_join : JoinsParts p all_links
  all_join u v lu lv w = wider (λ e l s. refl) w

  pub least-of-all : total_of p (cost p) (chosen_by bytes) ≤ total_of p (cost p) all_links
  least-of-all = t.least all_links all_join

  pub least-sum-of-all : total_of p (cost p) all_links ≡ total_of p (cost p) (chosen_by bytes) → total_of p (reading_sum p) (chosen_by bytes) ≤ total_of p (reading_sum p) all_links
  least-sum-of-all = t.least_sum all_links all_join
