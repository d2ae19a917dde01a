-- Paths towards one goal, link by link (`PathSteps`): what the search for them goes by. An accepted plan has them (`path_steps`): what is computed as `tree_path`
-- is the tree's one path (`path-is`), and from its other end the same one turned round (`tree-path-turned`).
use Rattle.std.specs.Prelude.{ℕ, ◌<◌, ◌≡◌, ◌≢◌, ◌⊎◌, true, [], ◌∷◌, reverse, length}
use Rattle.graph.specs.Graph.{Joins, go}
use Rattle.graph.specs.Parts.{SamePart}
use Rattle.graph.specs.Path.{edges_of}
use Rattle.graph.proofs.laws.Ways.{flip}
use Rattle.graph.proofs.laws.Path.{path-below}
use Rattle.graph.proofs.laws.Between.{between-path, between-here, between_next, between-beside, between-turned}
use Rattle.plan.specs.Links.{graph_of, Plan, modules_of}
use Rattle.plan.proofs.laws.Accepted.{Accepted}
use Rattle.plan_tree.specs.Tree.{tree_link}
use Rattle.plan_tree.specs.Claim.{TreePath}
use Rattle.plan_tree.proofs.laws.Paths.{tree-spare, tree-spans, tree-path, link-inside}
use Rattle.path.specs.Between.{tree_path}

-- the first link of the path from u to v, and the rest of it
pub record Next (p : Plan) (u v : ℕ) : Type 0 where
  pub link : ℕ
  pub to : ℕ
  pub joins : Joins (graph_of p) link u to
  pub tree : tree_link p link ≡ true
  pub inside : to < modules_of p
  pub part : SamePart (graph_of p) to v
  pub rest : tree_path p u v ≡ link ∷ tree_path p to v

-- paths to module v, from the modules of its part
pub record PathSteps (p : Plan) (v : ℕ) : Type 0 where
  pub here : tree_path p v v ≡ []
  pub next : (u : ℕ) → SamePart (graph_of p) u v → u ≢ v → Next p u v
  -- of the two ends of a tree link one is one link nearer, by that link
  pub beside : (k a b : ℕ) → SamePart (graph_of p) a v → Joins (graph_of p) k a b → tree_link p k ≡ true
      → (tree_path p b v ≡ k ∷ tree_path p a v) ⊎ (tree_path p a v ≡ k ∷ tree_path p b v)
  pub short : (u : ℕ) → u < modules_of p → SamePart (graph_of p) u v → length (tree_path p u v) < modules_of p

module _ (p : Plan) where
  pub path-is : {u v : ℕ} (q : TreePath p u v) → tree_path p u v ≡ edges_of q.way
  unfolding tree_path
  path-is q = between-path (graph_of p) (tree_link p) (tree-spare p) q

  pub tree-path-turned : {u v : ℕ} → SamePart (graph_of p) u v → tree_path p v u ≡ reverse (tree_path p u v)
  unfolding tree_path
  tree-path-turned s = between-turned (graph_of p) (tree_link p) (tree-spare p) (tree-spans p s)

  module _ (a : Accepted p) where
    -- the first link on from u
    next_of : {u v : ℕ} → SamePart (graph_of p) u v → u ≢ v → Next p u v
    unfolding tree_path
    next_of {u} s d =
        let o = between_next (graph_of p) (tree_link p) (tree-spare p) (tree-spans p s) d in
        record {
          link = o.edge;
          to = o.to;
          joins = o.joins;
          tree = o.used;
          inside = link-inside p a o.edge u o.to o.joins;
          part = go o.edge (flip o.joins) tt s;
          rest = o.rest;
        }

    pub path-short : {u v : ℕ} → u < modules_of p → SamePart (graph_of p) u v → length (tree_path p u v) < modules_of p
    path-short l s = let q = tree-path p s in rw (path-is q) (path-below (modules_of p) (link-inside p a) l q)

    pub path_steps : (v : ℕ) → PathSteps p v
    unfolding tree_path
    path_steps v = record {
      here = between-here (graph_of p) (tree_link p) (tree-spare p) v;
      next = λ u s d. next_of s d;
      beside = λ k x y s j t. between-beside (graph_of p) (tree_link p) (tree-spare p) (tree-spans p s) j t;
      short = λ u l s. path-short l s;
    }
