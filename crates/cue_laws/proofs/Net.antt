-- What an accepted plan and its tree give to the proofs about cues: its directed links, and that its tree spans each part and has no cycle. (NetOf shows it.)
use Rattle.std.specs.Prelude.{ℕ, ◌*◌, ◌≤◌, ◌<◌, ◌≡◌, ◌≢◌, true}
use Rattle.base.specs.None.{none}
use Rattle.graph.specs.Graph.{Joins, Way}
use Rattle.graph.specs.Decide.{Set}
use Rattle.graph.specs.Parts.{SamePart}
use Rattle.graph.proofs.laws.Ways.{But}
use Rattle.plan.specs.Links.{Plan, modules_of, links_of, lower_of, higher_of, graph_of}
use Rattle.plan_tree.specs.Tree.{tree_link}
use Rattle.field.specs.Edges.{link_of, from, dest}

-- directed link d goes over link k from u to v
pub record Names (p : Plan) (k u v : ℕ) : Type 0 where
  pub number : ℕ
  pub below : number < 2 * links_of p
  pub over : link_of number ≡ k
  pub near : from p number ≡ u
  pub far : dest p number ≡ v

pub record Net (p : Plan) : Type 0 where
  pub few : links_of p ≤ none
  pub leads : (d : ℕ) → d < 2 * links_of p → Joins (graph_of p) (link_of d) (from p d) (dest p d)
  pub names : (k u v : ℕ) → Joins (graph_of p) k u v → Names p k u v
  pub sole : (d e : ℕ) → d < 2 * links_of p → e < 2 * links_of p → link_of d ≡ link_of e → dest p d ≡ dest p e → d ≡ e
  pub inside : (k u v : ℕ) → Joins (graph_of p) k u v → v < modules_of p
  pub apart : (k u v : ℕ) → Joins (graph_of p) k u v → u ≢ v
  -- no tree link can be spared
  pub spare : (k : ℕ) → k < links_of p → tree_link p k ≡ true → ¬ Way (graph_of p) (But (Set (tree_link p)) k) (lower_of p k) (higher_of p k)
  -- the tree joins any two modules of a part
  pub spans : {u v : ℕ} → SamePart (graph_of p) u v → Way (graph_of p) (Set (tree_link p)) u v
