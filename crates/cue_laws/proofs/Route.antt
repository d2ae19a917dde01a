-- How a module that has heard came to it, for the paths (Paths): `Route`.
use Rattle.std.specs.Prelude.{ℕ, ◌≤◌, ◌≡◌, List, length}
use Rattle.base.specs.None.{none}
use Rattle.base.specs.Pool.{All}
use Rattle.graph.specs.Path.{edges_of, nodes_of, last_or}
use Rattle.plan.specs.Links.{Plan}
use Rattle.plan_tree.specs.Claim.{TreePath}
use Rattle.cue.specs.declared.Cue.{Cue}
use Rattle.cue.specs.Record.{record_of}
use Rattle.cue_laws.proofs.Good.{GoodCues}

-- how a module that has heard came to it: a path on which no module has more hops
pub record Route (p : Plan) (cues : List Cue) (good : GoodCues p cues) (v : ℕ) : Type 0 where
  pub path : TreePath p good.sender v
  pub under : All (λ y. (record_of cues y).hops ≤ (record_of cues v).hops) (nodes_of path.way)
  pub hops : (record_of cues v).hops ≡ length (edges_of path.way)
  pub link : (record_of cues v).link ≡ last_or none (edges_of path.way)
  pub cue : (record_of cues v).cue ≡ good.cue
