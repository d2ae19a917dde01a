-- Records that one cue leaves, as facts: what the rule of 73 tests (`GoodCues`), and the records that a start and deliveries lead to (`Left`).
use Rattle.std.specs.Prelude.{ℕ, ◌*◌, ◌≤◌, ◌<◌, ◌≡◌, true, List, length}
use Rattle.graph.specs.Graph.{Joins}
use Rattle.plan.specs.Links.{Plan, modules_of, links_of, graph_of}
use Rattle.plan_tree.specs.Tree.{tree_link}
use Rattle.cue.specs.declared.Cue.{Cue}
use Rattle.cue.specs.Record.{unheard, record_of, sender_record, heard_record, begun_cues}
use Rattle.cue.specs.Copies.{delivered}

-- module v's record, where `sender` sent `cue`
pub data Right (p : Plan) (cues : List Cue) (sender cue v : ℕ) : Type 0 where
  silent : record_of cues v ≡ unheard → Right p cues sender cue v
  first : v ≡ sender → record_of cues v ≡ sender_record cue → Right p cues sender cue v
  got : (k u : ℕ) → Joins (graph_of p) k u v → tree_link p k ≡ true → (record_of cues u).heard ≡ 1 → record_of cues v ≡ heard_record (record_of cues u) k
      → Right p cues sender cue v

pub record GoodCues (p : Plan) (cues : List Cue) : Type 0 where
  pub enough : modules_of p ≤ length cues
  pub sender : ℕ
  pub cue : ℕ
  pub below : sender < modules_of p
  pub started : record_of cues sender ≡ sender_record cue
  pub right : (v : ℕ) → v < modules_of p → Right p cues sender cue v

-- what starts and deliveries lead to, from the lent records
pub data Left (p : Plan) (lent : List Cue) : List Cue → Type 0 where
  begins : (sender cue : ℕ) → sender < modules_of p → Left p lent (begun_cues (modules_of p) sender cue lent)
  goes : (cues : List Cue) (d : ℕ) → d < 2 * links_of p → Left p lent cues → Left p lent (delivered p cues d)
