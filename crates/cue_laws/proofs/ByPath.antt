-- What follows from the claim when none waits: each record has the hops and the link of any path that the tree has from the sender (`hops-by-path`, `link-by-path`).
-- So request 07 goes by the same lengths: its path has as many links as the record has hops (`hops-tree-path`, `hops-answered`), and its marks are of the modules that
-- have heard with at most h hops (`hops-marked`; of the two calls, NearHops).
use Rattle.std.specs.Prelude.{ℕ, ◌<◌, ◌≡◌, Bool, ◌&&◌, List, length, get_or, leb}
use Rattle.std.proofs.Common.{sym, ap, ◌∙◌, true≢false}
use Rattle.base.specs.Cond.{bit}
use Rattle.base.specs.None.{none}
use Rattle.base.proofs.laws.Cond.{bool_cases}
use Rattle.graph.specs.Parts.{SamePart}
use Rattle.graph.specs.Path.{edges_of, last_or}
use Rattle.graph.proofs.laws.Ways.{wider}
use Rattle.plan.specs.Links.{Plan, modules_of, graph_of}
use Rattle.plan_tree.specs.Claim.{TreePath}
use Rattle.plan_tree.proofs.laws.Paths.{tree-path}
use Rattle.path.specs.Between.{tree_path, PathShown}
use Rattle.path.specs.Claims.{PathHolds, NearHolds}
use Rattle.path.proofs.laws.Steps.{path-is}
use Rattle.field.specs.Held.{Held}
use Rattle.cue.specs.declared.Cue.{Cue}
use Rattle.cue.specs.Record.{record_of, has_heard}
use Rattle.cue.specs.Copies.{copies_waiting}
use Rattle.cue.specs.Claims.{TellsPath, CueHolds}

module _ (h : Held) (p : Plan) (lent : List Cue) (sender cue : ℕ) (ds : List ℕ) (cues : List Cue) (c : CueHolds h p lent sender cue ds cues) (z : copies_waiting p cues ≡ 0) where
  -- a module that the tree joins to the sender is of its part, and has heard
  told : (v : ℕ) → v < modules_of p → TreePath p sender v → TellsPath p sender v (record_of cues v)
  told v l q = c.path v l (c.all z v l (wider (λ k m t. tt) q.way))

  pub hops-by-path : (v : ℕ) → v < modules_of p → (q : TreePath p sender v) → (record_of cues v).hops ≡ length (edges_of q.way)
  hops-by-path v l q = let t = told v l q in t.hops ∙ ap length (sym (t.only q))

  pub link-by-path : (v : ℕ) → v < modules_of p → (q : TreePath p sender v) → (record_of cues v).link ≡ last_or none (edges_of q.way)
  link-by-path v l q = let t = told v l q in t.link ∙ ap (last_or none) (sym (t.only q))

  -- REQUEST 07

  module _ (v : ℕ) (l : v < modules_of p) where
    pub hops-tree-path : SamePart (graph_of p) sender v → (record_of cues v).hops ≡ length (tree_path p sender v)
    hops-tree-path w = let q = tree-path p w in hops-by-path v l q ∙ ap length (sym (path-is p q))

    -- the path from the sender that is answered, in any buffer
    pub hops-answered : {buffer : List ℕ} {r : PathShown} → PathHolds p sender v buffer r → (record_of cues v).hops ≡ r.answer.length
    hops-answered a = hops-by-path v l a.path ∙ sym a.many

    -- the marks that are written for the sender: none in other parts, where nobody has heard
    pub hops-marked : {near : ℕ} {buffer bytes : List ℕ} → NearHolds p sender near buffer bytes
        → get_or bytes v 0 ≡ bit (has_heard (record_of cues v) && leb (record_of cues v).hops near)
    hops-marked {near} a = bool_cases (has_heard (record_of cues v))
        (λ e. let t = c.path v l e in
        a.marks v l t.path ∙ ap (λ n. bit (leb n near)) (sym t.hops) ∙ ap (λ (b : Bool). bit (b && leb (record_of cues v).hops near)) (sym e))
        (λ e. a.apart v l (λ w. true≢false (sym (c.all z v l w) ∙ e)) ∙ rw e)
