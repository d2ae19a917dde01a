-- Where a tree link leads from a module that has heard to one that has not, a copy waits (`edge-waits`). So when none waits, every module has heard
-- that the tree joins to the sender (`joined-heard`).
use Rattle.std.specs.Prelude.{ℕ, ◌*◌, ◌<◌, ◌≡◌, ◌≢◌, Bool, true, false, List}
use Rattle.std.proofs.Common.{arith, sym, ap, ◌∙◌, eqb-true}
use Rattle.std.proofs.lemmas.Bool.{eqb-false}
use Rattle.base.specs.Cond.{bit}
use Rattle.base.proofs.laws.Cond.{bool_cases}
use Rattle.base.proofs.laws.Sum.{le-sum}
use Rattle.graph.specs.Graph.{Joins, Way}
use Rattle.graph.specs.Decide.{Set}
use Rattle.graph.proofs.laws.Ways.{Cross, cross, flip}
use Rattle.plan.specs.Links.{Plan, links_of, graph_of}
use Rattle.plan_tree.specs.Tree.{tree_link}
use Rattle.cue.specs.declared.Cue.{Cue}
use Rattle.cue.specs.Record.{record_of, has_heard}
use Rattle.cue.specs.Copies.{waits_on, copies_waiting}
use Rattle.cue.proofs.laws.Copies.{facts-wait}
use Rattle.cue_laws.proofs.Net.{Net}
use Rattle.cue_laws.proofs.Good.{GoodCues}
use Rattle.cue_laws.proofs.Told.{told-by}

-- the modules that have heard
abbrev pub hearers : List Cue → ℕ → Bool
hearers cues v = has_heard (record_of cues v)

module _ (p : Plan) (n : Net p) (cues : List Cue) (good : GoodCues p cues) where
  -- a module has heard by one link only, so it passes the cue on over this one
  not-by : (k u v : ℕ) → Joins (graph_of p) k u v → (record_of cues u).heard ≡ 1 → (record_of cues v).heard ≢ 1 → (record_of cues u).link ≢ k
  not-by k u v j hu hv by = hv (told-by p n cues good k v u (flip j) hu by).teller

  pub edge-waits : (k u v : ℕ) (j : Joins (graph_of p) k u v) → tree_link p k ≡ true → hearers cues u ≡ true → hearers cues v ≡ false
      → waits_on p cues (n.names k u v j).number ≡ true
  edge-waits k u v j t hu hv =
      let x = n.names k u v j in
      let heard = eqb-true (record_of cues u).heard 1 hu in
      let deaf = eqb-false (record_of cues v).heard 1 hv in
      facts-wait p cues x.number (record {
        sent = record {
          tree = ap (tree_link p) x.over ∙ t;
          heard = ap (λ w. (record_of cues w).heard) x.near ∙ heard;
          onward = λ e. not-by k u v j heard deaf (ap (λ w. (record_of cues w).link) (sym x.near) ∙ e ∙ x.over);
        };
        under-way = λ a. deaf (ap (λ w. (record_of cues w).heard) (sym x.far) ∙ a.heard);
      })

  -- NONE WAITS

  none-waits : copies_waiting p cues ≡ 0 → (d : ℕ) → d < 2 * links_of p → waits_on p cues d ≢ true
  none-waits z d l w = omega (arith, z, le-sum (2 * links_of p) d (λ e. bit (waits_on p cues e)) l, ap bit w)

  pub joined-heard : copies_waiting p cues ≡ 0 → (v : ℕ) → Way (graph_of p) (Set (tree_link p)) good.sender v → hearers cues v ≡ true
  joined-heard z v w = bool_cases (hearers cues v) (λ h. h) (λ h. absurd (stuck (cross (hearers cues) w (ap has_heard good.started) h)))
    where
      stuck : Cross (graph_of p) (Set (tree_link p)) (hearers cues) → ⊥
      stuck c =
          let x = n.names c.edge c.from c.to c.joins in
          none-waits z x.number x.below (edge-waits c.edge c.from c.to c.joins c.used c.inside c.outside)
