-- Who has heard by a link has it from the module at its other end (`told-by`), and that one did not have it by the same link (`not-told-back`).
use Rattle.std.specs.Prelude.{ℕ, suc, ◌≡◌, ◌≢◌, true, List}
use Rattle.std.proofs.Common.{arith, sym, ap, subst, ◌∙◌}
use Rattle.graph.specs.Graph.{Joins}
use Rattle.graph.proofs.laws.Ways.{flip, joins-lt, ends_same}
use Rattle.plan.specs.Links.{Plan, graph_of}
use Rattle.plan_tree.specs.Tree.{tree_link}
use Rattle.cue.specs.declared.Cue.{Cue}
use Rattle.cue.specs.Record.{record_of, heard_record}
use Rattle.cue_laws.proofs.Net.{Net}
use Rattle.cue_laws.proofs.Good.{Right, silent, first, got, GoodCues}

-- v has heard from u over link k
pub record ToldOver (p : Plan) (cues : List Cue) (k u v : ℕ) : Type 0 where
  pub tree : tree_link p k ≡ true
  pub teller : (record_of cues u).heard ≡ 1
  pub heard : record_of cues v ≡ heard_record (record_of cues u) k

module _ (p : Plan) (n : Net p) (cues : List Cue) (good : GoodCues p cues) (k u v : ℕ) (j : Joins (graph_of p) k u v) where
  pub told-by : (record_of cues v).heard ≡ 1 → (record_of cues v).link ≡ k → ToldOver p cues k u v
  told-by h by = cases (good.right v (n.inside k u v j))
    where
      over : (i w : ℕ) → i ≡ k → Joins (graph_of p) i w v → tree_link p i ≡ true → (record_of cues w).heard ≡ 1 → record_of cues v ≡ heard_record (record_of cues w) i → ToldOver p cues k u v
      over i w e jo t hw q =
          let same : w ≡ u = ends_same (flip (subst (λ x. Joins (graph_of p) x w v) e jo)) (flip j) in
          record {
            tree = ap (tree_link p) (sym e) ∙ t;
            teller = ap (λ x. (record_of cues x).heard) (sym same) ∙ hw;
            heard = q ∙ ap (λ x. heard_record (record_of cues x) i) same ∙ ap (heard_record (record_of cues u)) e;
          }

      cases : Right p cues good.sender good.cue v → ToldOver p cues k u v
      cases (silent q) = absurd (omega (arith, ap (λ c. c.heard) q))
      cases (first s q) = absurd (omega (arith, ap (λ c. c.link) q, joins-lt j, n.few))
      cases (got i w jo t hw q) = over i w (sym (ap (λ c. c.link) q) ∙ by) jo t hw q

module _ (p : Plan) (n : Net p) (cues : List Cue) (good : GoodCues p cues) where
  pub not-told-back : (k u v : ℕ) → Joins (graph_of p) k u v → (record_of cues u).heard ≡ 1 → (record_of cues v).hops ≡ suc (record_of cues u).hops → (record_of cues u).link ≢ k
  not-told-back k u v j hu more by = omega (arith, ap (λ c. c.hops) (told-by p n cues good k v u (flip j) hu by).heard)
