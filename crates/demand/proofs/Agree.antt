-- What a good state says of the tree: always (`branch-tree`), and at rest of each part with a module awake (`agreed`).
use Rattle.std.specs.Prelude.{ℕ, ◌≡◌, []}
use Rattle.std.proofs.Common.{arith, sym, subst, ◌∙◌, ⊎_elim}
use Rattle.graph.specs.Graph.{stop}
use Rattle.plan.proofs.laws.Accepted.{Accepted}
use Rattle.plan.specs.Links.{Plan, lower_of, higher_of}
use Rattle.node.specs.Work.{BRANCH, REJECTED}
use Rattle.field.specs.State.{State, node_at, mark_at}
use Rattle.field_calls.specs.Demand.{TreeLink, InPart, Agreed}
use Rattle.field_calls.specs.Trail.{Awake}
use Rattle.demand.proofs.Good.{Good}
use Rattle.demand.proofs.Core.{mark_of, halt-of, part-finished, link-ends, says, core}

module _ (p : Plan) (a : Accepted p) (s : State) (g : Good p a s) where
  -- EVERY BRANCH IS A TREE LINK (m5)
  pub branch-tree : (v k : ℕ) → mark_at p s v k ≡ BRANCH → TreeLink p k
  branch-tree v k m =
      let q : g.at.mark v k ≡ 1 = mark_of p a s g v k ∙ m in
      let e = g.reach.inv.markings.own v k (λ z. omega arith) in
      g.reach.inv.markings.m5 k v e.0 e.1 q

  -- at rest, with module w awake
  module _ (w : ℕ) (k : Awake p s w) (z : s.words ≡ []) where
    -- W'S PART AGREES
    pub agreed : Agreed p s (InPart p w)
    agreed =
        let finished = part-finished p a s g w k z in
        record {
          tree = λ j l i h. says p a s g w k z BRANCH j (finished.tree j (lower_of p j) (higher_of p j) (link-ends p a s g w k z j l) i.1 h);
          others = λ j l i h. says p a s g w k z REJECTED j (finished.others j (lower_of p j) (higher_of p j) (link-ends p a s g w k z j l) i.1 h);
          alone = λ v i only. ⊎_elim
              (λ c. let o = core p a s g w k z c in absurd (o.apart (only (lower_of p o.link) o.inside ∙ sym (only (higher_of p o.link) o.across))))
              (λ o. subst (λ u. (node_at s u).halted ≡ 1) (only w (k.within, stop)) (sym (halt-of p a s g w k.within) ∙ o.halted))
              finished.halted;
          core = λ u v i j d. ⊎_elim (core p a s g w k z) (λ o. absurd (d (o.only u i.1 ∙ sym (o.only v j.1)))) finished.halted;
        }
