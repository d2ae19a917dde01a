-- At rest, of a part with a module awake: it is finished (`part-finished`), and where it has a core, exactly the ends of one tree link have halted (`core`).
use Rattle.std.specs.Prelude.{ℕ, ◌<◌, ◌≡◌, refl, []}
use Rattle.std.proofs.Common.{arith, sym, ap, ◌∙◌}
use Rattle.graph.specs.Graph.{up, stop, go}
use Rattle.graph.proofs.laws.Ways.{way-append}
use Rattle.plan.proofs.laws.Accepted.{Accepted}
use Rattle.plan.specs.Links.{Plan, modules_of, links_of, lower_of, higher_of}
use Rattle.field.specs.State.{State, node_at, mark_at}
use Rattle.field_calls.specs.Demand.{BothSay, InPart, Core}
use Rattle.field_calls.specs.Trail.{Awake}
use Rattle.protocol.specs.Network.{Edge}
use Rattle.protocol_stuck.proofs.Parts.{PartCore, PartFinished}
use Rattle.protocol_bridge.proofs.Fin.{st-is, halt-is}
use Rattle.demand_view.proofs.Net.{net}
use Rattle.demand.proofs.Good.{Good, node-shown, good-mark}
use Rattle.demand.proofs.Rest.{at-rest}

module _ (p : Plan) (a : Accepted p) (s : State) (g : Good p a s) where
  pub mark_of : (v k : ℕ) → g.at.mark v k ≡ mark_at p s v k
  mark_of v k = ap (λ f. f k) (good-mark p a s g v)

  pub halt-of : (v : ℕ) → v < modules_of p → g.at.halt v ≡ (node_at s v).halted
  halt-of v l = halt-is (node-shown p a s g v l)

  -- at rest, with module w awake: its part is finished
  module _ (w : ℕ) (k : Awake p s w) (z : s.words ≡ []) where
    pub part-finished : PartFinished (net p a) (g.at) w
    part-finished = (at-rest p a s g z).awake w w stop (λ e. k.awake (sym (st-is (node-shown p a s g w k.within)) ∙ e))

    pub link-ends : (k : ℕ) → k < links_of p → Edge (net p a) k (lower_of p k) (higher_of p k)
    link-ends k l = up l refl refl

    pub says : (c k : ℕ) → (g.at.mark (lower_of p k) k ≡ c) × (g.at.mark (higher_of p k) k ≡ c) → BothSay p s c k
    says c k h = record { lower = sym (mark_of (lower_of p k) k) ∙ h.0; higher = sym (mark_of (higher_of p k) k) ∙ h.1 }

    module _ (c : PartCore (net p a) (g.at) w) where
      low-in : InPart p w (lower_of p c.edge)
      low-in = (omega (arith, (a.each c.edge c.within).ordered, (a.each c.edge c.within).inside), c.inside)

      high-in : InPart p w (higher_of p c.edge)
      high-in = ((a.each c.edge c.within).inside, way-append c.inside (go c.edge (link-ends c.edge c.within) tt stop))

      pub core : Core p s (InPart p w)
      core = record {
        link = c.edge;
        within = c.within;
        tree = c.tree;
        inside = low-in;
        across = high-in;
        apart = c.apart;
        halted = λ v i. let h = c.halted v i.1 in (λ q. h.0 (halt-of v i.0 ∙ q), λ q. sym (halt-of v i.0) ∙ h.1 q);
      }
