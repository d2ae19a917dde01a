-- Along the links heard by: a module that has heard holds the cue that was sent (`same-cue`), and its hops and link tell the tree's path from the
-- sender, the only one (`tells-path`). So those that have heard are of one part (`heard-part`). A module that has not heard holds nothing (`record-unheard`). Any
-- known sender will do (`good-with`).
use Rattle.std.specs.Prelude.{ℕ, ◌+◌, ◌≤◌, ◌<◌, ◌≡◌, refl, ◌≢◌, true, false, List, [], ◌∷◌, length, eqb}
use Rattle.std.proofs.Common.{arith, sym, subst, subst₂, ◌∙◌, true≢false, length-append}
use Rattle.std.proofs.Math.Path.{ap}
use Rattle.base.specs.None.{none}
use Rattle.base.specs.Pool.{All}
use Rattle.base.proofs.laws.Pool.{All-map, All-app, All-one}
use Rattle.base.proofs.laws.Search.{strong}
use Rattle.base.proofs.laws.Twice.{NoTwice-one}
use Rattle.graph.specs.Graph.{Joins, stop, go}
use Rattle.graph.specs.Path.{edges_of, nodes_of, last_or}
use Rattle.graph.specs.Parts.{SamePart}
use Rattle.graph.proofs.laws.Ways.{flip, way-append, way-reverse, wider}
use Rattle.graph.proofs.laws.Path.{paths-same, edges-append, nodes-further, path-further, last-behind}
use Rattle.plan.specs.Links.{Plan, modules_of, graph_of}
use Rattle.plan_tree.specs.Tree.{tree_link}
use Rattle.cue.specs.declared.Cue.{Cue}
use Rattle.cue.specs.Record.{unheard, record_of, has_heard, sender_record, heard_record}
use Rattle.cue.specs.Claims.{TellsPath}
use Rattle.cue_laws.proofs.Net.{Net}
use Rattle.cue_laws.proofs.Good.{Right, silent, first, got, GoodCues}
use Rattle.cue_laws.proofs.Rule.{sole-sender}
use Rattle.cue_laws.proofs.Route.{Route}

module _ (p : Plan) (net : Net p) (cues : List Cue) (good : GoodCues p cues) where
  -- the sender's
  route-first : Route p cues good good.sender
  unfolding last_or
  route-first = record {
    path = record { way = stop; simple = NoTwice-one good.sender };
    under = All-one (omega arith);
    hops = ap (λ c. c.hops) good.started;
    link = ap (λ c. c.link) good.started;
    cue = ap (λ c. c.cue) good.started;
  }

  -- one link further
  route-further : (k u v : ℕ) → Joins (graph_of p) k u v → tree_link p k ≡ true → record_of cues v ≡ heard_record (record_of cues u) k
      → Route p cues good u → Route p cues good v
  route-further k u v j t e x =
      let one_more : (record_of cues v).hops ≡ (record_of cues u).hops + 1 = ap (λ c. c.hops) e in
      let new : All (λ y. v ≢ y) (nodes_of x.path.way) = All-map (λ y l q. omega (arith, ap (λ z. (record_of cues z).hops) q, l)) x.under in
      let edges = edges-append x.path.way (go k j t stop) in
      record {
        path = path-further x.path j t new;
        under = subst (All (λ y. (record_of cues y).hops ≤ (record_of cues v).hops)) (sym (nodes-further x.path.way j t))
            (All-app (All-map (λ y l. omega (arith, l)) x.under) (All-one (omega arith)));
        hops = omega (arith, one_more, x.hops, length-append (edges_of x.path.way) (k ∷ []), ap length edges);
        link = ap (λ c. c.link) e ∙ (sym (last-behind none (edges_of x.path.way) k) ∙ ap (last_or none) (sym edges));
        cue = ap (λ c. c.cue) e ∙ x.cue;
      }

  -- by induction on the hops
  route : (v : ℕ) → v < modules_of p → has_heard (record_of cues v) ≡ true → Route p cues good v
  route v = strong Upto step (record_of cues v).hops v refl
    where
      Upto : ℕ → Type 0
      Upto n = (v : ℕ) → (record_of cues v).hops ≡ n → v < modules_of p → has_heard (record_of cues v) ≡ true → Route p cues good v

      step : (n : ℕ) → ((m : ℕ) → m < n → Upto m) → Upto n
      step n ih v q l h = by (good.right v l)
        where
          by : Right p cues good.sender good.cue v → Route p cues good v
          by (silent e) = absurd (true≢false (sym h ∙ ap has_heard e))
          by (first s e) = subst (Route p cues good) (sym s) route-first
          by (got k u j t heard e) = route-further k u v j t e
              (ih (record_of cues u).hops (omega (arith, q, ap (λ c. c.hops) e)) u refl (net.inside k v u (flip j)) (ap (λ x. eqb x 1) heard))

  -- and there is no other path
  pub tells-path : (v : ℕ) → v < modules_of p → has_heard (record_of cues v) ≡ true → TellsPath p good.sender v (record_of cues v)
  tells-path v l h = let x = route v l h in record { path = x.path; hops = x.hops; link = x.link; only = λ q. paths-same net.spare q x.path }

  -- any two that have heard are in one part
  pub heard-part : (u v : ℕ) → u < modules_of p → v < modules_of p → has_heard (record_of cues u) ≡ true → has_heard (record_of cues v) ≡ true → SamePart (graph_of p) u v
  heard-part u v lu lv hu hv = wider (λ k l t. tt) (way-append (way-reverse (route u lu hu).path.way) (route v lv hv).path.way)

  pub same-cue : (v : ℕ) → v < modules_of p → has_heard (record_of cues v) ≡ true → (record_of cues v).cue ≡ good.cue
  same-cue v l h = (route v l h).cue

-- good records have one sender: where it is known, with its cue, they are good with these two
abbrev pub good-with : (p : Plan) → Net p → (cues : List Cue) → GoodCues p cues → (sender cue : ℕ) → sender < modules_of p → record_of cues sender ≡ sender_record cue → GoodCues p cues
good-with p net cues good sender cue l e =
    let one = sole-sender p net cues good sender l (ap (λ c. c.heard) e) (ap (λ c. c.link) e) in
    let its : cue ≡ good.cue = ap (λ c. c.cue) (sym e ∙ ap (record_of cues) one ∙ good.started) in
    record {
      enough = good.enough;
      sender = sender;
      cue = cue;
      below = l;
      started = e;
      right = λ v m. subst₂ (λ s c. Right p cues s c v) (sym one) (sym its) (good.right v m);
    }

pub record-unheard : (p : Plan) (cues : List Cue) (good : GoodCues p cues) (v : ℕ) → v < modules_of p → has_heard (record_of cues v) ≡ false
    → record_of cues v ≡ unheard
record-unheard p cues good v l h = by (good.right v l)
  where
    by : Right p cues good.sender good.cue v → record_of cues v ≡ unheard
    by (silent e) = e
    by (first s e) = absurd (true≢false (sym (ap has_heard e) ∙ h))
    by (got k u j t heard e) = absurd (true≢false (sym (ap has_heard e) ∙ h))
