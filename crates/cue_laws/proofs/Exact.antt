-- On a field that 31 and 71 let pass: records that pass 73 are left by some start and some deliveries (`passes-left`), and those that are pass (`left-passes`).
use Rattle.std.specs.Prelude.{ℕ, ◌*◌, ◌≤◌, ◌<◌, ◌≡◌, true, List, [], ◌∷◌, ◌++◌, length}
use Rattle.std.proofs.Math.Path.{refl, ap}
use Rattle.std.proofs.Common.{sym, subst, ◌∙◌}
use Rattle.base.specs.Pool.{All, nil}
use Rattle.base.proofs.laws.Pool.{All-app, All-one}
use Rattle.plan.specs.Links.{Plan, modules_of, links_of}
use Rattle.field.specs.Held.{Held}
use Rattle.cue.specs.declared.Cue.{Cue}
use Rattle.cue.specs.Record.{begun_cues}
use Rattle.cue.specs.Calls.{left_by_sending}
use Rattle.cue.specs.Claims.{deliveries, Sending}
use Rattle.cue.proofs.laws.Refusals.{FieldReady}
use Rattle.cue.proofs.laws.Calls.{start-taken, taken_start, start-state}
use Rattle.cue_laws.proofs.Good.{GoodCues, Left, begins, goes}
use Rattle.cue_laws.proofs.Once.{begun-good}
use Rattle.cue_laws.proofs.Rule.{test_good, good-test}
use Rattle.cue_laws.proofs.GoodLeft.{left-good, good_left}
use Rattle.cue_laws.proofs.Deliveries.{ready_net, delivery-leaves, deliveries-good, deliveries-append}

module _ (h : Held) (ready : FieldReady h) where
  abbrev plan : Plan
  plan = h.field.plan

  -- records that are left, as a start and a list of deliveries
  record Ordered (lent cues : List Cue) : Type 0 where
    sender : ℕ
    cue : ℕ
    below : sender < modules_of plan
    order : List ℕ
    within : All (λ d. d < 2 * links_of plan) order
    leaves : deliveries h order (begun_cues (modules_of plan) sender cue lent) ≡ cues

  ordered : (lent : List Cue) → modules_of plan ≤ length lent → {cues : List Cue} → Left plan lent cues → Ordered lent cues
  unfolding deliveries
  ordered lent enough (begins sender cue below) = record { sender = sender; cue = cue; below = below; order = []; within = nil; leaves = refl }
  ordered lent enough (goes cues d l left) =
      let x = ordered lent enough left in
      record {
        sender = x.sender;
        cue = x.cue;
        below = x.below;
        order = x.order ++ (d ∷ []);
        within = All-app x.within (All-one l);
        leaves =
            deliveries-append h x.order (d ∷ []) (begun_cues (modules_of plan) x.sender x.cue lent)
            ∙ ap (deliveries h (d ∷ [])) x.leaves
            ∙ delivery-leaves h ready cues (left-good plan (ready_net h ready) lent enough left) d l;
      }

  module _ (cues : List Cue) (enough : modules_of plan ≤ length cues) where
    pub passes-left : left_by_sending plan cues ≡ true → Sending h plan cues
    passes-left e =
        let net = ready_net h ready in
        let x = ordered cues enough (good_left plan net cues (test_good plan net cues enough e)) in
        let taken = taken_start h cues x.sender x.cue (record { ready = ready; below = x.below; enough = enough }) in
        record {
          lent = cues;
          sender = x.sender;
          cue = x.cue;
          order = x.order;
          taken = taken;
          within = x.within;
          leaves = ap (deliveries h x.order) (start-state h cues x.sender x.cue taken) ∙ x.leaves;
        }

    pub left-passes : Sending h plan cues → left_by_sending plan cues ≡ true
    left-passes s =
        let f = start-taken h s.lent s.sender s.cue s.taken in
        let start = begun_cues (modules_of plan) s.sender s.cue s.lent in
        let good = deliveries-good h ready s.order start (begun-good plan s.lent s.sender s.cue f.enough f.below) in
        good-test plan (ready_net h ready) cues (subst (GoodCues plan) (ap (deliveries h s.order) (sym (start-state h s.lent s.sender s.cue s.taken)) ∙ s.leaves) good)
