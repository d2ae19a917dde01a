-- Following copies one by one leaves the records that deliveries leave, and in each channel the copy that waits there by the records (`FollowsSame`): after a
-- start (`same_start`), a delivery (`same-heard`, `same-idle`, `same-beyond`), a start that is taken and any list of deliveries (`same-followed`).
use Rattle.std.specs.Prelude.{ℕ, ◌*◌, ◌≤◌, ◌<◌, ◌≡◌, refl, ◌≢◌, true, false, List, [], ◌∷◌, ◌++◌, length, set}
use Rattle.std.proofs.Common.{arith, sym, ap, ◌∙◌}
use Rattle.std.proofs.Math.Path.{subst}
use Rattle.base.specs.None.{none}
use Rattle.base.specs.Cond.{upd}
use Rattle.base.proofs.laws.Cond.{by-eq, upd-elim, upd_other}
use Rattle.graph.specs.Graph.{Joins}
use Rattle.graph.proofs.laws.Ways.{flip, joins-lt}
use Rattle.plan.specs.Links.{Plan, modules_of, links_of, graph_of}
use Rattle.field.specs.Edges.{link_of, from, dest}
use Rattle.field.specs.Held.{Held}
use Rattle.cue.specs.declared.Cue.{Cue}
use Rattle.cue.specs.Record.{unheard, record_of, sender_record, heard_record, begun_cues}
use Rattle.cue.specs.Copies.{waits_on, arrival}
use Rattle.cue.specs.Calls.{start_cue}
use Rattle.cue.specs.Claims.{deliveries}
use Rattle.cue.specs.Follow.{Followed, passes_on, follow_start, arrives, follow}
use Rattle.cue.proofs.laws.Record.{begun-sender, begun-other}
use Rattle.cue.proofs.laws.Copies.{ArrivedOver, WaitsOn, waits-facts, sent-alike, arrived-alike}
use Rattle.cue.proofs.laws.Refusals.{FieldReady, ready-accepted}
use Rattle.cue.proofs.laws.Calls.{start-taken, start-state}
use Rattle.cue.proofs.laws.Follow.{Passes, passes-adds, passes-keeps}
use Rattle.cue_laws.proofs.Net.{Net}
use Rattle.cue_laws.proofs.NetOf.{net_of}
use Rattle.cue_laws.proofs.Good.{GoodCues}
use Rattle.cue_laws.proofs.Once.{hears-once, arrival-there, arrival-elsewhere, arrival-kept, arrival-good, begun-good}
use Rattle.cue_laws.proofs.Deliveries.{ready_net, delivery-cases}
use Rattle.cue_laws.proofs.Told.{told-by}
use Rattle.cue_laws.proofs.Waiting.{waiting, waiting-by, waiting-copy, waiting_none}

pub record FollowsSame (p : Plan) (left : List Cue) (x : Followed) : Type 0 where
  pub cues : x.cues ≡ left
  pub channels : (d : ℕ) → d < 2 * links_of p → x.channel d ≡ waiting p left d
  pub beyond : (d : ℕ) → 2 * links_of p ≤ d → x.channel d ≡ []

-- A START

module _ (p : Plan) (net : Net p) (lent : List Cue) (sender cue : ℕ) (enough : modules_of p ≤ length lent) (below : sender < modules_of p) where
  abbrev fresh : List Cue
  fresh = begun_cues (modules_of p) sender cue lent

  abbrev opened : ℕ → List Cue
  opened = passes_on p sender none (sender_record cue) (λ d. [])

  module _ (d : ℕ) (l : d < 2 * links_of p) where
    start-edge : Joins (graph_of p) (link_of d) (from p d) (dest p d)
    start-edge = net.leads d l

    by-sender : from p d ≡ sender → record_of fresh (from p d) ≡ sender_record cue
    by-sender e = ap (record_of fresh) e ∙ begun-sender (modules_of p) sender cue lent enough below

    by-nobody : from p d ≢ sender → record_of fresh (from p d) ≡ unheard
    by-nobody e = begun-other (modules_of p) sender cue lent (from p d) (net.inside (link_of d) (dest p d) (from p d) (flip start-edge)) e

    to-nobody : from p d ≡ sender → record_of fresh (dest p d) ≡ unheard
    to-nobody e = begun-other (modules_of p) sender cue lent (dest p d) (net.inside (link_of d) (from p d) (dest p d) start-edge)
        (λ q. net.apart (link_of d) (from p d) (dest p d) start-edge (e ∙ sym q))

    start-passes : WaitsOn p fresh d → from p d ≡ sender → Passes p sender none d
    start-passes w e = record { below = l; near = e; tree = w.sent.tree; onward = λ q. omega (arith, joins-lt start-edge, net.few) }

    start-waits : Passes p sender none d → WaitsOn p fresh d
    start-waits x = record {
      sent = record {
        tree = x.tree;
        heard = ap (λ c. c.heard) (by-sender x.near);
        onward = λ q. x.onward (sym q ∙ ap (λ c. c.link) (by-sender x.near));
      };
      under-way = λ a. omega (arith, a.heard, ap (λ c. c.heard) (to-nobody x.near));
    }

    start-channel : opened d ≡ waiting p fresh d
    start-channel = waiting-by p fresh d
        (λ w. by-eq (from p d) sender
        (λ e. passes-adds p sender none (sender_record cue) (λ d. []) d (start-passes w e) ∙ ap (λ c. c ∷ []) (sym (by-sender e)))
        (λ n. absurd (omega (arith, w.sent.heard, ap (λ c. c.heard) (by-nobody n)))))
        (λ n. passes-keeps p sender none (sender_record cue) (λ d. []) d (λ x. n (start-waits x)))

  same_start : FollowsSame p fresh (follow_start p lent sender cue)
  same_start = record {
    cues = refl;
    channels = start-channel;
    beyond = λ d l. passes-keeps p sender none (sender_record cue) (λ d. []) d (λ x. omega (arith, x.below));
  }

-- AN ARRIVAL

module _ (p : Plan) (net : Net p) (cues : List Cue) (good : GoodCues p cues) (x : Followed) (same : FollowsSame p cues x)
    (d : ℕ) (l : d < 2 * links_of p) (waits : waits_on p cues d ≡ true) where
  abbrev after : List Cue
  after = arrival p cues d

  -- the module that hears, and its record then
  abbrev there : ℕ
  there = dest p d

  abbrev heard : Cue
  heard = heard_record (record_of cues (from p d)) (link_of d)

  -- the channels without the copy that arrives, and then with those that are passed on
  abbrev taken : ℕ → List Cue
  taken = upd x.channel d []

  abbrev passed : ℕ → List Cue
  passed = passes_on p there (link_of d) heard taken

  silent-there : record_of cues there ≡ unheard
  silent-there = hears-once p net cues good d l waits

  module _ (e : ℕ) (m : e < 2 * links_of p) where
    edge : Joins (graph_of p) (link_of e) (from p e) (dest p e)
    edge = net.leads e m

    -- e leaves the module that hears: nothing waits there before, ..
    taken_none : from p e ≡ there → taken e ≡ []
    taken_none q = upd-elim (λ r. r ≡ []) x.channel d [] e (λ i. refl)
        (λ i. same.channels e m ∙ waiting_none p cues e (λ w. omega (arith, w.sent.heard, ap (λ c. c.heard) (ap (record_of cues) q ∙ silent-there))))

    near-heard : from p e ≡ there → record_of after (from p e) ≡ heard
    near-heard q = ap (record_of after) q ∙ arrival-there p net cues good d l waits

    -- .. and nobody has heard over it
    none-arrived : from p e ≡ there → ¬ ArrivedOver p after e
    none-arrived q a =
        let other : dest p e ≢ there = λ i. net.apart (link_of e) (from p e) (dest p e) edge (q ∙ sym i) in
        let before = arrived-alike p after cues e (arrival-elsewhere p net cues good d l waits (dest p e) other) a in
        let told = told-by p net cues good (link_of e) (from p e) (dest p e) edge before.heard before.link in
        omega (arith, told.teller, ap (λ c. c.heard) (ap (record_of cues) q ∙ silent-there))

    near-passes : from p e ≡ there → WaitsOn p after e → Passes p there (link_of d) e
    near-passes q w = record { below = m; near = q; tree = w.sent.tree; onward = λ i. w.sent.onward (ap (λ c. c.link) (near-heard q) ∙ sym i) }

    near-waits : from p e ≡ there → Passes p there (link_of d) e → WaitsOn p after e
    near-waits q y = record {
      sent = record {
        tree = y.tree;
        heard = ap (λ c. c.heard) (near-heard q);
        onward = λ i. y.onward (sym i ∙ ap (λ c. c.link) (near-heard q));
      };
      under-way = none-arrived q;
    }

    channel-near : from p e ≡ there → passed e ≡ waiting p after e
    channel-near q = waiting-by p after e
        (λ w. passes-adds p there (link_of d) heard taken e (near-passes q w)
        ∙ ap (λ r. r ++ (heard ∷ [])) (taken_none q) ∙ ap (λ c. c ∷ []) (sym (near-heard q)))
        (λ n. passes-keeps p there (link_of d) heard taken e (λ y. n (near-waits q y)) ∙ taken_none q)

    -- e leaves another module: that one's record is as before
    module _ (q : from p e ≢ there) where
      kept : record_of after (from p e) ≡ record_of cues (from p e)
      kept = arrival-elsewhere p net cues good d l waits (from p e) q

      waited : WaitsOn p after e → WaitsOn p cues e
      waited w = record {
        sent = sent-alike p after cues e kept w.sent;
        under-way = λ a. w.under-way (arrived-alike p cues after e (sym (arrival-kept p net cues good d l waits (dest p e) a.heard)) a);
      }

      -- no copy arrived but that of d
      waits-on : d ≢ e → WaitsOn p cues e → WaitsOn p after e
      waits-on i w = record {
        sent = sent-alike p cues after e (sym kept) w.sent;
        under-way = λ a. by-eq (dest p e) there
            (λ t. i (net.sole d e l m (ap (λ c. c.link) (sym (ap (record_of after) t ∙ arrival-there p net cues good d l waits)) ∙ a.link) (sym t)))
            (λ t. w.under-way (arrived-alike p after cues e (arrival-elsewhere p net cues good d l waits (dest p e) t) a));
      }

      arrived-over : d ≡ e → ArrivedOver p after e
      arrived-over i =
          let found : record_of after (dest p e) ≡ heard = ap (λ j. record_of after (dest p j)) (sym i) ∙ arrival-there p net cues good d l waits in
          record { heard = ap (λ c. c.heard) found; link = ap (λ c. c.link) found ∙ ap link_of i }

      channel-far : passed e ≡ waiting p after e
      channel-far = passes-keeps p there (link_of d) heard taken e (λ y. q y.near) ∙ waiting-by p after e
          (λ w. upd_other x.channel d [] e (λ i. w.under-way (arrived-over i))
          ∙ same.channels e m ∙ waiting-copy p cues e (waited w) ∙ ap (λ c. c ∷ []) (sym kept))
          (λ n. upd-elim (λ r. r ≡ []) x.channel d [] e (λ i. refl) (λ i. same.channels e m ∙ waiting_none p cues e (λ w. n (waits-on i w))))

  arrives-same : FollowsSame p after (record { cues = set x.cues there heard; channel = passed })
  arrives-same = record {
    cues = ap (λ r. set r there heard) same.cues;
    channels = λ e m. by-eq (from p e) there (channel-near e m) (channel-far e m);
    beyond = λ e m.
        passes-keeps p there (link_of d) heard taken e (λ y. omega (arith, y.below))
        ∙ upd_other x.channel d [] e (λ i. omega arith)
        ∙ same.beyond e m;
  }

-- DELIVERIES

module _ (p : Plan) where
  -- a channel that holds nothing
  idle-same : (cues : List Cue) (x : Followed) (d : ℕ) → FollowsSame p cues x → x.channel d ≡ [] → FollowsSame p cues (arrives p d x (x.channel d))
  unfolding arrives
  idle-same cues x d same e = subst (λ r. FollowsSame p cues (arrives p d x r)) (sym e) same

  same-beyond : (cues : List Cue) (x : Followed) → FollowsSame p cues x → (d : ℕ) → 2 * links_of p ≤ d → FollowsSame p cues (arrives p d x (x.channel d))
  same-beyond cues x same d l = idle-same cues x d same (same.beyond d l)

  same-idle : (cues : List Cue) (x : Followed) → FollowsSame p cues x → (d : ℕ) → d < 2 * links_of p → waits_on p cues d ≡ false → FollowsSame p cues (arrives p d x (x.channel d))
  same-idle cues x same d l w = idle-same cues x d same (same.channels d l ∙ rw w)

  same-heard : Net p → (cues : List Cue) → GoodCues p cues → (x : Followed) → FollowsSame p cues x → (d : ℕ) → d < 2 * links_of p → waits_on p cues d ≡ true
      → FollowsSame p (arrival p cues d) (arrives p d x (x.channel d))
  unfolding arrives
  same-heard net cues good x same d l w =
      let copy = same.channels d l ∙ waiting-copy p cues d (waits-facts p cues d w) in
      subst (λ c. FollowsSame p (arrival p cues d) (arrives p d x c)) (sym copy) (arrives-same p net cues good x same d l w)

-- LISTS OF DELIVERIES

same-deliveries : (h : Held) (ready : FieldReady h) (ds : List ℕ) (cues : List Cue) → GoodCues h.field.plan cues → (x : Followed) → FollowsSame h.field.plan cues x
    → FollowsSame h.field.plan (deliveries h ds cues) (follow h.field.plan ds x)
unfolding deliveries follow
same-deliveries h ready [] cues good x same = same
same-deliveries h ready (d ∷ ds) cues good x same =
    let p = h.field.plan in
    let net = ready_net h ready in
    let next = arrives p d x (x.channel d) in
    delivery-cases h ready cues good d (λ r. FollowsSame p (deliveries h ds r.cues) (follow p ds next))
    (λ l w. same-deliveries h ready ds (arrival p cues d) (arrival-good p net cues good d l w) next (same-heard p net cues good x same d l w))
    (λ l w. same-deliveries h ready ds cues good next (same-idle p cues x same d l w))
    (λ l. same-deliveries h ready ds cues good next (same-beyond p cues x same d l))

-- FROM A START ON

pub same-followed : (h : Held) (lent : List Cue) (sender cue : ℕ) → (start_cue h lent sender cue).refusal ≡ 0 → (ds : List ℕ)
    → FollowsSame h.field.plan (deliveries h ds (start_cue h lent sender cue).state) (follow h.field.plan ds (follow_start h.field.plan lent sender cue))
same-followed h lent sender cue e ds =
    let s = start-taken h lent sender cue e in
    let p = h.field.plan in
    subst (λ r. FollowsSame p (deliveries h ds r) (follow p ds (follow_start p lent sender cue))) (sym (start-state h lent sender cue e))
    (same-deliveries h s.ready ds (begun_cues (modules_of p) sender cue lent) (begun-good p lent sender cue s.enough s.below) (follow_start p lent sender cue)
    (same_start p (net_of p (ready-accepted h s.ready)) lent sender cue s.enough s.below))
