-- REQUEST 01, by parts since request 08: what holds of every start that is taken and every list of deliveries after it (`cue-claim`), and 73 is exact (`exact-73`).
use Rattle.std.specs.Prelude.{ℕ, suc, ◌-◌, ◌*◌, ◌≡◌, true, cond, List, length, ltb}
use Rattle.std.proofs.Common.{arith, sym, ap, subst, ◌∙◌, eqb-true, lt-ltb, le-ltb}
use Rattle.base.specs.Twice.{another}
use Rattle.graph.specs.Parts.{part_nodes}
use Rattle.plan.specs.Links.{Plan, modules_of, links_of, graph_of}
use Rattle.field.specs.Held.{Held}
use Rattle.cue.specs.declared.Cue.{Cue}
use Rattle.cue.specs.Record.{record_of, has_heard, sender_record, begun_cues}
use Rattle.cue.specs.Copies.{copies_sent, copies_waiting}
use Rattle.cue.specs.Calls.{start_cue, deliver_cue, refusal_number}
use Rattle.cue.specs.Claims.{deliveries, heard_over, AllHeard, Reaches, CueHolds, CueClaim, Exact73}
use Rattle.cue.proofs.laws.Record.{length-begun, begun-sender, begun-past}
use Rattle.cue.proofs.laws.Refusals.{FieldReady, StartTaken}
use Rattle.cue.proofs.laws.Calls.{start-taken, start-state}
use Rattle.graph.proofs.laws.Parts.{part_filled}
use Rattle.cue_laws.proofs.Net.{Net}
use Rattle.cue_laws.proofs.Good.{GoodCues}
use Rattle.cue_laws.proofs.Once.{hears-once, begun-good}
use Rattle.cue_laws.proofs.AllHeard.{all-heard}
use Rattle.cue_laws.proofs.Counts.{heads, arrivals, sent-counts, begun-heads, begun-arrivals}
use Rattle.cue_laws.proofs.Part.{part-heads}
use Rattle.cue_laws.proofs.Paths.{tells-path, heard-part, same-cue, good-with, record-unheard}
use Rattle.cue_laws.proofs.Follow.{same-followed}
use Rattle.cue_laws.proofs.Trail.{Trail, trail-kept, trail-past, trail-length, trail-heads, trail-arrivals, trail-others, trail-once}
use Rattle.cue_laws.proofs.Spread.{spread}
use Rattle.cue_laws.proofs.Deliveries.{ready_net, delivery-cases, deliveries-trail, deliveries-good, trail-deliveries}
use Rattle.cue_laws.proofs.Exact.{passes-left, left-passes}

-- a start that is taken, with deliveries after it
module _ (h : Held) (lent : List Cue) (sender cue : ℕ) (taken : (start_cue h lent sender cue).refusal ≡ 0) (ds : List ℕ) where
  abbrev p : Plan
  p = h.field.plan

  facts : StartTaken h (length lent) sender
  facts = start-taken h lent sender cue taken

  net : Net p
  net = ready_net h facts.ready

  -- what the start leaves ..
  abbrev first : List Cue
  first = (start_cue h lent sender cue).state

  first-is : begun_cues (modules_of p) sender cue lent ≡ first
  first-is = sym (start-state h lent sender cue taken)

  first_good : GoodCues p first
  first_good = subst (GoodCues p) first-is (begun-good p lent sender cue facts.enough facts.below)

  first-sender : record_of first sender ≡ sender_record cue
  first-sender = ap (λ l. record_of l sender) (sym first-is) ∙ begun-sender (modules_of p) sender cue lent facts.enough facts.below

  first-heads : heads p first ≡ 1
  first-heads = subst (λ l. heads p l ≡ 1) first-is (begun-heads p net lent sender cue facts.enough facts.below)

  first-arrivals : arrivals p first ≡ 0
  first-arrivals = subst (λ l. arrivals p l ≡ 0) first-is (begun-arrivals p net lent sender cue facts.enough facts.below)

  -- .. and the deliveries
  abbrev last : List Cue
  last = deliveries h ds first

  trail : Trail p first (heard_over h ds first) last
  trail = deliveries-trail h facts.ready ds first first_good

  last-sender : record_of last sender ≡ sender_record cue
  last-sender = trail-kept p net first_good trail sender (ap (λ c. c.heard) first-sender) ∙ first-sender

  -- good records of this sender and this cue
  abbrev last-good : GoodCues p last
  last-good = good-with p net last (deliveries-good h facts.ready ds first first_good) sender cue facts.below last-sender

  sender-heard : has_heard (record_of last sender) ≡ true
  sender-heard = ap has_heard last-sender

  -- THE SENDER'S PART

  abbrev many-in-part : ℕ
  many-in-part = part_nodes (graph_of p) (modules_of p) sender

  reaches_all : Reaches h p sender last
  reaches_all =
      let x = spread p net sender facts.below (many-in-part - 1) last last-good sender-heard (omega (arith, trail-heads p net first_good trail, first-heads)) in
      record {
        order = x.order;
        few = omega (arith, x.few, part_filled (graph_of p) (modules_of p) sender facts.below);
        all = subst (AllHeard p sender) (sym (trail-deliveries h facts.ready last-good x.trail)) x.all;
      }

  all-sent : copies_waiting p last ≡ 0 → suc (copies_sent p last) ≡ many-in-part
  all-sent z = omega (
    arith,
    z,
    sent-counts p net last last-good,
    trail-arrivals p net first_good trail,
    first-arrivals,
    trail-heads p net first_good trail,
    first-heads,
    part-heads p net last last-good sender facts.below sender-heard (all-heard p net last last-good z),
  )

  only-42 : (d : ℕ) → refusal_number (deliver_cue h last d).answer ≡ cond (ltb d (2 * links_of p)) 0 42
  only-42 d = delivery-cases h facts.ready last last-good d (λ x. refusal_number x.answer ≡ cond (ltb d (2 * links_of p)) 0 42)
      (λ l w. rw (lt-ltb d (2 * links_of p) l))
      (λ l w. rw (lt-ltb d (2 * links_of p) l))
      (λ l. rw (le-ltb d (2 * links_of p) l))

  holds : CueHolds h p lent sender cue ds last
  holds =
      let same = same-followed h lent sender cue taken ds in
      record {
        kept = λ v l e es. trail-kept p net last-good (deliveries-trail h facts.ready es last last-good) v (eqb-true _ _ e);
        once = another (trail-others p net first_good trail sender (ap (λ c. c.heard) first-sender)) (trail-once p net first_good trail);
        copies = omega (arith, sent-counts p net last last-good, trail-arrivals p net first_good trail, first-arrivals);
        sent = all-sent;
        all = all-heard p net last last-good;
        part = λ v l e. heard-part p net last last-good sender v facts.below l sender-heard e;
        path = tells-path p net last last-good;
        same = same-cue p net last last-good;
        others = record-unheard p last last-good;
        fresh = hears-once p net last last-good;
        reaches = reaches_all;
        past = λ i l. trail-past p net first_good trail i l ∙ (ap (λ x. record_of x i) (sym first-is) ∙ begun-past (modules_of p) sender cue lent facts.below i l);
        many = trail-length p net trail ∙ (ap length (sym first-is) ∙ length-begun (modules_of p) sender cue lent facts.enough);
        refusals = only-42;
        followed = same.cues;
        channels = same.channels;
      }

-- THE CLAIM
pub cue-claim : CueClaim
cue-claim h lent sender cue taken ds = holds h lent sender cue taken ds

-- 73 IS EXACT
pub exact-73 : Exact73
exact-73 h cues admitted agreed enough =
    let ready : FieldReady h = record { admitted = admitted; agreed = agreed } in
    (passes-left h ready cues enough, left-passes h ready cues enough)
