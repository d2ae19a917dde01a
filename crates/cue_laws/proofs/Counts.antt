-- Copies are counted: in good records those sent are those arrived and those waiting (`sent-counts`). A start has one module that has heard and no copy
-- arrived (`begun-heads`, `begun-arrivals`); an arrival is one more of both (`arrival-heads`, `arrival-arrivals`).
use Rattle.std.specs.Prelude.{ℕ, suc, ◌+◌, ◌*◌, ◌≤◌, ◌<◌, ◌≡◌, refl, ◌≢◌, true, ◌&&◌, List, length}
use Rattle.std.proofs.Common.{arith, ◌∙◌}
use Rattle.std.proofs.Math.Path.{sym, ap}
use Rattle.std.proofs.Math.Dec.{eqb}
use Rattle.base.specs.Cond.{bit}
use Rattle.base.specs.Sum.{sum}
use Rattle.base.proofs.laws.Cond.{bool_cases, by-eq, eqb_same, eqb-diff}
use Rattle.base.proofs.laws.Sum.{sum-eq, sum-add, sum-zero, sum-change, sum_one}
use Rattle.graph.specs.Graph.{Joins}
use Rattle.graph.proofs.laws.Ways.{joins-lt}
use Rattle.plan.specs.Links.{Plan, modules_of, links_of, graph_of}
use Rattle.field.specs.Edges.{link_of, from, dest}
use Rattle.cue.specs.declared.Cue.{Cue}
use Rattle.cue.specs.Record.{record_of, has_heard, begun_cues}
use Rattle.cue.specs.Copies.{sent_over, arrived_over, waits_on, arrival, copies_sent, copies_waiting}
use Rattle.cue.proofs.laws.Record.{begun-sender, begun-other}
use Rattle.cue.proofs.laws.Copies.{ArrivedOver, facts-sent, arrived-facts, facts-arrived, waits-facts}
use Rattle.cue_laws.proofs.Net.{Net}
use Rattle.cue_laws.proofs.Good.{GoodCues}
use Rattle.cue_laws.proofs.Told.{told-by, not-told-back}
use Rattle.cue_laws.proofs.Once.{hears-once, arrival-there, arrival-elsewhere}

-- how many modules have heard, and how many copies have arrived
abbrev pub heads : Plan → List Cue → ℕ
heads p cues = sum (modules_of p) (λ v. bit (has_heard (record_of cues v)))

abbrev pub arrivals : Plan → List Cue → ℕ
arrivals p cues = sum (2 * links_of p) (λ d. bit (arrived_over p cues d))

module _ (p : Plan) (cues : List Cue) (d : ℕ) where
  arrived-not : ¬ ArrivedOver p cues d → bit (arrived_over p cues d) ≡ 0
  arrived-not f = bool_cases (arrived_over p cues d) (λ a. absurd (f (arrived-facts p cues d a))) (λ a. rw a)

module _ (p : Plan) (n : Net p) where
  module _ (cues : List Cue) (good : GoodCues p cues) where
    -- SENT, ARRIVED, WAITING

    -- what has arrived was sent
    pub arrived-sent : (d : ℕ) → d < 2 * links_of p → arrived_over p cues d ≡ true → sent_over p cues d ≡ true
    arrived-sent d l a =
        let edge = n.leads d l in
        let facts = arrived-facts p cues d a in
        let told = told-by p n cues good (link_of d) (from p d) (dest p d) edge facts.heard facts.link in
        facts-sent p cues d (record {
          tree = told.tree;
          heard = told.teller;
          onward = not-told-back p n cues good (link_of d) (from p d) (dest p d) edge told.teller (omega (arith, ap (λ c. c.hops) told.heard));
        })

    pub sent-counts : copies_sent p cues ≡ arrivals p cues + copies_waiting p cues
    sent-counts = sum-eq (2 * links_of p) (λ d. bit (sent_over p cues d)) (λ d. bit (arrived_over p cues d) + bit (waits_on p cues d)) each
        ∙ sum-add (2 * links_of p) (λ d. bit (arrived_over p cues d)) (λ d. bit (waits_on p cues d))
      where
        each : (d : ℕ) → d < 2 * links_of p → bit (sent_over p cues d) ≡ bit (arrived_over p cues d) + bit (waits_on p cues d)
        each d l = bool_cases (arrived_over p cues d)
            (λ a. rw (a, arrived-sent d l a))
            (λ a. rw a (bool_cases (sent_over p cues d) (λ s. rw s) (λ s. rw s)))

    -- ONE ARRIVAL

    module _ (d : ℕ) (l : d < 2 * links_of p) (waits : waits_on p cues d ≡ true) where
      abbrev after : List Cue
      after = arrival p cues d

      edge : Joins (graph_of p) (link_of d) (from p d) (dest p d)
      edge = n.leads d l

      silent-before : (v : ℕ) → v ≡ dest p d → (record_of cues v).heard ≡ 0
      silent-before v e = ap (λ w. (record_of cues w).heard) e ∙ ap (λ c. c.heard) (hears-once p n cues good d l waits)

      pub arrival-heads : heads p after ≡ suc (heads p cues)
      arrival-heads =
          let v = dest p d in
          let old : bit (has_heard (record_of cues v)) ≡ 0 = rw (silent-before v refl) in
          let new : bit (has_heard (record_of after v)) ≡ 1 = rw (arrival-there p n cues good d l waits) in
          omega (
            arith,
            old,
            new,
            sum-change (modules_of p) v (λ w. bit (has_heard (record_of after w))) (λ w. bit (has_heard (record_of cues w)))
                (n.inside (link_of d) (from p d) v edge)
                (λ w e. ap (λ c. bit (has_heard c)) (arrival-elsewhere p n cues good d l waits w (λ q. e (sym q)))),
          )

      -- no other copy arrives with it
      others-as-before : (e : ℕ) → d ≢ e → bit (arrived_over p after e) ≡ bit (arrived_over p cues e)
      unfolding arrived_over
      others-as-before e x = by-eq (dest p e) (dest p d)
          (λ q. arrived-not p after e (λ a. x (here q (sym (ap (λ c. c.link) (arrival-there p n cues good d l waits)) ∙ ap (λ w. (record_of after w).link) (sym q) ∙ a.link)))
          ∙ sym (arrived-not p cues e (λ a. omega (arith, a.heard, silent-before (dest p e) q))))
          (λ q. ap (λ c. bit (has_heard c && eqb c.link (link_of e))) (arrival-elsewhere p n cues good d l waits (dest p e) q))
        where
          here : dest p e ≡ dest p d → link_of d ≡ link_of e → d ≡ e
          here q k = n.sole d e l (omega arith) k (sym q)

      pub arrival-arrivals : arrivals p after ≡ suc (arrivals p cues)
      arrival-arrivals =
          let there = arrival-there p n cues good d l waits in
          let new : bit (arrived_over p after d) ≡ 1 = ap bit (facts-arrived p after d (record { heard = ap (λ c. c.heard) there; link = ap (λ c. c.link) there })) in
          omega (
            arith,
            new,
            arrived-not p cues d (waits-facts p cues d waits).under-way,
            sum-change (2 * links_of p) d (λ e. bit (arrived_over p after e)) (λ e. bit (arrived_over p cues e)) l others-as-before,
          )

  -- A START

  module _ (lent : List Cue) (sender cue : ℕ) (enough : modules_of p ≤ length lent) (below : sender < modules_of p) where
    abbrev start : List Cue
    start = begun_cues (modules_of p) sender cue lent

    pub begun-heads : heads p start ≡ 1
    begun-heads = sum-eq (modules_of p) (λ v. bit (has_heard (record_of start v))) (λ v. bit (eqb sender v)) each ∙ sum_one (modules_of p) sender below
      where
        each : (v : ℕ) → v < modules_of p → bit (has_heard (record_of start v)) ≡ bit (eqb sender v)
        each v l = by-eq sender v
            (λ e. rw (← e, begun-sender (modules_of p) sender cue lent enough below, eqb_same sender))
            (λ e. rw (begun-other (modules_of p) sender cue lent v l (λ q. e (sym q)), eqb-diff sender v e))

    pub begun-arrivals : arrivals p start ≡ 0
    begun-arrivals = sum-zero (2 * links_of p) (λ d. bit (arrived_over p start d)) (λ d l. arrived-not p start d (λ a. nobody d l a))
      where
        nobody : (d : ℕ) → d < 2 * links_of p → ¬ ArrivedOver p start d
        nobody d l a = by-eq (dest p d) sender
            (λ e. omega (arith, n.few, joins-lt (n.leads d l), a.link, ap (λ v. (record_of start v).link) e, ap (λ c. c.link) (begun-sender (modules_of p) sender cue lent enough below)))
            (λ e. omega (arith, a.heard, ap (λ c. c.heard) (begun-other (modules_of p) sender cue lent (dest p d) (n.inside (link_of d) (from p d) (dest p d) (n.leads d l)) e)))
