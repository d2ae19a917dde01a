-- The tests of copies as facts: sent (`sent-facts`, `facts-sent`), arrived (`arrived-facts`, `facts-arrived`), waiting (`waits-facts`, `facts-wait`); of
-- records that are alike at an end (`sent-alike`, `arrived-alike`). What a delivery leaves (`delivered-arrival`, `delivered-idle`).
use Rattle.std.specs.Prelude.{ℕ, ◌≡◌, ◌≢◌, true, false, List}
use Rattle.std.proofs.Common.{sym, ap, ◌∙◌, true≢false}
use Rattle.std.proofs.Math.Bool.{and-eq-true_iff}
use borrow.Author.Tests.{eqb-true, eqb-false, eq-eqb, ne_eqb, not-true}
use Rattle.base.proofs.laws.Cond.{bool_cases}
use Rattle.plan.specs.Links.{Plan}
use Rattle.plan_tree.specs.Tree.{tree_link}
use Rattle.field.specs.Edges.{link_of, from, dest}
use Rattle.cue.specs.declared.Cue.{Cue}
use Rattle.cue.specs.Record.{record_of, has_heard}
use Rattle.cue.specs.Copies.{sent_over, arrived_over, waits_on, arrival, delivered}

-- a copy was sent over directed link d
pub record SentOver (p : Plan) (cues : List Cue) (d : ℕ) : Type 0 where
  pub tree : tree_link p (link_of d) ≡ true
  pub heard : (record_of cues (from p d)).heard ≡ 1
  pub onward : (record_of cues (from p d)).link ≢ link_of d

-- and has arrived
pub record ArrivedOver (p : Plan) (cues : List Cue) (d : ℕ) : Type 0 where
  pub heard : (record_of cues (dest p d)).heard ≡ 1
  pub link : (record_of cues (dest p d)).link ≡ link_of d

-- and has not
pub record WaitsOn (p : Plan) (cues : List Cue) (d : ℕ) : Type 0 where
  pub sent : SentOver p cues d
  pub under-way : ¬ ArrivedOver p cues d

module _ (p : Plan) (cues : List Cue) (d : ℕ) where
  pub sent-facts : sent_over p cues d ≡ true → SentOver p cues d
  unfolding sent_over
  sent-facts h =
      let a = (and-eq-true_iff (tree_link p (link_of d)) _).0 h in
      let b = (and-eq-true_iff (has_heard (record_of cues (from p d))) _).0 a.1 in
      record { tree = a.0; heard = eqb-true _ _ b.0; onward = eqb-false _ _ (not-true _ b.1) }

  pub facts-sent : SentOver p cues d → sent_over p cues d ≡ true
  unfolding sent_over
  facts-sent s = rw (s.tree, s.heard, ne_eqb (record_of cues (from p d)).link (link_of d) s.onward)

  pub arrived-facts : arrived_over p cues d ≡ true → ArrivedOver p cues d
  unfolding arrived_over
  arrived-facts h =
      let a = (and-eq-true_iff (has_heard (record_of cues (dest p d))) _).0 h in
      record { heard = eqb-true _ _ a.0; link = eqb-true _ _ a.1 }

  pub facts-arrived : ArrivedOver p cues d → arrived_over p cues d ≡ true
  unfolding arrived_over
  facts-arrived a = rw (a.heard, eq-eqb (record_of cues (dest p d)).link (link_of d) a.link)

  pub waits-facts : waits_on p cues d ≡ true → WaitsOn p cues d
  waits-facts h =
      let a = (and-eq-true_iff (sent_over p cues d) _).0 h in
      record { sent = sent-facts a.0; under-way = λ x. true≢false (sym (facts-arrived x) ∙ not-true _ a.1) }

  pub facts-wait : WaitsOn p cues d → waits_on p cues d ≡ true
  facts-wait w = bool_cases (arrived_over p cues d)
      (λ a. absurd (w.under-way (arrived-facts a)))
      (λ n. rw (facts-sent w.sent, n))

  pub delivered-arrival : waits_on p cues d ≡ true → delivered p cues d ≡ arrival p cues d
  unfolding delivered
  delivered-arrival h = rw h

  pub delivered-idle : waits_on p cues d ≡ false → delivered p cues d ≡ cues
  unfolding delivered
  delivered-idle h = rw h

-- two lists of records that are alike at the one end of d, or at the other
pub sent-alike : (p : Plan) (a b : List Cue) (d : ℕ) → record_of a (from p d) ≡ record_of b (from p d) → SentOver p a d → SentOver p b d
sent-alike p a b d e s = record {
  tree = s.tree;
  heard = ap (λ c. c.heard) (sym e) ∙ s.heard;
  onward = λ q. s.onward (ap (λ c. c.link) e ∙ q);
}

pub arrived-alike : (p : Plan) (a b : List Cue) (d : ℕ) → record_of a (dest p d) ≡ record_of b (dest p d) → ArrivedOver p a d → ArrivedOver p b d
arrived-alike p a b d e s = record { heard = ap (λ c. c.heard) (sym e) ∙ s.heard; link = ap (λ c. c.link) (sym e) ∙ s.link }
