-- The rule of 73 tests exactly what `GoodCues` says (`test_good`, `good-test`). In good records one module alone is the sender (`sole-sender`).
use Rattle.std.specs.Prelude.{ℕ, ◌≤◌, ◌<◌, ◌≡◌, ◌≢◌, ◌⊎◌, true, List, length, eqb}
use Rattle.std.proofs.Common.{arith, sym, ap, ◌∙◌, inl, inr}
use Rattle.std.proofs.Math.Bool.{and-eq-true_iff}
use borrow.Author.Tests.{eqb-true, eq-eqb}
use Rattle.base.specs.None.{none}
use Rattle.base.specs.Cond.{bit}
use Rattle.base.specs.Test.{every}
use Rattle.base.proofs.laws.Cond.{bool_cases, by-eq, eqb_same, eqb-diff}
use Rattle.base.proofs.laws.Search.{least, Least}
use Rattle.base.proofs.laws.Sum.{sum-eq, sum-zero, sum_one, sum-two}
use Rattle.base.proofs.laws.Test.{every-all, all-every, dec-test}
use Rattle.graph.specs.Graph.{Joins}
use Rattle.graph.proofs.laws.Ways.{flip, joins-lt}
use Rattle.plan.specs.Links.{Plan, modules_of, graph_of}
use Rattle.cue.specs.declared.Cue.{Cue}
use Rattle.cue.specs.Record.{record_of, has_heard, sender_record}
use Rattle.cue.specs.Calls.{right_at, is_sender, senders, left_by_sending}
use Rattle.cue.proofs.laws.Rule.{RecordAt, blank_at, sender_at, told_at, right-facts, blank-right, sender-right, told-right}
use Rattle.field_laws.proofs.Ends.{joined-own, own-joins, end-leads}
use Rattle.cue_laws.proofs.Net.{Net}
use Rattle.cue_laws.proofs.Good.{Right, silent, first, got, GoodCues}

module _ (p : Plan) (n : Net p) where
  joins-some : {k u v : ℕ} → Joins (graph_of p) k u v → k ≢ none
  joins-some j e = omega (arith, joins-lt j, n.few)

  module _ (cues : List Cue) where
    abbrev one : ℕ → ℕ
    one v = bit (is_sender (record_of cues v))

    module _ (enough : modules_of p ≤ length cues) (test : left_by_sending p cues ≡ true) where
      parts : (every (modules_of p) (right_at p cues) ≡ true) × (eqb (senders (modules_of p) cues) 1 ≡ true)
      unfolding left_by_sending
      parts = (and-eq-true_iff (every (modules_of p) (right_at p cues)) _).0 test

      just-one : senders (modules_of p) cues ≡ 1
      just-one = eqb-true _ _ parts.1

      at : (v : ℕ) → v < modules_of p → RecordAt p cues v
      at v l = right-facts p cues v (every-all (modules_of p) (right_at p cues) parts.0 v l)

      abbrev Sends : ℕ → Type 0
      Sends v = is_sender (record_of cues v) ≡ true

      found : Least Sends (modules_of p)
      found = some (least Sends (λ v. dec-test (is_sender (record_of cues v)) (λ e. e) (λ e. e)) (modules_of p))
        where
          some : ((v : ℕ) → v < modules_of p → ¬ Sends v) ⊎ Least Sends (modules_of p) → Least Sends (modules_of p)
          some (inl f) = absurd (omega (arith, just-one, sum-zero (modules_of p) one (λ v l. bool_cases (is_sender (record_of cues v)) (λ e. absurd (f v l e)) (λ e. rw e))))
          some (inr x) = x

      sender-link : (v : ℕ) → Sends v → ((record_of cues v).heard ≡ 1) × ((record_of cues v).link ≡ none)
      sender-link v e = let x = (and-eq-true_iff (has_heard (record_of cues v)) _).0 e in (eqb-true _ _ x.0, eqb-true _ _ x.1)

      -- a sender's record is one of the three kinds
      its-record : (v : ℕ) → v < modules_of p → Sends v → record_of cues v ≡ sender_record (record_of cues v).cue
      its-record v l e = cases (at v l)
        where
          cases : RecordAt p cues v → record_of cues v ≡ sender_record (record_of cues v).cue
          cases (blank_at q) = absurd (omega (arith, (sender-link v e).0, ap (λ c. c.heard) q))
          cases (sender_at q) = q
          cases (told_at o t h q) = absurd (joins-some (own-joins p v (record_of cues v).link o) (sender-link v e).1)

      pub test_good : GoodCues p cues
      test_good = record {
        enough = enough;
        sender = found.at;
        cue = (record_of cues found.at).cue;
        below = found.below;
        started = its-record found.at found.below found.holds;
        right = λ v l. cases v l (at v l);
      }
        where
          sends-then : (v : ℕ) → record_of cues v ≡ sender_record (record_of cues v).cue → Sends v
          sends-then v q = rw (ap (λ c. c.heard) q, ap (λ c. c.link) q)

          the_one : (v : ℕ) → v < modules_of p → Sends v → v ≡ found.at
          the_one v l e = by-eq found.at v sym
              (λ d. absurd (omega (arith, just-one, sum-two (modules_of p) found.at v one found.below l d (rw found.holds) (rw e))))

          cases : (v : ℕ) → v < modules_of p → RecordAt p cues v → Right p cues found.at (record_of cues found.at).cue v
          cases v l (blank_at q) = silent q
          cases v l (sender_at q) = let s = the_one v l (sends-then v q) in first s (q ∙ ap (λ w. sender_record (record_of cues w).cue) s)
          cases v l (told_at o t h q) = got (record_of cues v).link _ (flip (own-joins p v (record_of cues v).link o)) t h q

    module _ (good : GoodCues p cues) where
      -- who has heard by no link is the sender
      pub sole-sender : (v : ℕ) → v < modules_of p → (record_of cues v).heard ≡ 1 → (record_of cues v).link ≡ none → v ≡ good.sender
      sole-sender v l h e = cases (good.right v l)
        where
          cases : Right p cues good.sender good.cue v → v ≡ good.sender
          cases (silent q) = absurd (omega (arith, ap (λ c. c.heard) q))
          cases (first s q) = s
          cases (got k u j t hu q) = absurd (joins-some j (sym (ap (λ c. c.link) q) ∙ e))

      right-passes : (v : ℕ) → Right p cues good.sender good.cue v → right_at p cues v ≡ true
      right-passes v (silent q) = blank-right p cues v q
      right-passes v (first s q) = sender-right p cues v good.cue q
      right-passes v (got k u j t h q) =
          let apart : v ≢ u = n.apart k v u (flip j) in
          told-right p cues v k u (joins-some j) (joined-own p apart (flip j)) t (end-leads p apart (flip j)) h q

      sender-at : (v : ℕ) → v < modules_of p → one v ≡ bit (eqb good.sender v)
      sender-at v l = by-eq good.sender v
          (λ e. rw (← e, good.started, eqb_same good.sender))
          (λ d. rw (eqb-diff good.sender v d) (bool_cases (is_sender (record_of cues v))
          (λ s. let x = (and-eq-true_iff (has_heard (record_of cues v)) _).0 s in
          absurd (d (sym (sole-sender v l (eqb-true _ _ x.0) (eqb-true _ _ x.1)))))
          (λ s. rw s)))

      pub good-test : left_by_sending p cues ≡ true
      unfolding left_by_sending
      good-test = (and-eq-true_iff (every (modules_of p) (right_at p cues)) _).1 (
        all-every (modules_of p) (right_at p cues) (λ v l. right-passes v (good.right v l)),
        eq-eqb _ 1 (sum-eq (modules_of p) one (λ v. bit (eqb good.sender v)) sender-at ∙ sum_one (modules_of p) good.sender good.below),
      )
