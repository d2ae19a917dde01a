-- How many messages a response sends: two, or as many as the node has edges, at the most (`few-respond`, `few-wakes`).
use Rattle.std.specs.Prelude.{ℕ, ◌+◌, ◌≤◌, ◌≡◌, ◌⊎◌, Bool, true, false, not, ◌&&◌, [], ◌∷◌, length, ltb, leb}
use native.Mathlib.Omega.{arith}
use Rattle.std.proofs.Math.Path.{refl}
use Rattle.std.proofs.Common.{sym, subst, ⊎_elim, length-append, eqb-true}
use Rattle.std.proofs.Math.Bool.{and-eq-true_iff}
use Rattle.std.proofs.Math.Dec.{eqb}
use Rattle.base.proofs.laws.Cond.{cond_has, by-eq}
use Rattle.format_message.specs.Msg.{Msg, none, connect, initiate, test, accept, reject, report, change}
use Rattle.node.specs.declared.Node.{Node}
use Rattle.node.specs.Work.{Own, Work, ASLEEP, FIND, BASIC, BRANCH, before, start, send, with_node, set_test, set_count, earliest, number, any_edge, basic, branches, degree}
use Rattle.node.specs.Rules.{wake_on, wakeup, awake, do_report, test_on, do_test, change_root, count_up, join_over, absorb, core_end, on_connect, told, seek, on_initiate, on_test, child_report, core_report, on_report, unless_asleep, respond_to, respond, wakes}
use Rattle.node.proofs.laws.First.{Earliest, Empty}
use Rattle.node.proofs.laws.Rules.{report-counts, test-over, test-refused, test-sends}
use Rattle.node.proofs.laws.Count.{each_number, number-some, number-apart}

-- at most n so far
pub record Few (n : ℕ) (w : Work) : Type 0 where
  pub most : length w.sends ≤ n

few-more : (n b : ℕ) (w : Work) → n ≤ b → Few n w → Few b w
few-more n b w l h = record { most = omega (arith, h.most) }

few-send : (n k : ℕ) (m : Msg) (w : Work) → Few n w → Few (n + 1) (send k m w)
few-send n k m w h = record { most = omega (arith, h.most, length-append w.sends (record { edge = k; msg = m } ∷ [])) }

-- none before the response
nothing : (n : Node) (mark : ℕ → ℕ) → Few 0 (start n mark)
nothing n mark = record { most = omega arith }

-- the same sends, other values and marks
few-same : (n : ℕ) (w x : Work) → w.sends ≡ x.sends → Few n w → Few n x
few-same n w x e h = record { most = rw (← e) h.most }

-- each procedure sends one message or none
module _ (n : ℕ) (w : Work) (h : Few n w) where
  kept : Few (n + 1) w
  kept = few-more n (n + 1) w (omega arith) h

  few-report : Few (n + 1) (do_report w)
  unfolding do_report
  few-report = cond_has (Few (n + 1)) (eqb w.node.count 0 && eqb w.node.test none) _ w
      (cond_has (Few (n + 1)) (eqb w.node.branch none) _ _ (few-same _ w _ refl kept) (few-send n _ _ _ (few-same n w _ refl h))) kept

  few-root : Few (n + 1) (change_root w)
  unfolding change_root
  few-root = cond_has (Few (n + 1)) (eqb w.node.best none) _ _ (few-same _ w _ refl kept)
      (cond_has (Few (n + 1)) (eqb (w.mark w.node.best) BRANCH) _ _ (few-send n _ change w h) (few-same _ (send w.node.best (connect w.node.level) w) _ refl (few-send n _ _ w h)))

few-test-on : (n k : ℕ) (w : Work) → Few n w → Few (n + 1) (test_on k w)
unfolding test_on
few-test-on n k w h = cond_has (Few (n + 1)) (eqb k none) _ _ (few-report n _ (few-same n w _ refl h))
    (cond_has (Few (n + 1)) (eqb w.node.level 0) _ _ (few-same _ w _ refl (kept n w h)) (few-send n k _ _ (few-same n w _ refl h)))

few-wakeup : (o : Own) (j n : ℕ) (w : Work) → Few n w → Few (n + 1) (wakeup o j w)
unfolding wake_on
few-wakeup o j n w h = cond_has (Few (n + 1)) (eqb (earliest o any_edge (o.edges)) none) _ _ (few-same _ w _ refl (kept n w h)) (few-send n _ _ _ (few-same n w _ refl h))

few-awake : (o : Own) (j : ℕ) (w : Work) → Few 0 w → Few 1 (awake o j w)
unfolding awake
few-awake o j w h = cond_has (Few 1) (eqb w.node.status ASLEEP) _ w (few-wakeup o j 0 w h) (kept 0 w h)

-- the responses but one send one message more, or none
module _ (o : Own) (limit j : ℕ) (w : Work) (h : Few 1 w) where
  joined : (find : ℕ) → Few 2 (join_over j find w)
  joined find = few-send 1 j _ _ (few-same 1 w _ refl h)

  few-connect : (l : ℕ) → Few 2 (on_connect o limit l j w)
  unfolding on_connect absorb count_up core_end
  few-connect l = cond_has (Few 2) (ltb l w.node.level) _ _
      (cond_has (Few 2) (eqb w.node.status FIND) _ _
      (cond_has (Few 2) (ltb (degree o) (w.node.count + 1)) _ _ (few-same 2 (join_over j 1 w) _ refl (joined 1)) (few-same 2 (join_over j 1 w) _ refl (joined 1)))
      (joined 0))
      (cond_has (Few 2) (eqb (w.mark j) BASIC) _ _ (few-same 2 w _ refl (kept 1 w h))
      (cond_has (Few 2) (leb limit w.node.level) _ _ (few-same 2 w _ refl (kept 1 w h)) (few-send 1 j _ w h)))

  few-tested : (l f : ℕ) → Few 2 (on_test o l f j w)
  unfolding on_test
  few-tested l f = cond_has (Few 2) (ltb w.node.level l) _ _ (few-same 2 w _ refl (kept 1 w h))
      (cond_has (Few 2) (eqb f w.node.identity) _ _
      (cond_has (Few 2) (eqb w.node.test j) _ _ (few-test-on 1 _ _ (few-same 1 w _ refl h)) (few-send 1 j reject _ (few-same 1 w _ refl h)))
      (few-send 1 j accept w h))

  few-reported : (x : ℕ) → Few 2 (on_report o x j w)
  unfolding on_report child_report core_report
  few-reported x = cond_has (Few 2) (eqb j w.node.branch) _ _
      (cond_has (Few 2) (eqb w.node.status FIND) _ _ (few-same 2 w _ refl (kept 1 w h))
      (cond_has (Few 2) (before o w.node.weight x) _ _ (few-root 1 w h)
      (cond_has (Few 2) (eqb x none && eqb w.node.weight none) _ w (few-same 2 w _ refl (kept 1 w h)) (kept 1 w h))))
      (cond_has (Few 2) (eqb w.node.count 0) _ _ (few-same 2 w _ refl (kept 1 w h)) (few-report 1 _ (few-same 1 w _ refl h)))

-- b is 2 or more, and no less than the node's edges
module _ (o : Own) (limit b : ℕ) (two : 2 ≤ b) (wide : degree o ≤ b)
    (search : (f : ℕ → Bool) → Empty o f (o.edges) (earliest o f (o.edges)) ⊎ Earliest o f (o.edges) (earliest o f (o.edges))) where
  -- An Initiate: its copies go to branches, a Test after them to a Basic edge, and a Report only where there was no copy.
  module _ (l f find j : ℕ) (n : Node) (mark : ℕ → ℕ) where
    abbrev copies_sent : ℕ
    copies_sent = number o (branches j mark) (o.edges)

    abbrev tells : Work
    tells = told o l f find j (start n mark)

    abbrev seeks : Work
    seeks = with_node (set_count (n.count + copies_sent) tells.node) tells

    size : length tells.sends ≡ copies_sent
    size = each_number o (branches j mark) (initiate l f find) (o.edges)

    not-basic : (k : ℕ) → branches j mark k ≡ true → basic seeks k ≡ false
    not-basic k e = let q = eqb-true (mark k) BRANCH ((and-eq-true_iff (not (eqb k j)) (eqb (mark k) BRANCH)).0 e).1 in rw q

    few-tells : Few b tells
    few-tells = record { most = omega (arith, size, number-apart o (branches j mark) (basic seeks) not-basic (o.edges)) }

    -- with no Basic edge
    no_test : Few b (do_report (with_node (set_test none seeks.node) seeks))
    no_test = by-eq (n.count + copies_sent) 0
        (λ z. few-more 1 b _ (omega arith) (few-report 0 _ (record { most = omega (arith, size) })))
        (λ z. subst (Few b) (sym (report-counts (with_node (set_test none seeks.node) seeks) z)) (few-same b tells _ refl few-tells))

    a-test : (k : ℕ) → Earliest o (basic seeks) (o.edges) k → Few b (send k (test seeks.node.level seeks.node.identity) (with_node (set_test k seeks.node) seeks))
    a-test k e =
        few-more (copies_sent + 1) b _
        (omega (arith, number-apart o (branches j mark) (basic seeks) not-basic (o.edges), number-some o (basic seeks) (o.edges) k e.below e.mine e.holds))
        (few-send copies_sent k _ (with_node (set_test k seeks.node) seeks) (record { most = omega (arith, size) }))

    few-seeks : Few b (do_test o seeks)
    few-seeks =
        let k = earliest o (basic seeks) (o.edges) in
        by-eq k none
        (λ e. subst (Few b) (sym (test-over k seeks e)) no_test)
        (λ d. by-eq seeks.node.level 0
        (λ z. subst (Few b) (sym (test-refused k seeks d z)) (few-same b tells _ refl few-tells))
        (λ z. subst (Few b) (sym (test-sends k seeks d z)) (⊎_elim (λ e. absurd (d e.is)) (a-test k) (search (basic seeks)))))

    few-initiate : Few b (on_initiate o l f find j (start n mark))
    unfolding on_initiate seek
    few-initiate = cond_has (Few b) (eqb find 1) _ _ (cond_has (Few b) (ltb (degree o) (n.count + copies_sent)) _ _ (few-same b tells _ refl few-tells) few-seeks) few-tells

  -- EVERY RESPONSE
  pub few-respond : (m : Msg) (j : ℕ) (n : Node) (mark : ℕ → ℕ) → Few b (respond o limit m j n mark)
  unfolding respond_to unless_asleep
  few-respond (connect l) j n mark = few-more 2 b _ two (few-connect o limit j _ (few-awake o j _ (nothing n mark)) l)
  few-respond (initiate l f find) j n mark = cond_has (Few b) (eqb n.status ASLEEP) _ _ (few-more 0 b _ (omega arith) (record { most = omega arith })) (few-initiate l f find j n mark)
  few-respond (test l f) j n mark = few-more 2 b _ two (few-tested o limit j _ (few-awake o j _ (nothing n mark)) l f)
  few-respond accept j n mark = few-more 2 b _ two (cond_has (Few 2) (eqb n.status ASLEEP) _ _ (record { most = omega arith }) (few-report 1 _ (record { most = omega arith })))
  few-respond reject j n mark = few-more 2 b _ two (cond_has (Few 2) (eqb n.status ASLEEP) _ _ (record { most = omega arith }) (few-test-on 1 _ _ (record { most = omega arith })))
  few-respond (report x) j n mark = few-more 2 b _ two (cond_has (Few 2) (eqb n.status ASLEEP) _ _ (record { most = omega arith }) (few-reported o limit j _ (record { most = omega arith }) x))
  few-respond change j n mark = few-more 2 b _ two (cond_has (Few 2) (eqb n.status ASLEEP) _ _ (record { most = omega arith }) (few-root 1 _ (record { most = omega arith })))

  pub few-wakes : (n : Node) (mark : ℕ → ℕ) → Few b (wakes o n mark)
  few-wakes n mark = few-more 1 b _ (omega arith) (few-wakeup o none 0 _ (nothing n mark))
