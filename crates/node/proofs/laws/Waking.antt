-- The waking edge through the responses: a node that is awake keeps it (`waking-kept`), a sleeper gets the edge of the message that wakes it (`waking-set`),
-- and none by a wakeup without a message (`waking-none`).
use Rattle.std.specs.Prelude.{ℕ, ◌+◌, ◌≡◌, ◌≢◌, ◌&&◌, ltb, leb}
use Rattle.std.proofs.Math.Path.{refl}
use Rattle.std.proofs.Common.{◌∙◌}
use Rattle.std.proofs.Math.Dec.{eqb}
use Rattle.base.proofs.laws.Cond.{cond_has}
use Rattle.format_message.specs.Msg.{Msg, none, connect, initiate, test, accept, reject, report, change}
use Rattle.node.specs.declared.Node.{Node}
use Rattle.node.specs.Work.{Own, Work, ASLEEP, FIND, BASIC, BRANCH, REFUSED, before, start, number, earliest, any_edge, branches, degree}
use Rattle.node.specs.Rules.{wake_on, wakeup, do_report, test_on, change_root, count_up, absorb, core_end, on_connect, seek, on_initiate, on_test, on_accept, on_reject, child_report, core_report, on_report, respond_to, wakes}
use Rattle.node.proofs.laws.Rules.{awake-wakes, awake-is, asleep-refused, asleep-not}

-- k is the waking edge so far
record WokenOver (k : ℕ) (w : Work) : Type 0 where
  is : w.node.waking ≡ k

module _ {k : ℕ} where
  -- another response with the same waking edge
  same : (w r : Work) → r.node.waking ≡ w.node.waking → WokenOver k w → WokenOver k r
  same w r e h = record { is = e ∙ h.is }

  -- no procedure but wakeup sets it
  module _ (w : Work) (h : WokenOver k w) where
    woke-report : WokenOver k (do_report w)
    unfolding do_report
    woke-report = cond_has (WokenOver k) (eqb w.node.count 0 && eqb w.node.test none) _ w
        (cond_has (WokenOver k) (eqb w.node.branch none) _ _ (same w _ refl h) (same w _ refl h)) h

    woke-root : WokenOver k (change_root w)
    unfolding change_root
    woke-root = cond_has (WokenOver k) (eqb w.node.best none) _ _ (same w _ refl h)
        (cond_has (WokenOver k) (eqb (w.mark w.node.best) BRANCH) _ _ (same w _ refl h) (same w _ refl h))

  woke-test-on : (e : ℕ) (w : Work) → WokenOver k w → WokenOver k (test_on e w)
  unfolding test_on
  woke-test-on e w h = cond_has (WokenOver k) (eqb e none) _ _ (woke-report _ (same w _ refl h))
      (cond_has (WokenOver k) (eqb w.node.level 0) _ _ (same w _ refl h) (same w _ refl h))

  module _ (o : Own) (limit j : ℕ) (w : Work) (h : WokenOver k w) where
    woke-connect : (l : ℕ) → WokenOver k (on_connect o limit l j w)
    unfolding on_connect absorb count_up core_end
    woke-connect l = cond_has (WokenOver k) (ltb l w.node.level) _ _
        (cond_has (WokenOver k) (eqb w.node.status FIND) _ _
        (cond_has (WokenOver k) (ltb (degree o) (w.node.count + 1)) _ _ (same w _ refl h) (same w _ refl h))
        (same w _ refl h))
        (cond_has (WokenOver k) (eqb (w.mark j) BASIC) _ _ (same w _ refl h)
        (cond_has (WokenOver k) (leb limit w.node.level) _ _ (same w _ refl h) (same w _ refl h)))

    woke-initiate : (l f find : ℕ) → WokenOver k (on_initiate o l f find j w)
    unfolding on_initiate seek
    woke-initiate l f find = cond_has (WokenOver k) (eqb find 1) _ _
        (cond_has (WokenOver k) (ltb (degree o) (w.node.count + number o (branches j w.mark) (o.edges))) _ _ (same w _ refl h) (woke-test-on _ _ (same w _ refl h)))
        (same w _ refl h)

    woke-tested : (l f : ℕ) → WokenOver k (on_test o l f j w)
    unfolding on_test
    woke-tested l f = cond_has (WokenOver k) (ltb w.node.level l) _ _ (same w _ refl h)
        (cond_has (WokenOver k) (eqb f w.node.identity) _ _
        (cond_has (WokenOver k) (eqb w.node.test j) _ _ (woke-test-on _ _ (same w _ refl h)) (same w _ refl h))
        (same w _ refl h))

    woke-reported : (x : ℕ) → WokenOver k (on_report o x j w)
    unfolding on_report child_report core_report
    woke-reported x = cond_has (WokenOver k) (eqb j w.node.branch) _ _
        (cond_has (WokenOver k) (eqb w.node.status FIND) _ _ (same w _ refl h)
        (cond_has (WokenOver k) (before o w.node.weight x) _ _ (woke-root w h)
        (cond_has (WokenOver k) (eqb x none && eqb w.node.weight none) _ w (same w _ refl h) h)))
        (cond_has (WokenOver k) (eqb w.node.count 0) _ _ (same w _ refl h) (woke-report _ (same w _ refl h)))

woke-up : (o : Own) (j : ℕ) (w : Work) → WokenOver j (wakeup o j w)
unfolding wake_on
woke-up o j w = cond_has (WokenOver j) (eqb (earliest o any_edge (o.edges)) none) _ _ (record { is = refl }) (record { is = refl })

module _ (o : Own) (limit j : ℕ) (w : Work) where
  -- "a put-back after that keeps the wake", and so does every other answer
  pub waking-kept : (m : Msg) → w.node.status ≢ ASLEEP → (respond_to o limit m j w).node.waking ≡ w.node.waking
  unfolding respond_to
  waking-kept (connect l) n = rw (awake-is o j w n) (woke-connect o limit j w (record { is = refl }) l).is
  waking-kept (initiate l f find) n = rw (asleep-not w (on_initiate o l f find j w) n) (woke-initiate o limit j w (record { is = refl }) l f find).is
  waking-kept (test l f) n = rw (awake-is o j w n) (woke-tested o limit j w (record { is = refl }) l f).is
  waking-kept accept n = rw (asleep-not w (on_accept o j w) n) (woke-report _ (record { is = refl })).is
  waking-kept reject n = rw (asleep-not w (on_reject o j w) n) (woke-test-on _ _ (record { is = refl })).is
  waking-kept (report x) n = rw (asleep-not w (on_report o x j w) n) (woke-reported o limit j w (record { is = refl }) x).is
  waking-kept change n = rw (asleep-not w (change_root w) n) (woke-root w (record { is = refl })).is

  -- "Connect and Test wake a sleeper first", put back or not; other kinds are refused there
  pub waking-set : (m : Msg) → w.node.status ≡ ASLEEP → (respond_to o limit m j w).answer ≢ REFUSED → (respond_to o limit m j w).node.waking ≡ j
  unfolding respond_to
  waking-set (connect l) e n = rw (awake-wakes o j w e) (woke-connect o limit j _ (woke-up o j w) l).is
  waking-set (initiate l f find) e n = absurd (n (rw (asleep-refused w (on_initiate o l f find j w) e) refl))
  waking-set (test l f) e n = rw (awake-wakes o j w e) (woke-tested o limit j _ (woke-up o j w) l f).is
  waking-set accept e n = absurd (n (rw (asleep-refused w (on_accept o j w) e) refl))
  waking-set reject e n = absurd (n (rw (asleep-refused w (on_reject o j w) e) refl))
  waking-set (report x) e n = absurd (n (rw (asleep-refused w (on_report o x j w) e) refl))
  waking-set change e n = absurd (n (rw (asleep-refused w (change_root w) e) refl))

-- a wakeup without a message
pub waking-none : (o : Own) (n : Node) (mark : ℕ → ℕ) → (wakes o n mark).node.waking ≡ none
waking-none o n mark = (woke-up o none (start n mark)).is
