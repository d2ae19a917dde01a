-- A response wakes its node or leaves it awake (`steady-wake`, `ends-awake`); it puts a message back only for the reason of its kind, and then does
-- nothing else (`PutsBack`).
use Rattle.std.specs.Prelude.{ℕ, ◌+◌, ◌≤◌, ◌<◌, ◌≡◌, refl, ◌≢◌, ◌⊎◌, ◌&&◌, ltb, leb}
use Rattle.std.proofs.Common.{arith, sym, subst}
use Rattle.std.proofs.Math.Logic.{inl, inr}
use Rattle.std.proofs.Math.Bool.{cond}
use Rattle.std.proofs.Math.Dec.{eqb}
use Rattle.base.proofs.laws.Cond.{cond_has, eqb-cases, ltb-cases, eqb-diff}
use Rattle.base.proofs.laws.Loop.{by-test}
use Rattle.format_message.specs.Msg.{Msg, none, connect, initiate, test, accept, reject, report, change}
use Rattle.format_message.specs.Header.{msg_of}
use Rattle.node.specs.declared.Node.{Node}
use Rattle.node.specs.Work.{Own, Work, ASLEEP, FIND, FOUND, BASIC, BRANCH, BACK, REFUSED, before, put_back, refused, send, with_node, set_test, set_count, number, earliest, any_edge, branches, degree}
use Rattle.node.specs.Rules.{wake_on, wakeup, do_report, test_on, do_test, change_root, count_up, absorb, core_end, on_connect, told, seek, on_initiate, strike, on_test, child_report, core_report, on_report, unless_asleep, respond_to}
use Rattle.node.proofs.laws.Rules.{awake-wakes, awake-is, asleep-refused, asleep-not}

-- not put back, and awake
pub record Steady (w : Work) : Type 0 where
  pub unblocked : w.answer ≢ BACK
  pub awake : w.node.status ≢ ASLEEP

-- refused, it is not put back
stopped : (w : Work) → Steady w → Steady (refused w)
stopped w h = record { unblocked = λ e. omega arith; awake = h.awake }

-- the node changes, and is awake
now : (n : Node) (w : Work) → n.status ≢ ASLEEP → Steady w → Steady (with_node n w)
now n w a h = record { unblocked = h.unblocked; awake = a }

steady-report : (w : Work) → Steady w → Steady (do_report w)
unfolding do_report
steady-report w h = cond_has Steady (eqb w.node.count 0 && eqb w.node.test none) _ w
    (cond_has Steady (eqb w.node.branch none) _ _ (stopped w h) (record { unblocked = h.unblocked; awake = λ e. omega arith })) h

steady-test : (k : ℕ) (w : Work) → Steady w → Steady (test_on k w)
unfolding test_on
steady-test k w h = cond_has Steady (eqb k none) _ _ (steady-report _ (now (set_test none w.node) w h.awake h))
    (cond_has Steady (eqb w.node.level 0) _ _ (stopped w h) (record { unblocked = h.unblocked; awake = h.awake }))

steady-root : (w : Work) → Steady w → Steady (change_root w)
unfolding change_root
steady-root w h = cond_has Steady (eqb w.node.best none) _ _ (stopped w h)
    (cond_has Steady (eqb (w.mark w.node.best) BRANCH) _ _ (record { unblocked = h.unblocked; awake = h.awake }) (record { unblocked = h.unblocked; awake = h.awake }))

-- waking: Found
pub steady-wake : (o : Own) (j : ℕ) (w : Work) → w.answer ≢ BACK → Steady (wakeup o j w)
unfolding wake_on
steady-wake o j w h = cond_has Steady (eqb (earliest o any_edge (o.edges)) none) _ _ (record { unblocked = h; awake = λ e. omega arith }) (record { unblocked = h; awake = λ e. omega arith })

-- an awake node that is as in w puts m back if it comes over j
abbrev pub PutsBack : ℕ → Work → Msg → Type 0
PutsBack j w (connect l) = (w.node.level ≤ l) × (w.mark j ≡ BASIC)
PutsBack j w (initiate l f find) = ⊥
PutsBack j w (test l f) = w.node.level < l
PutsBack j w accept = ⊥
PutsBack j w reject = ⊥
PutsBack j w (report x) = (w.node.branch ≡ j) × (w.node.status ≡ FIND)
PutsBack j w change = ⊥

-- what a response to an awake node is: steady, or put back, for reason g, and nothing else
abbrev pub SteadyOr : Work → Type 0 → Work → Type 0
SteadyOr w g r = Steady r ⊎ (g × (r ≡ put_back w))

module _ (o : Own) (limit j : ℕ) (w : Work) (h : Steady w) where
  ends-connect : (l : ℕ) → SteadyOr w (PutsBack j w (connect l)) (on_connect o limit l j w)
  unfolding on_connect absorb count_up core_end
  ends-connect l = ltb-cases l w.node.level
      (λ b. SteadyOr w (PutsBack j w (connect l)) (cond b (absorb o j w) (cond (eqb (w.mark j) BASIC) (put_back w) (core_end limit j w))))
      (λ a. inl (cond_has Steady (eqb w.node.status FIND) _ _
      (cond_has Steady (ltb (degree o) (w.node.count + 1)) _ _ (record { unblocked = λ e. omega arith; awake = h.awake }) (record { unblocked = h.unblocked; awake = h.awake }))
      (record { unblocked = h.unblocked; awake = h.awake })))
      (λ a. eqb-cases (w.mark j) BASIC (λ b. SteadyOr w (PutsBack j w (connect l)) (cond b (put_back w) (core_end limit j w))) (λ q. inr ((a, q), refl))
      (λ q. inl (cond_has Steady (leb limit w.node.level) _ _ (stopped w h) (record { unblocked = h.unblocked; awake = h.awake }))))

  steady-initiate : (l f find : ℕ) → Steady (on_initiate o l f find j w)
  unfolding on_initiate seek
  steady-initiate l f find =
      let t = told o l f find j w in
      let k : Steady t = record { unblocked = h.unblocked; awake = by-test (eqb find 1) (λ b. cond b FIND FOUND ≢ ASLEEP) (λ e. omega arith) (λ e. omega arith) } in
      let c = w.node.count + number o (branches j w.mark) (o.edges) in
      cond_has Steady (eqb find 1) _ t (cond_has Steady (ltb (degree o) c) _ _ (stopped t k) (steady-test _ _ (now (set_count c t.node) t k.awake k))) k

  -- a Test that is not above the node's level is answered
  abbrev replies : ℕ → Work
  replies f = cond (eqb f w.node.identity) (cond (eqb w.node.test j) (do_test o (strike j w)) (send j reject (strike j w))) (send j accept w)

  ends-test : (l f : ℕ) → SteadyOr w (PutsBack j w (test l f)) (on_test o l f j w)
  unfolding on_test
  ends-test l f = ltb-cases w.node.level l (λ b. SteadyOr w (PutsBack j w (test l f)) (cond b (put_back w) (replies f)))
      (λ a. inr (a, refl))
      (λ a. inl (cond_has Steady (eqb f w.node.identity) _ _
      (cond_has Steady (eqb w.node.test j) _ _ (steady-test _ _ (record { unblocked = h.unblocked; awake = h.awake })) (record { unblocked = h.unblocked; awake = h.awake }))
      (record { unblocked = h.unblocked; awake = h.awake })))

  ends-report : (x : ℕ) → SteadyOr w (PutsBack j w (report x)) (on_report o x j w)
  unfolding on_report child_report core_report
  ends-report x = eqb-cases j w.node.branch
      (λ b. SteadyOr w (PutsBack j w (report x)) (cond b (cond (eqb w.node.status FIND) (put_back w) (core_report o x w)) (child_report o x j w)))
      (λ a. eqb-cases w.node.status FIND (λ b. SteadyOr w (PutsBack j w (report x)) (cond b (put_back w) (core_report o x w))) (λ q. inr ((sym a, q), refl))
      (λ q. inl (cond_has Steady (before o w.node.weight x) _ _ (steady-root w h)
      (cond_has Steady (eqb x none && eqb w.node.weight none) _ w (record { unblocked = h.unblocked; awake = h.awake }) h))))
      (λ a. inl (cond_has Steady (eqb w.node.count 0) _ _ (stopped w h) (steady-report _ (record { unblocked = h.unblocked; awake = h.awake }))))

-- THE LAW for a node that is awake ..
pub ends-awake : (o : Own) (limit j : ℕ) (m : Msg) (w : Work) → Steady w → SteadyOr w (PutsBack j w m) (respond_to o limit m j w)
unfolding respond_to
ends-awake o limit j (connect l) w h = rw (awake-is o j w h.awake) (ends-connect o limit j w h l)
ends-awake o limit j (initiate l f find) w h = inl (rw (asleep-not w _ h.awake) (steady-initiate o limit j w h l f find))
ends-awake o limit j (test l f) w h = rw (awake-is o j w h.awake) (ends-test o limit j w h l f)
ends-awake o limit j accept w h = inl (rw (asleep-not w _ h.awake) (steady-report _ (record { unblocked = h.unblocked; awake = h.awake })))
ends-awake o limit j reject w h = inl (rw (asleep-not w _ h.awake) (steady-test _ _ (record { unblocked = h.unblocked; awake = h.awake })))
ends-awake o limit j (report x) w h = rw (asleep-not w _ h.awake) (ends-report o limit j w h x)
ends-awake o limit j change w h = inl (rw (asleep-not w _ h.awake) (steady-root w h))

-- .. and for one that is asleep: it is refused, or awake afterwards
pub stays_up : {g : Type 0} (w r : Work) → Steady w → SteadyOr w g r → r.node.status ≢ ASLEEP
stays_up w r h (inl s) = s.awake
stays_up w r h (inr t) = subst (λ x. x.node.status ≢ ASLEEP) (sym t.1) h.awake

pub ends-asleep : (o : Own) (limit j : ℕ) (m : Msg) (w : Work) → w.answer ≢ BACK → w.node.status ≡ ASLEEP
    → ((respond_to o limit m j w).answer ≡ REFUSED) ⊎ ((respond_to o limit m j w).node.status ≢ ASLEEP)
unfolding respond_to
ends-asleep o limit j (connect l) w a e = let k = steady-wake o j w a in inr (rw (awake-wakes o j w e) (stays_up (wakeup o j w) _ k (ends-connect o limit j (wakeup o j w) k l)))
ends-asleep o limit j (initiate l f find) w a e = inl (rw (asleep-refused w _ e) refl)
ends-asleep o limit j (test l f) w a e = let k = steady-wake o j w a in inr (rw (awake-wakes o j w e) (stays_up (wakeup o j w) _ k (ends-test o limit j (wakeup o j w) k l f)))
ends-asleep o limit j accept w a e = inl (rw (asleep-refused w _ e) refl)
ends-asleep o limit j reject w a e = inl (rw (asleep-refused w _ e) refl)
ends-asleep o limit j (report x) w a e = inl (rw (asleep-refused w _ e) refl)
ends-asleep o limit j change w a e = inl (rw (asleep-refused w _ e) refl)

-- so whatever is no Connect and no Test is refused there
pub refused-asleep : (o : Own) (limit j : ℕ) (w : Work) → w.node.status ≡ ASLEEP → (kind level carried find : ℕ) → kind ≢ 1 → kind ≢ 3
    → (respond_to o limit (msg_of kind level carried find) j w).answer ≡ REFUSED
unfolding msg_of respond_to
refused-asleep o limit j w e kind level carried find n₁ n₃ =
    let no32 : (r : Work) → (unless_asleep w r).answer ≡ REFUSED = λ r. rw (asleep-refused w r e) refl in
    rw (eqb-diff kind 1 n₁, eqb-diff kind 3 n₃)
    (by-test (eqb kind 2) (λ b. (respond_to o limit (cond b (initiate level carried find) (cond (eqb kind 4) accept (cond (eqb kind 5) reject (cond (eqb kind 6) (report carried) change)))) j w).answer ≡ REFUSED) (no32 _)
    (by-test (eqb kind 4) (λ b. (respond_to o limit (cond b accept (cond (eqb kind 5) reject (cond (eqb kind 6) (report carried) change))) j w).answer ≡ REFUSED) (no32 _)
    (by-test (eqb kind 5) (λ b. (respond_to o limit (cond b reject (cond (eqb kind 6) (report carried) change)) j w).answer ≡ REFUSED) (no32 _)
    (by-test (eqb kind 6) (λ b. (respond_to o limit (cond b (report carried) change) j w).answer ≡ REFUSED) (no32 _) (no32 _)))))
