-- A node's values, its marks and its sends stay within document 01's lists: every response keeps them there, also one that is refused (`ok-fresh`,
-- `ok-wakeup`, `ok-respond`).
use Prim.Native.Nat.{ℕ, zero, suc, ◌+◌, ◌-◌, ◌≤◌, ◌<◌}
use native.Mathlib.Omega.{arith}
use Rattle.std.specs.Prelude.{◌≡◌, ◌≢◌, ◌⊎◌, Bool, true, cond, ◌&&◌, List, [], ◌∷◌, ltb, leb}
use Rattle.std.proofs.Math.Path.{refl}
use Rattle.std.proofs.Math.Logic.{inl}
use Rattle.std.proofs.Common.{inr, ⊎_elim}
use Rattle.std.proofs.Math.Dec.{eqb}
use borrow.Author.Tests.{leb-false}
use Rattle.base.proofs.laws.Cond.{cond_has, bool_cases, eqb-cases, ltb-cases, upd-elim}
use Rattle.base.proofs.laws.Loop.{by-test}
use Rattle.base.specs.Pool.{All, nil}
use Rattle.base.proofs.laws.Pool.{All-app, All-one}
use Rattle.format_message.specs.Msg.{Msg, none, connect, initiate, test, accept, reject, report, change}
use Rattle.node.specs.declared.Node.{Node}
use Rattle.node.specs.Work.{Own, Work, Send, ASLEEP, FIND, FOUND, BASIC, BRANCH, REJECTED, before, put_back, refused, send, set_mark, with_node, set_status, set_best, set_test, set_count, set_halted, earliest, number, on_each, any_edge, basic, branches, degree}
use Rattle.node.specs.Rules.{woken, wake_on, wakeup, awake, do_report, test_on, do_test, change_root, count_up, join_over, absorb, core_end, on_connect, copied, told, seek, on_initiate, strike, on_test, better, on_accept, child_report, core_report, on_report, unless_asleep, respond_to}

-- a link number or none; an own link or none
abbrev pub LinkOrNone : Own → ℕ → Type 0
LinkOrNone o x = (x ≡ none) ⊎ (x < o.edges)

abbrev pub OwnOrNone : Own → ℕ → Type 0
OwnOrNone o x = (x ≡ none) ⊎ (o.own x ≡ true)

pub record NodeOk (o : Own) (limit : ℕ) (n : Node) : Type 0 where
  pub status : n.status ≤ FOUND
  pub level : n.level ≤ limit
  pub identity : LinkOrNone o n.identity
  pub weight : LinkOrNone o n.weight
  pub best : OwnOrNone o n.best
  pub test : OwnOrNone o n.test
  pub branch : OwnOrNone o n.branch
  pub count : n.count ≤ degree o
  pub halted : n.halted ≤ 1
  pub waking : OwnOrNone o n.waking
  -- identity none exactly at level 0
  pub unnamed : n.level ≡ 0 → n.identity ≡ none
  pub named : n.level ≢ 0 → n.identity ≢ none
  -- a sleeper's waking link is none
  pub unwoken : n.status ≡ ASLEEP → n.waking ≡ none

abbrev pub MsgOk : Own → ℕ → Msg → Type 0
MsgOk o limit (connect l) = l ≤ limit
MsgOk o limit (initiate l i f) = (1 ≤ l) × (l ≤ limit) × (i < o.edges) × (f < 2)
MsgOk o limit (test l i) = (1 ≤ l) × (l ≤ limit) × (i < o.edges)
MsgOk o limit accept = Unit {0}
MsgOk o limit reject = Unit {0}
MsgOk o limit (report w) = LinkOrNone o w
MsgOk o limit change = Unit {0}

pub record SendOk (o : Own) (limit : ℕ) (x : Send) : Type 0 where
  pub own : o.own x.edge ≡ true
  pub msg : MsgOk o limit x.msg

pub record WorkOk (o : Own) (limit : ℕ) (w : Work) : Type 0 where
  pub node : NodeOk o limit w.node
  pub marks : (k : ℕ) → w.mark k ≤ REJECTED
  pub sends : All (SendOk o limit) w.sends

module _ (o : Own) (limit : ℕ) where
  -- ---- one change at a time

  ok-send : (k : ℕ) (m : Msg) (w : Work) → o.own k ≡ true → MsgOk o limit m → WorkOk o limit w → WorkOk o limit (send k m w)
  ok-send k m w e h i = record { node = i.node; marks = i.marks; sends = All-app i.sends (All-one (record { own = e; msg = h })) }

  ok-mark : (k c : ℕ) (w : Work) → c ≤ REJECTED → WorkOk o limit w → WorkOk o limit (set_mark k c w)
  ok-mark k c w h i = record { node = i.node; marks = λ j. upd-elim (λ x. x ≤ REJECTED) w.mark k c j (λ e. h) (λ n. i.marks j); sends = i.sends }

  ok-node : (n : Node) (w : Work) → NodeOk o limit n → WorkOk o limit w → WorkOk o limit (with_node n w)
  ok-node n w h i = record { node = h; marks = i.marks; sends = i.sends }

  ok-copied : (cs : List Send) (w : Work) → All (SendOk o limit) cs → WorkOk o limit w → WorkOk o limit (copied cs w)
  ok-copied cs w h i = record { node = i.node; marks = i.marks; sends = All-app i.sends h }

  ok-refused : (w : Work) → WorkOk o limit w → WorkOk o limit (refused w)
  ok-refused w i = record { node = i.node; marks = i.marks; sends = i.sends }

  ok-back : (w : Work) → WorkOk o limit w → WorkOk o limit (put_back w)
  ok-back w i = record { node = i.node; marks = i.marks; sends = i.sends }

  -- a node with other values
  ok-values : (n : Node) (st be te we co ha : ℕ) → NodeOk o limit n → st ≤ FOUND → OwnOrNone o be → OwnOrNone o te → LinkOrNone o we → co ≤ degree o → ha ≤ 1
      → (st ≡ ASLEEP → n.waking ≡ none)
      → NodeOk o limit (record { status = st; level = n.level; identity = n.identity; weight = we; best = be; test = te; branch = n.branch; count = co; halted = ha; waking = n.waking })
  ok-values n st be te we co ha i a b c d e f g = record {
    status = a;
    level = i.level;
    identity = i.identity;
    weight = d;
    best = b;
    test = c;
    branch = i.branch;
    count = e;
    halted = f;
    waking = i.waking;
    unnamed = i.unnamed;
    named = i.named;
    unwoken = g;
  }

  ok-found : (n : Node) → NodeOk o limit n → NodeOk o limit (set_status FOUND n)
  ok-found n i = ok-values n FOUND n.best n.test n.weight n.count n.halted i (omega arith) i.best i.test i.weight i.count i.halted (λ e. absurd (omega arith))

  ok-test : (x : ℕ) (n : Node) → OwnOrNone o x → NodeOk o limit n → NodeOk o limit (set_test x n)
  ok-test x n h i = ok-values n n.status n.best x n.weight n.count n.halted i i.status i.best h i.weight i.count i.halted i.unwoken

  ok-count : (x : ℕ) (n : Node) → x ≤ degree o → NodeOk o limit n → NodeOk o limit (set_count x n)
  ok-count x n h i = ok-values n n.status n.best n.test n.weight x n.halted i i.status i.best i.test i.weight h i.halted i.unwoken

  ok-halted : (n : Node) → NodeOk o limit n → NodeOk o limit (set_halted 1 n)
  ok-halted n i = ok-values n n.status n.best n.test n.weight n.count 1 i i.status i.best i.test i.weight i.count (omega arith) i.unwoken

  ok-best : (e x : ℕ) (n : Node) → OwnOrNone o e → LinkOrNone o x → NodeOk o limit n → NodeOk o limit (set_best e x n)
  ok-best e x n h k i = ok-values n n.status e n.test x n.count n.halted i i.status h i.test k i.count i.halted i.unwoken

  own_is : (x : ℕ) → OwnOrNone o x → x ≢ none → o.own x ≡ true
  own_is x h n = ⊎_elim (λ e. absurd (n e)) (λ e. e) h

  link-is : (x : ℕ) → LinkOrNone o x → x ≢ none → x < o.edges
  link-is x h n = ⊎_elim (λ e. absurd (n e)) (λ e. e) h

  earliest-own : (f : ℕ → Bool) (n : ℕ) → OwnOrNone o (earliest o f n)
  unfolding earliest
  earliest-own f zero = inl refl
  earliest-own f (suc n) = bool_cases (o.own n)
      (λ e. by-test (o.own n && f n && before o n (earliest o f n)) (λ b. OwnOrNone o (cond b n (earliest o f n))) (inr e) (earliest-own f n))
      (λ e. rw e (earliest-own f n))

  each-own : (f : ℕ → Bool) (m : Msg) (n : ℕ) → MsgOk o limit m → All (SendOk o limit) (on_each o f m n)
  unfolding on_each
  each-own f m zero h = nil
  each-own f m (suc n) h = All-app (each-own f m n h) (bool_cases (o.own n)
      (λ e. by-test (o.own n && f n) (λ b. All (SendOk o limit) (cond b (record { edge = n; msg = m } ∷ []) [])) (All-one (record { own = e; msg = h })) nil)
      (λ e. rw e nil))

  -- ---- the procedures

  ok-report : (w : Work) → WorkOk o limit w → WorkOk o limit (do_report w)
  unfolding do_report
  ok-report w i = cond_has (WorkOk o limit) (eqb w.node.count 0 && eqb w.node.test none) _ w
      (eqb-cases w.node.branch none (λ b. WorkOk o limit (cond b (refused w) (send w.node.branch (report w.node.weight) (with_node (set_status FOUND w.node) w))))
      (λ e. ok-refused w i)
      (λ n. ok-send _ _ _ (own_is _ i.node.branch n) i.node.weight (ok-node _ w (ok-found w.node i.node) i)))
      i

  ok-test-on : (k : ℕ) (w : Work) → OwnOrNone o k → WorkOk o limit w → WorkOk o limit (test_on k w)
  unfolding test_on
  ok-test-on k w h i = eqb-cases k none (λ b. WorkOk o limit (cond b (do_report (with_node (set_test none w.node) w))
      (cond (eqb w.node.level 0) (refused w) (send k (test w.node.level w.node.identity) (with_node (set_test k w.node) w)))))
      (λ e. ok-report _ (ok-node _ w (ok-test none w.node (inl refl) i.node) i))
      (λ n. eqb-cases w.node.level 0 (λ b. WorkOk o limit (cond b (refused w) (send k (test w.node.level w.node.identity) (with_node (set_test k w.node) w))))
      (λ z. ok-refused w i)
      (λ z. ok-send k _ _ (own_is k h n) (omega arith, i.node.level, link-is _ i.node.identity (i.node.named z)) (ok-node _ w (ok-test k w.node h i.node) i)))

  ok-do-test : (w : Work) → WorkOk o limit w → WorkOk o limit (do_test o w)
  ok-do-test w i = ok-test-on _ w (earliest-own (basic w) (o.edges)) i

  ok-root : (w : Work) → WorkOk o limit w → WorkOk o limit (change_root w)
  unfolding change_root
  ok-root w i = eqb-cases w.node.best none (λ b. WorkOk o limit (cond b (refused w) (cond (eqb (w.mark w.node.best) BRANCH) (send w.node.best change w)
      (set_mark w.node.best BRANCH (send w.node.best (connect w.node.level) w)))))
      (λ e. ok-refused w i)
      (λ n. let k = own_is _ i.node.best n in
      cond_has (WorkOk o limit) (eqb (w.mark w.node.best) BRANCH) _ _ (ok-send _ change w k tt i) (ok-mark _ BRANCH _ (omega arith) (ok-send _ (connect w.node.level) w k i.node.level i)))

  -- setup values, but for status, halted and the waking link
  pub ok-fresh : (st ha j : ℕ) → st ≤ FOUND → ha ≤ 1 → OwnOrNone o j → (st ≡ ASLEEP → j ≡ none)
      → NodeOk o limit (record { status = st; level = 0; identity = none; weight = none; best = none; test = none; branch = none; count = 0; halted = ha; waking = j })
  ok-fresh st ha j a b c d = record {
    status = a;
    level = omega arith;
    identity = inl refl;
    weight = inl refl;
    best = inl refl;
    test = inl refl;
    branch = inl refl;
    count = omega arith;
    halted = b;
    waking = c;
    unnamed = λ e. refl;
    named = λ e. absurd (e refl);
    unwoken = d;
  }

  ok-woken : (j : ℕ) (n : Node) → OwnOrNone o j → NodeOk o limit n → NodeOk o limit (woken j n)
  ok-woken j n h i = ok-fresh FOUND n.halted j (omega arith) i.halted h (λ e. absurd (omega arith))

  pub ok-wakeup : (j : ℕ) (w : Work) → OwnOrNone o j → WorkOk o limit w → WorkOk o limit (wakeup o j w)
  unfolding wake_on
  ok-wakeup j w h i =
      let m = earliest o any_edge (o.edges) in
      eqb-cases m none (λ b. WorkOk o limit (cond b (with_node (set_halted 1 (woken j w.node)) w) (send m (connect 0) (set_mark m BRANCH (with_node (woken j w.node) w)))))
      (λ e. ok-node _ w (ok-halted _ (ok-woken j _ h i.node)) i)
      (λ n. ok-send m (connect 0) _ (own_is m (earliest-own any_edge (o.edges)) n) (omega arith) (ok-mark m BRANCH _ (omega arith) (ok-node _ w (ok-woken j _ h i.node) i)))

  ok-awake : (j : ℕ) (w : Work) → OwnOrNone o j → WorkOk o limit w → WorkOk o limit (awake o j w)
  unfolding awake
  ok-awake j w h i = cond_has (WorkOk o limit) (eqb w.node.status ASLEEP) _ w (ok-wakeup j w h i) i

  -- ---- the responses, on an own edge j

  module _ (j : ℕ) (mine : o.own j ≡ true) (below : j < o.edges) where
    ok-join : (find : ℕ) (w : Work) → find < 2 → w.node.level ≢ 0 → WorkOk o limit w → WorkOk o limit (join_over j find w)
    ok-join find w f z i = ok-send j _ _ mine (omega arith, i.node.level, link-is _ i.node.identity (i.node.named z), f) (ok-mark j BRANCH w (omega arith) i)

    ok-connect : (l : ℕ) (w : Work) → WorkOk o limit w → WorkOk o limit (on_connect o limit l j w)
    unfolding on_connect absorb count_up core_end
    ok-connect l w i = ltb-cases l w.node.level (λ b. WorkOk o limit (cond b (absorb o j w) (cond (eqb (w.mark j) BASIC) (put_back w) (core_end limit j w))))
        (λ h. let z : w.node.level ≢ 0 = λ e. omega arith in
        cond_has (WorkOk o limit) (eqb w.node.status FIND) _ _
        (ltb-cases (degree o) (w.node.count + 1) (λ b. WorkOk o limit (cond b (refused (join_over j 1 w)) (with_node (set_count (w.node.count + 1) w.node) (join_over j 1 w))))
        (λ x. ok-refused _ (ok-join 1 w (omega arith) z i))
        (λ x. ok-node _ _ (ok-count _ w.node x i.node) (ok-join 1 w (omega arith) z i)))
        (ok-join 0 w (omega arith) z i))
        (λ h. cond_has (WorkOk o limit) (eqb (w.mark j) BASIC) _ _ (ok-back w i)
        (bool_cases (leb limit w.node.level)
        (λ b. rw b (ok-refused w i))
        (λ b. rw b (ok-send j _ w mine (let q = leb-false limit w.node.level b in (omega arith, omega arith, below, omega arith)) i))))

    ok-told : (l f find : ℕ) (w : Work) → MsgOk o limit (initiate l f find) → f ≢ none → WorkOk o limit w → WorkOk o limit (told o l f find j w)
    ok-told l f find w h n i = ok-copied _ _ (each-own (branches j w.mark) (initiate l f find) (o.edges) h)
        (ok-node _ w
        (record {
          status = by-test (eqb find 1) (λ b. cond b FIND FOUND ≤ FOUND) (omega arith) (omega arith);
          level = h.1;
          identity = inr h.2;
          weight = inl refl;
          best = inl refl;
          test = i.node.test;
          branch = inr mine;
          count = i.node.count;
          halted = i.node.halted;
          waking = i.node.waking;
          unnamed = λ e. absurd (omega (arith, h.0));
          named = λ e. n;
          unwoken = by-test (eqb find 1) (λ b. cond b FIND FOUND ≡ ASLEEP → w.node.waking ≡ none) (λ e. absurd (omega arith)) (λ e. absurd (omega arith));
        }) i)

    ok-initiate : (l f find : ℕ) (w : Work) → MsgOk o limit (initiate l f find) → f ≢ none → WorkOk o limit w → WorkOk o limit (on_initiate o l f find j w)
    unfolding on_initiate seek
    ok-initiate l f find w h n i =
        let c = w.node.count + number o (branches j w.mark) (o.edges) in
        let t = told o l f find j w in
        let k = ok-told l f find w h n i in
        cond_has (WorkOk o limit) (eqb find 1) _ t
        (ltb-cases (degree o) c (λ b. WorkOk o limit (cond b (refused t) (do_test o (with_node (set_count c t.node) t))))
        (λ x. ok-refused t k)
        (λ x. ok-do-test _ (ok-node _ t (ok-count c t.node x k.node) k)))
        k

    ok-strike : (w : Work) → WorkOk o limit w → WorkOk o limit (strike j w)
    ok-strike w i = ok-mark j _ w (by-test (eqb (w.mark j) BASIC) (λ b. cond b REJECTED (w.mark j) ≤ REJECTED) (omega arith) (i.marks j)) i

    ok-tested : (l f : ℕ) (w : Work) → WorkOk o limit w → WorkOk o limit (on_test o l f j w)
    unfolding on_test
    ok-tested l f w i = cond_has (WorkOk o limit) (ltb w.node.level l) _ _ (ok-back w i)
        (cond_has (WorkOk o limit) (eqb f w.node.identity) _ _
        (cond_has (WorkOk o limit) (eqb w.node.test j) _ _ (ok-do-test _ (ok-strike w i)) (ok-send j reject _ mine tt (ok-strike w i)))
        (ok-send j accept w mine tt i))

    ok-better : (x : ℕ) (n : Node) → LinkOrNone o x → NodeOk o limit n → NodeOk o limit (better o j x n)
    ok-better x n h i = ok-best _ _ n
        (by-test (before o x n.weight) (λ b. OwnOrNone o (cond b j n.best)) (inr mine) i.best)
        (by-test (before o x n.weight) (λ b. LinkOrNone o (cond b x n.weight)) h i.weight) i

    ok-accept : (w : Work) → WorkOk o limit w → WorkOk o limit (on_accept o j w)
    ok-accept w i = ok-report _ (ok-node _ w (ok-better j _ (inr below) (ok-test none w.node (inl refl) i.node)) i)

    ok-reported : (x : ℕ) (w : Work) → LinkOrNone o x → WorkOk o limit w → WorkOk o limit (on_report o x j w)
    unfolding on_report child_report core_report
    ok-reported x w h i = cond_has (WorkOk o limit) (eqb j w.node.branch) _ _
        (cond_has (WorkOk o limit) (eqb w.node.status FIND) _ _ (ok-back w i)
        (cond_has (WorkOk o limit) (before o w.node.weight x) _ _ (ok-root w i)
        (cond_has (WorkOk o limit) (eqb x none && eqb w.node.weight none) _ w (ok-node _ w (ok-halted w.node i.node) i) i)))
        (cond_has (WorkOk o limit) (eqb w.node.count 0) _ _ (ok-refused w i)
        (ok-report _ (ok-node _ w (ok-better x _ h (ok-count (w.node.count - 1) w.node (omega (arith, i.node.count)) i.node)) i)))

    -- EVERY RESPONSE
    pub ok-respond : (small : o.edges ≤ none) (m : Msg) (w : Work) → MsgOk o limit m → WorkOk o limit w → WorkOk o limit (respond_to o limit m j w)
    unfolding respond_to unless_asleep
    ok-respond small (connect l) w h i = ok-connect l _ (ok-awake j w (inr mine) i)
    ok-respond small (initiate l f find) w h i = cond_has (WorkOk o limit) (eqb w.node.status ASLEEP) _ _ (ok-refused w i) (ok-initiate l f find w h (λ e. omega (arith, h.2)) i)
    ok-respond small (test l f) w h i = ok-tested l f _ (ok-awake j w (inr mine) i)
    ok-respond small accept w h i = cond_has (WorkOk o limit) (eqb w.node.status ASLEEP) _ _ (ok-refused w i) (ok-accept w i)
    ok-respond small reject w h i = cond_has (WorkOk o limit) (eqb w.node.status ASLEEP) _ _ (ok-refused w i) (ok-do-test _ (ok-strike w i))
    ok-respond small (report x) w h i = cond_has (WorkOk o limit) (eqb w.node.status ASLEEP) _ _ (ok-refused w i) (ok-reported x w h i)
    ok-respond small change w h i = cond_has (WorkOk o limit) (eqb w.node.status ASLEEP) _ _ (ok-refused w i) (ok-root w i)
