-- One law for each outcome of each part of the rules, for any response so far: `wake-`, `report-`, `test-`, `root-`, `connect-`, `initiate-`, `core-` and so on.
-- Code and proof of the protocol both cite these.
use Rattle.std.specs.Prelude.{ℕ, ◌+◌, ◌-◌, ◌≤◌, ◌<◌, ◌≡◌, ◌≢◌, true, false}
use Rattle.std.proofs.Math.Bool.{and-false}
use borrow.Author.Tests.{eq-eqb, ne_eqb, lt-ltb, le-ltb, le-leb, lt-leb}
use Rattle.format_message.specs.Msg.{none, connect, initiate, test, accept, reject, report, change}
use Rattle.node.specs.Work.{Own, Work, ASLEEP, FIND, FOUND, BASIC, BRANCH, before, put_back, refused, send, set_mark, with_node, set_status, set_test, set_count, set_halted, number, branches, degree}
use Rattle.node.specs.Rules.{woken, wake_on, wakeup, awake, do_report, test_on, do_test, change_root, count_up, join_over, absorb, core_end, on_connect, told, seek, on_initiate, strike, on_test, better, child_report, core_report, on_report, unless_asleep}

-- (2) wakeup on its earliest edge m
module _ (j m : ℕ) (w : Work) where
  pub wake-alone : m ≡ none → wake_on j m w ≡ with_node (set_halted 1 (woken j w.node)) w
  unfolding wake_on
  wake-alone h = simp (eq-eqb _ _ h)

  pub wake-edge : m ≢ none → wake_on j m w ≡ send m (connect 0) (set_mark m BRANCH (with_node (woken j w.node) w))
  unfolding wake_on
  wake-edge h = simp (ne_eqb _ _ h)

module _ (o : Own) (j : ℕ) (w : Work) where
  pub awake-wakes : w.node.status ≡ ASLEEP → awake o j w ≡ wakeup o j w
  unfolding awake
  awake-wakes h = simp (eq-eqb _ _ h)

  pub awake-is : w.node.status ≢ ASLEEP → awake o j w ≡ w
  unfolding awake
  awake-is h = simp (ne_eqb _ _ h)

-- (9) procedure report
module _ (w : Work) where
  pub report-counts : w.node.count ≢ 0 → do_report w ≡ w
  unfolding do_report
  report-counts h = simp (ne_eqb _ _ h)

  pub report-tests : w.node.test ≢ none → do_report w ≡ w
  unfolding do_report
  report-tests h = simp (ne_eqb _ _ h, and-false)

  module _ (c : w.node.count ≡ 0) (t : w.node.test ≡ none) where
    pub report-refused : w.node.branch ≡ none → do_report w ≡ refused w
    unfolding do_report
    report-refused h = simp (eq-eqb _ _ c, eq-eqb _ _ t, eq-eqb _ _ h)

    pub report-sends : w.node.branch ≢ none → do_report w ≡ send w.node.branch (report w.node.weight) (with_node (set_status FOUND w.node) w)
    unfolding do_report
    report-sends h = simp (eq-eqb _ _ c, eq-eqb _ _ t, ne_eqb _ _ h)

-- (5) procedure test on its earliest Basic edge k
module _ (k : ℕ) (w : Work) where
  pub test-over : k ≡ none → test_on k w ≡ do_report (with_node (set_test none w.node) w)
  unfolding test_on
  test-over h = simp (eq-eqb _ _ h)

  module _ (e : k ≢ none) where
    pub test-refused : w.node.level ≡ 0 → test_on k w ≡ refused w
    unfolding test_on
    test-refused h = simp (ne_eqb _ _ e, eq-eqb _ _ h)

    pub test-sends : w.node.level ≢ 0 → test_on k w ≡ send k (test w.node.level w.node.identity) (with_node (set_test k w.node) w)
    unfolding test_on
    test-sends h = simp (ne_eqb _ _ e, ne_eqb _ _ h)

-- (11) procedure change-root
module _ (w : Work) where
  pub root-refused : w.node.best ≡ none → change_root w ≡ refused w
  unfolding change_root
  root-refused h = simp (eq-eqb _ _ h)

  module _ (e : w.node.best ≢ none) where
    pub root_told : w.mark w.node.best ≡ BRANCH → change_root w ≡ send w.node.best change w
    unfolding change_root
    root_told h = simp (ne_eqb _ _ e, eq-eqb _ _ h)

    pub root-connects : w.mark w.node.best ≢ BRANCH → change_root w ≡ set_mark w.node.best BRANCH (send w.node.best (connect w.node.level) w)
    unfolding change_root
    root-connects h = simp (ne_eqb _ _ e, ne_eqb _ _ h)

-- (3) Connect
module _ (o : Own) (c : ℕ) (w : Work) where
  pub count-refused : degree o < c → count_up o c w ≡ refused w
  unfolding count_up
  count-refused h = simp (lt-ltb _ _ h)

  pub count-rises : c ≤ degree o → count_up o c w ≡ with_node (set_count c w.node) w
  unfolding count_up
  count-rises h = simp (le-ltb _ _ h)

module _ (o : Own) (j : ℕ) (w : Work) where
  pub absorb-find : w.node.status ≡ FIND → absorb o j w ≡ count_up o (w.node.count + 1) (join_over j 1 w)
  unfolding absorb
  absorb-find h = simp (eq-eqb _ _ h)

  pub absorb-found : w.node.status ≢ FIND → absorb o j w ≡ join_over j 0 w
  unfolding absorb
  absorb-found h = simp (ne_eqb _ _ h)

module _ (limit j : ℕ) (w : Work) where
  pub core-refused : limit ≤ w.node.level → core_end limit j w ≡ refused w
  unfolding core_end
  core-refused h = simp (le-leb _ _ h)

  pub core-answers : w.node.level < limit → core_end limit j w ≡ send j (initiate (w.node.level + 1) j 1) w
  unfolding core_end
  core-answers h = simp (lt-leb _ _ h)

module _ (o : Own) (limit l j : ℕ) (w : Work) where
  pub connect-absorbed : l < w.node.level → on_connect o limit l j w ≡ absorb o j w
  unfolding on_connect
  connect-absorbed h = simp (lt-ltb _ _ h)

  module _ (p : w.node.level ≤ l) where
    pub connect-waits : w.mark j ≡ BASIC → on_connect o limit l j w ≡ put_back w
    unfolding on_connect
    connect-waits h = simp (le-ltb _ _ p, eq-eqb _ _ h)

    pub connect-core : w.mark j ≢ BASIC → on_connect o limit l j w ≡ core_end limit j w
    unfolding on_connect
    connect-core h = simp (le-ltb _ _ p, ne_eqb _ _ h)

-- (4) Initiate
module _ (o : Own) (c : ℕ) (w : Work) where
  pub seek-refused : degree o < c → seek o c w ≡ refused w
  unfolding seek
  seek-refused h = simp (lt-ltb _ _ h)

  pub seek-tests : c ≤ degree o → seek o c w ≡ do_test o (with_node (set_count c w.node) w)
  unfolding seek
  seek-tests h = simp (le-ltb _ _ h)

module _ (o : Own) (l f find j : ℕ) (w : Work) where
  pub initiate-find : find ≡ 1 → on_initiate o l f find j w ≡ seek o (w.node.count + number o (branches j w.mark) (o.edges)) (told o l f find j w)
  unfolding on_initiate
  initiate-find h = simp (eq-eqb _ _ h)

  pub initiate-found : find ≢ 1 → on_initiate o l f find j w ≡ told o l f find j w
  unfolding on_initiate
  initiate-found h = simp (ne_eqb _ _ h)

-- (6) Test
module _ (o : Own) (l f j : ℕ) (w : Work) where
  pub test-waits : w.node.level < l → on_test o l f j w ≡ put_back w
  unfolding on_test
  test-waits h = simp (lt-ltb _ _ h)

  module _ (p : l ≤ w.node.level) where
    pub test-accepted : f ≢ w.node.identity → on_test o l f j w ≡ send j accept w
    unfolding on_test
    test-accepted h = simp (le-ltb _ _ p, ne_eqb _ _ h)

    module _ (q : f ≡ w.node.identity) where
      pub test-crossed : w.node.test ≡ j → on_test o l f j w ≡ do_test o (strike j w)
      unfolding on_test
      test-crossed h = simp (le-ltb _ _ p, eq-eqb _ _ q, eq-eqb _ _ h)

      pub test-rejected : w.node.test ≢ j → on_test o l f j w ≡ send j reject (strike j w)
      unfolding on_test
      test-rejected h = simp (le-ltb _ _ p, eq-eqb _ _ q, ne_eqb _ _ h)

-- (10) Report
module _ (o : Own) (x j : ℕ) (w : Work) where
  pub child-refused : w.node.count ≡ 0 → child_report o x j w ≡ refused w
  unfolding child_report
  child-refused h = simp (eq-eqb _ _ h)

  pub child-reports : w.node.count ≢ 0 → child_report o x j w ≡ do_report (with_node (better o j x (set_count (w.node.count - 1) w.node)) w)
  unfolding child_report
  child-reports h = simp (ne_eqb _ _ h)

  pub report-child : j ≢ w.node.branch → on_report o x j w ≡ child_report o x j w
  unfolding on_report
  report-child h = simp (ne_eqb _ _ h)

  module _ (b : j ≡ w.node.branch) where
    pub report-waits : w.node.status ≡ FIND → on_report o x j w ≡ put_back w
    unfolding on_report
    report-waits h = simp (eq-eqb _ _ b, eq-eqb _ _ h)

    pub report-core : w.node.status ≢ FIND → on_report o x j w ≡ core_report o x w
    unfolding on_report
    report-core h = simp (eq-eqb _ _ b, ne_eqb _ _ h)

module _ (o : Own) (x : ℕ) (w : Work) where
  pub core-decides : before o w.node.weight x ≡ true → core_report o x w ≡ change_root w
  unfolding core_report
  core-decides h = simp h

  module _ (p : before o w.node.weight x ≡ false) where
    pub core-halts : x ≡ none → w.node.weight ≡ none → core_report o x w ≡ with_node (set_halted 1 w.node) w
    unfolding core_report
    core-halts h k = simp (p, eq-eqb _ _ h, eq-eqb _ _ k)

    pub core-edge : x ≢ none → core_report o x w ≡ w
    unfolding core_report
    core-edge h = simp (p, ne_eqb _ _ h)

    pub core-idle : w.node.weight ≢ none → core_report o x w ≡ w
    unfolding core_report
    core-idle h = simp (p, ne_eqb _ _ h, and-false)

-- a sleeper takes Connect and Test only
module _ (w r : Work) where
  pub asleep-refused : w.node.status ≡ ASLEEP → unless_asleep w r ≡ refused w
  unfolding unless_asleep
  asleep-refused h = simp (eq-eqb _ _ h)

  pub asleep-not : w.node.status ≢ ASLEEP → unless_asleep w r ≡ r
  unfolding unless_asleep
  asleep-not h = simp (ne_eqb _ _ h)
