-- The appendix of source 001, part by part, with document 01's slips and corners. `w` is the response so far, j the edge the message came by.
use Rattle.std.specs.Prelude.{ℕ, ◌+◌, ◌-◌, cond, ◌&&◌, List, ◌++◌, eqb, ltb, leb}
use Rattle.format_message.specs.Msg.{Msg, none, connect, initiate, test, accept, reject, report, change}
use Rattle.node.specs.declared.Node.{Node}
use Rattle.node.specs.Work.{Own, Work, Send, ASLEEP, FIND, FOUND, BASIC, BRANCH, REJECTED, before, start, put_back, refused, send, set_mark, with_node, set_status, set_best, set_test, set_count, set_halted, earliest, number, on_each, any_edge, basic, branches, degree}

-- (2) procedure wakeup
--       LN ← 0; SN ← Found; Find-count ← 0;
-- "Waking also sets level, identity, best and test edges, best weight and in-branch to their setup values."
-- "Each module's record gains the link whose message woke it: none for .. one woken by a wake step" (request 05): j is that edge, or none
abbrev pub woken : ℕ → Node → Node
woken j n =
    record { status = FOUND; level = 0; identity = none; weight = none; best = none; test = none; branch = none; count = 0; halted = n.halted; waking = j }

--       begin let m be adjacent edge of minimum weight; SE(m) ← Branch; .. send Connect(0) on edge m end
-- Slip: the copy has SE(m) ← Branch before part 1, and the line with `let m` after part 3.
-- "A module without links wakes Found and halted, and sends nothing."
unfoldable pub wake_on : ℕ → ℕ → Work → Work
wake_on j m w =
    cond (eqb m none)
    (with_node (set_halted 1 (woken j w.node)) w)
    (send m (connect 0) (set_mark m BRANCH (with_node (woken j w.node) w)))

abbrev pub wakeup : Own → ℕ → Work → Work
wakeup o j w = wake_on j (earliest o any_edge (o.edges)) w

-- (3) and (6): if SN = Sleeping then execute procedure wakeup
unfoldable pub awake : Own → ℕ → Work → Work
awake o j w = cond (eqb w.node.status ASLEEP) (wakeup o j w) w

-- (9) procedure report
--       if find-count = 0 and test-edge = nil then begin SN ← Found; send Report(best-wt) on in-branch end
-- 32: "the report procedure would send with in-branch none"
unfoldable pub do_report : Work → Work
do_report w =
    cond (eqb w.node.count 0 && eqb w.node.test none)
    (cond (eqb w.node.branch none) (refused w) (send w.node.branch (report w.node.weight) (with_node (set_status FOUND w.node) w)))
    w

-- (5) procedure test, for the earliest own edge k in the state Basic
--       if there are adjacent edges in the state Basic
--         then begin test-edge ← the minimum-weight adjacent edge in state Basic; send Test(LN, FN) on test-edge end
--         else begin test-edge ← nil; execute procedure report end
-- 32: "a level 0 module would send Test"
unfoldable pub test_on : ℕ → Work → Work
test_on k w =
    cond (eqb k none) (do_report (with_node (set_test none w.node) w))
    (cond (eqb w.node.level 0) (refused w) (send k (test w.node.level w.node.identity) (with_node (set_test k w.node) w)))

abbrev pub do_test : Own → Work → Work
do_test o w = test_on (earliest o (basic w) (o.edges)) w

-- (11) procedure change-root
--       if SE(best-edge) = Branch then send Change-root on best-edge
--         else begin send Connect(LN) on best-edge; SE(best-edge) ← Branch end
-- 32: "the change-root procedure would run with best edge none"
unfoldable pub change_root : Work → Work
change_root w =
    cond (eqb w.node.best none) (refused w)
    (cond (eqb (w.mark w.node.best) BRANCH)
    (send w.node.best change w)
    (set_mark w.node.best BRANCH (send w.node.best (connect w.node.level) w)))

-- find-count ← c, where c is above the old value
-- 32: "find-count would leave 0 to the module's links"
unfoldable pub count_up : Own → ℕ → Work → Work
count_up o c w = cond (ltb (degree o) c) (refused w) (with_node (set_count c w.node) w)

-- (3) Connect(L) on edge j, L < LN
--       begin SE(j) ← Branch; send Initiate(LN, FN, SN) on edge j; if SN = Find then find-count ← find-count + 1 end
-- "Raising find-count for a Connect absorbed while Found" is a trap.
abbrev pub join_over : ℕ → ℕ → Work → Work
join_over j find w = send j (initiate w.node.level w.node.identity find) (set_mark j BRANCH w)

unfoldable pub absorb : Own → ℕ → Work → Work
absorb o j w =
    cond (eqb w.node.status FIND) (count_up o (w.node.count + 1) (join_over j 1 w)) (join_over j 0 w)

--       else send Initiate(LN + 1, w(j), Find) on edge j
-- 32: "an Initiate would exceed ⌊log2 N⌋": limit
unfoldable pub core_end : ℕ → ℕ → Work → Work
core_end limit j w = cond (leb limit w.node.level) (refused w) (send j (initiate (w.node.level + 1) j 1) w)

-- (3) Response to receipt of Connect(L) on edge j, awake
--       if L < LN then absorb else if SE(j) = Basic then place received message on end of queue else core end
unfoldable pub on_connect : Own → ℕ → ℕ → ℕ → Work → Work
on_connect o limit l j w =
    cond (ltb l w.node.level) (absorb o j w) (cond (eqb (w.mark j) BASIC) (put_back w) (core_end limit j w))

-- (4) Initiate(L, F, S) on edge j
--       begin LN ← L; FN ← F; SN ← S; in-branch ← j; best-edge ← nil; best-wt ← ∞;
-- Slip: the copy has in-branch ← i.
abbrev pub informed : ℕ → ℕ → ℕ → ℕ → Node → Node
informed l f find j n =
    record { status = cond (eqb find 1) FIND FOUND; level = l; identity = f; weight = none; best = none; test = n.test; branch = j; count = n.count; halted = n.halted; waking = n.waking }

--       for all i ≠ j such that SE(i) = Branch do begin send Initiate(L, F, S) on edge i; .. end
-- Slip: the copy lacks this end, which closes the loop before procedure test.
-- "An Initiate's copies go out by rising link number, before any Test or Report"
abbrev pub copies : Own → ℕ → Msg → Work → List Send
copies o j m w = on_each o (branches j w.mark) m (o.edges)

abbrev pub copied : List Send → Work → Work
copied cs w = record { answer = w.answer; node = w.node; mark = w.mark; sends = w.sends ++ cs }

-- the response up to the loop's end
abbrev pub told : Own → ℕ → ℕ → ℕ → ℕ → Work → Work
told o l f find j w = copied (copies o j (initiate l f find) w) (with_node (informed l f find j w.node) w)

--          if S = Find then find-count ← find-count + 1 (for each copy);
--       if S = Find then execute procedure test end
-- c is the count that results. 32: "find-count would leave 0 to the module's links"
unfoldable pub seek : Own → ℕ → Work → Work
seek o c w = cond (ltb (degree o) c) (refused w) (do_test o (with_node (set_count c w.node) w))

-- (4) Response to receipt of Initiate(L, F, S) on edge j
unfoldable pub on_initiate : Own → ℕ → ℕ → ℕ → ℕ → Work → Work
on_initiate o l f find j w =
    cond (eqb find 1)
    (seek o (w.node.count + number o (branches j w.mark) (o.edges)) (told o l f find j w))
    (told o l f find j w)

-- (6), (8): if SE(j) = Basic then SE(j) ← Rejected
-- "A Reject on a Branch link leaves it Branch." "Rejecting a Branch link when a late Test meets its own fragment" is a trap.
abbrev pub strike : ℕ → Work → Work
strike j w = set_mark j (cond (eqb (w.mark j) BASIC) REJECTED (w.mark j)) w

-- (6) Response to receipt of Test(L, F) on edge j, awake
-- Slip: the copy has on edge i.
--       if L > LN then place received message on end of queue
--         else if F ≠ FN then send Accept on edge j
--           else begin strike; if test-edge ≠ j then send Reject on edge j else execute procedure test end
unfoldable pub on_test : Own → ℕ → ℕ → ℕ → Work → Work
on_test o l f j w =
    cond (ltb w.node.level l) (put_back w)
    (cond (eqb f w.node.identity)
    (cond (eqb w.node.test j) (do_test o (strike j w)) (send j reject (strike j w)))
    (send j accept w))

-- (7), (10): if x < best-wt then begin best-edge ← j; best-wt ← x end
abbrev pub better : Own → ℕ → ℕ → Node → Node
better o j x n =
    set_best (cond (before o x n.weight) j n.best) (cond (before o x n.weight) x n.weight) n

-- (7) Response to receipt of Accept on edge j
--       begin test-edge ← nil; if w(j) < best-wt then begin best-edge ← j; best-wt ← w(j) end; execute procedure report end
abbrev pub on_accept : Own → ℕ → Work → Work
on_accept o j w = do_report (with_node (better o j j (set_test none w.node)) w)

-- (8) Response to receipt of Reject on edge j
--       begin if SE(j) = Basic then SE(j) ← Rejected; execute procedure test end
abbrev pub on_reject : Own → ℕ → Work → Work
on_reject o j w = do_test o (strike j w)

-- (10) Report(x) on edge j ≠ in-branch (the copy's w is x here)
-- Slip: the copy has i ≠ in-branch, here and in the response below.
--       begin find-count ← find-count − 1; if x < best-wt then begin best-wt ← x; best-edge ← j end; execute procedure report end
-- 32: "find-count would leave 0 to the module's links"
unfoldable pub child_report : Own → ℕ → ℕ → Work → Work
child_report o x j w =
    cond (eqb w.node.count 0) (refused w)
    (do_report (with_node (better o j x (set_count (w.node.count - 1) w.node)) w))

--       else if x > best-wt then execute procedure change-root else if x = best-wt = ∞ then halt
-- "A Report on the in-branch, at a Found module, that is earlier than or equal to its best weight does nothing, save that none against none sets halted."
unfoldable pub core_report : Own → ℕ → Work → Work
core_report o x w =
    cond (before o w.node.weight x) (change_root w)
    (cond (eqb x none && eqb w.node.weight none) (with_node (set_halted 1 w.node) w) w)

-- (10) Response to receipt of Report(x) on edge j
--       if j ≠ in-branch then .. else if SN = Find then place received message on end of queue else ..
unfoldable pub on_report : Own → ℕ → ℕ → Work → Work
on_report o x j w =
    cond (eqb j w.node.branch) (cond (eqb w.node.status FIND) (put_back w) (core_report o x w)) (child_report o x j w)

-- 32: "a sleeper serves kind 2, 4, 5, 6 or 7"
unfoldable pub unless_asleep : Work → Work → Work
unless_asleep w r = cond (eqb w.node.status ASLEEP) (refused w) r

-- THE RESPONSE of an awake or sleeping node to a message on its edge j; limit is ⌊log2 N⌋
-- "Connect and Test wake a sleeper first; a put-back after that keeps the wake."
-- (12) Response to receipt of Change-root: execute procedure change-root
unfoldable pub respond_to : Own → ℕ → Msg → ℕ → Work → Work
respond_to o limit (connect l) j w = on_connect o limit l j (awake o j w)
respond_to o limit (initiate l f find) j w = unless_asleep w (on_initiate o l f find j w)
respond_to o limit (test l f) j w = on_test o l f j (awake o j w)
respond_to o limit accept j w = unless_asleep w (on_accept o j w)
respond_to o limit reject j w = unless_asleep w (on_reject o j w)
respond_to o limit (report x) j w = unless_asleep w (on_report o x j w)
respond_to o limit change j w = unless_asleep w (change_root w)

abbrev pub respond : Own → ℕ → Msg → ℕ → Node → (ℕ → ℕ) → Work
respond o limit m j n mark = respond_to o limit m j (start n mark)

-- (1) Response to spontaneous awakening (can occur only at a node in the sleeping state): execute procedure wakeup
abbrev pub wakes : Own → Node → (ℕ → ℕ) → Work
wakes o n mark = wakeup o none (start n mark)
