-- EVERY STEP PAYS FOR WHAT IT SENDS (`paid-step`, `lone-step`).
use Rattle.protocol.proofs.Prelude.{ℕ, ◌+◌, ◌≤◌, arith, ◌≡◌, refl, Network, Edge, end_lt, flip, ends-irr, ProtocolState, SmallStep, Inv, sends}
use Rattle.protocol.specs.Step.{wake-lone, wake-half, wake-merge, back, absorb, core-reply, tell, accept-test, reject-test, crossed-test, accepted, rejected}
use Rattle.protocol.specs.Step.{child-report, core-nothing, core-halt, decide, change-root, test-next, test-none, report-now, report-later, root-branch, root-half, root-merge}
use Rattle.base.specs.Log.{log2}
use Rattle.std.proofs.Common.{le_refl}
use Rattle.protocol_budget.proofs.Paid.{Paid}
use Rattle.protocol_budget.proofs.Still.{paid-back, paid-child-report, paid-core-nothing, paid-core-halt, paid-decide, paid-change-root, paid-test-none, paid-accepted, paid-wake-lone, paid-report-later}
use Rattle.protocol_budget.proofs.AcceptTest.{paid-accept-test}
use Rattle.protocol_budget.proofs.RejectTest.{paid-reject-test}
use Rattle.protocol_budget.proofs.Again.{paid-rejected, paid-crossed-test}
use Rattle.protocol_budget.proofs.TestNext.{paid-test-next}
use Rattle.protocol_budget.proofs.Report.{paid-report-now, paid-root-branch}
use Rattle.protocol_budget.proofs.Half.{paid-wake-half, paid-wake-merge, paid-root-half, paid-root-merge}
use Rattle.protocol_budget.proofs.Raise.{paid-core-reply}
use Rattle.protocol_budget.proofs.Absorb.{paid-absorb}
use Rattle.protocol_budget.proofs.Tell.{paid-tell}

-- nothing is sent
none-sent : {p : Network} {z n : ℕ} {s : ProtocolState} → Paid p z s n → Paid p z s (n + 0)
none-sent h = record { tb = h.tb; rp = h.rp; ts = h.ts; rt = h.rt; lk = h.lk; H = h.H; D = h.D; T = h.T; L = h.L; bal = omega (arith, h.bal) }

pub paid-step : {p : Network} {s s' : ProtocolState} {n : ℕ} → Inv p s → (t : SmallStep p s s') → Paid p (log2 p.N) s n → Paid p (log2 p.N) s' (n + sends t)
paid-step i (wake-lone idle below asleep lone) h = none-sent (paid-wake-lone i h asleep)
paid-step i (wake-half idle ends asleep first basic) h = paid-wake-half i h ends asleep
paid-step i (wake-merge idle ends asleep first branch) h = paid-wake-merge i h ends asleep branch
paid-step i (back a b idle ends awake q blocked) h = none-sent (paid-back i h a b ends q blocked)
paid-step i (absorb idle ends awake q low flag) h = paid-absorb i h idle ends q low flag
paid-step i (core-reply idle ends awake q low mark) h = paid-core-reply i h ends q mark
paid-step i (tell idle ends q mode place) h = paid-tell i h idle ends q mode place
paid-step {p} i (accept-test idle ends awake q low differ) h = paid-accept-test (le_refl (log2 p.N)) i h idle ends awake q low differ
paid-step i (reject-test idle ends awake q low same other strike) h = paid-reject-test i h idle ends awake q low same other strike
paid-step i (crossed-test idle ends awake q low same edge strike) h = none-sent (paid-crossed-test i h idle ends awake q low same edge strike)
paid-step i (accepted idle ends q better) h = none-sent (paid-accepted i h idle ends q better)
paid-step i (rejected idle ends q strike) h = none-sent (paid-rejected i h idle ends q strike)
paid-step i (child-report {b = b} {e = e} idle ends q branch better) h = none-sent (paid-child-report i h b e ends q)
paid-step i (core-nothing idle ends q branch found le some) h = none-sent (paid-core-nothing i h ends q)
paid-step i (core-halt idle ends q branch found w b) h = none-sent (paid-core-halt i h ends q found w b)
paid-step i (decide idle ends q branch found lt) h = none-sent (paid-decide i h ends q found lt)
paid-step i (change-root idle ends q) h = none-sent (paid-change-root i h ends q)
paid-step i (test-next ot op oo ends first) h = paid-test-next i h ot op oo ends first
paid-step i (test-none ot op oo basic) h = none-sent (paid-test-none i h ot op oo basic)
paid-step i (report-now ot op oo ends branch count edge) h = paid-report-now i h op ends
paid-step i (report-later ot op oo busy) h = none-sent (paid-report-later i h)
paid-step i (root-branch ot op oo ends best branch) h = paid-root-branch i h oo ends
paid-step i (root-half ot op oo ends best branch other) h = paid-root-half i h oo ends best branch
paid-step i (root-merge ot op oo ends best branch other) h = paid-root-merge i h oo ends best branch other

-- with one node at most there is no edge, and nothing is ever sent
pub lone-step : {p : Network} {s s' : ProtocolState} → p.N ≤ 1 → (t : SmallStep p s s') → sends t ≡ 0
lone-step {p} l t = which t
  where
    no_edge : {k u v : ℕ} → Edge p k u v → ⊥
    no_edge {u = u} {v = v} e = ends-irr p e (omega (arith, end_lt p e, end_lt p (flip e)))

    which : {s s' : ProtocolState} (t : SmallStep p s s') → sends t ≡ 0
    which (wake-lone a b c d) = refl
    which (wake-half a e c d o) = absurd (no_edge e)
    which (wake-merge a e c d o) = absurd (no_edge e)
    which (back a b c d e f g) = refl
    which (absorb a e c d o f) = absurd (no_edge e)
    which (core-reply a e c d o f) = absurd (no_edge e)
    which (tell a e c d o) = absurd (no_edge e)
    which (accept-test a e c d o f) = absurd (no_edge e)
    which (reject-test a e c d o f g h) = absurd (no_edge e)
    which (crossed-test a b c d e f g h) = refl
    which (accepted a b c d) = refl
    which (rejected a b c d) = refl
    which (child-report a b c d e) = refl
    which (core-nothing a b c d e f g) = refl
    which (core-halt a b c d e f g) = refl
    which (decide a b c d e f) = refl
    which (change-root a b c) = refl
    which (test-next a b c e o) = absurd (no_edge e)
    which (test-none a b c d) = refl
    which (report-now a b c e o f g) = absurd (no_edge e)
    which (report-later a b c d) = refl
    which (root-branch a b c e o f) = absurd (no_edge e)
    which (root-half a b c e o f g) = absurd (no_edge e)
    which (root-merge a b c e o f g) = absurd (no_edge e)
