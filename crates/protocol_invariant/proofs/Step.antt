-- EVERY SMALL STEP KEEPS THE INVARIANT (`inv-step`).
use Rattle.protocol.proofs.Prelude.{Network, ProtocolState, SmallStep, Inv}
use Rattle.protocol.specs.Step.{wake-lone, wake-half, wake-merge, back, absorb, core-reply, tell, accept-test, reject-test, crossed-test, accepted, rejected}
use Rattle.protocol.specs.Step.{child-report, core-nothing, core-halt, decide, change-root, test-next, test-none, report-now, report-later, root-branch, root-half, root-merge}
use Rattle.protocol_search.proofs.WakeLone.{inv-wake-lone}
use Rattle.protocol_search.proofs.Back.{inv-back}
use Rattle.protocol_search.proofs.AcceptTest.{inv-accept-test}
use Rattle.protocol_search.proofs.RejectTest.{inv-reject-test}
use Rattle.protocol_search.proofs.CrossedTest.{inv-crossed-test}
use Rattle.protocol_search.proofs.Accepted.{inv-accepted}
use Rattle.protocol_search.proofs.Rejected.{inv-rejected}
use Rattle.protocol_search.proofs.TestNext.{inv-test-next}
use Rattle.protocol_search.proofs.TestNone.{inv-test-none}
use Rattle.protocol_search.proofs.ReportLater.{inv-report-later}
use Rattle.protocol_core.proofs.ChildReport.{inv-child-report}
use Rattle.protocol_core.proofs.CoreNothing.{inv-core-nothing}
use Rattle.protocol_core.proofs.CoreHalt.{inv-core-halt}
use Rattle.protocol_core.proofs.Decide.{inv-decide}
use Rattle.protocol_core.proofs.ChangeRoot.{inv-change-root}
use Rattle.protocol_report.proofs.ReportNow.{inv-report-now}
use Rattle.protocol_tell.proofs.Absorb.{inv-absorb}
use Rattle.protocol_tell.proofs.CoreReply.{inv-core-reply}
use Rattle.protocol_tell.proofs.Tell.{inv-tell}
use Rattle.protocol_merge.proofs.WakeRoot.{inv-wake-half, inv-wake-merge, inv-root-half, inv-root-merge}
use Rattle.protocol_merge.proofs.RootBranch.{inv-root-branch}

pub inv-step : {p : Network} {s s' : ProtocolState} → SmallStep p s s' → Inv p s → Inv p s'
inv-step (wake-lone idle below asleep lone) i = inv-wake-lone i idle below asleep lone
inv-step (wake-half idle ends asleep least m) i = inv-wake-half i idle ends asleep least m
inv-step (wake-merge idle ends asleep least m) i = inv-wake-merge i idle ends asleep least m
inv-step (back a b idle ends awake q blocked) i = inv-back i a b idle ends awake q blocked
inv-step (absorb idle ends awake q low flag) i = inv-absorb i idle ends awake q low flag
inv-step (core-reply idle ends awake q low m) i = inv-core-reply i idle ends awake q low m
inv-step (tell idle ends q mode place) i = inv-tell i idle ends q mode place
inv-step (accept-test idle ends awake q low differ) i = inv-accept-test i idle ends awake q low differ
inv-step (reject-test idle ends awake q low same other strike) i = inv-reject-test i idle ends awake q low same other strike
inv-step (crossed-test idle ends awake q low same edge strike) i = inv-crossed-test i idle ends awake q low same edge strike
inv-step (accepted idle ends q better) i = inv-accepted i idle ends q better
inv-step (rejected idle ends q strike) i = inv-rejected i idle ends q strike
inv-step (child-report idle ends q other better) i = inv-child-report i idle ends q other better
inv-step (core-nothing idle ends q branch found le some) i = inv-core-nothing i idle ends q branch found le some
inv-step (core-halt idle ends q branch found w b) i = inv-core-halt i idle ends q branch found w b
inv-step (decide idle ends q branch found later) i = inv-decide i idle ends q branch found later
inv-step (change-root idle ends q) i = inv-change-root i idle ends q
inv-step (test-next ot op oo ends least) i = inv-test-next i ot op oo ends least
inv-step (test-none ot op oo basic) i = inv-test-none i ot op oo basic
inv-step (report-now ot op oo ends branch count edge) i = inv-report-now i ot op oo ends branch count edge
inv-step (report-later ot op oo busy) i = inv-report-later i ot op oo busy
inv-step (root-branch ot op oo ends best m) i = inv-root-branch i ot op oo ends best m
inv-step (root-half ot op oo ends best m o) i = inv-root-half i ot op oo ends best m o
inv-step (root-merge ot op oo ends best m o) i = inv-root-merge i ot op oo ends best m o
