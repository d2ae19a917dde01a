-- Sequences of small steps, and how many messages they send.
use Rattle.std.specs.Prelude.{ℕ, ◌+◌}
use Rattle.base.specs.Cond.{bit}
use Rattle.base.specs.Sum.{sum}
use Rattle.protocol.specs.Network.{Network}
use Rattle.protocol.specs.State.{ProtocolState}
use Rattle.protocol.specs.Step.{SmallStep, pop, copy}
use Rattle.protocol.specs.Step.{wake-lone, wake-half, wake-merge, back, absorb, core-reply, tell, accept-test, reject-test, crossed-test, accepted, rejected}
use Rattle.protocol.specs.Step.{child-report, core-nothing, core-halt, decide, change-root, test-next, test-none, report-now, report-later, root-branch, root-half, root-merge}

-- the messages that a step sends; an Initiate is passed on by each other branch
abbrev pub sends : {p : Network} {s s' : ProtocolState} → SmallStep p s s' → ℕ
sends (wake-lone a b c d) = 0
sends (wake-half a b c d e) = 1
sends (wake-merge a b c d e) = 1
sends (back a b c d e f g) = 0
sends (absorb a b c d e f) = 1
sends (core-reply a b c d e f) = 1
sends {p} {s} (tell {u} {v} {k} {r = r} a b c d e) = sum p.g.L (λ j. bit (copy (pop s u k r) v k j))
sends (accept-test a b c d e f) = 1
sends (reject-test a b c d e f g h) = 1
sends (crossed-test a b c d e f g h) = 0
sends (accepted a b c d) = 0
sends (rejected a b c d) = 0
sends (child-report a b c d e) = 0
sends (core-nothing a b c d e f g) = 0
sends (core-halt a b c d e f g) = 0
sends (decide a b c d e f) = 0
sends (change-root a b c) = 0
sends (test-next a b c d e) = 1
sends (test-none a b c d) = 0
sends (report-now a b c d e f g) = 1
sends (report-later a b c d) = 0
sends (root-branch a b c d e f) = 1
sends (root-half a b c d e f g) = 1
sends (root-merge a b c d e f g) = 1

-- from one state to another by small steps, with n messages sent
pub data Steps (p : Network) : ProtocolState → ProtocolState → ℕ → Type 0 where
  done : {s : ProtocolState} → Steps p s s 0
  then : {s s' s'' : ProtocolState} {n : ℕ} (t : SmallStep p s s') → Steps p s' s'' n → Steps p s s'' (sends t + n)
