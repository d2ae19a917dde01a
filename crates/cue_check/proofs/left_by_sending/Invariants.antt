-- cue_check::left_by_sending: a loop; the records below v are right, and so many of them are senders' (`RightBelow`), by `below_on` and `below-stops`. What
-- the code reads of the row is the module's record, by `right-read`.
use Rattle.cue_check.proofs.laws.Pass.{RightBelow}
use Rattle.cue_check.proofs.left_by_sending.Given as goal

abbrev pub invariant-loop-v : goal.invariant-loop-v
invariant-loop-v l = RightBelow l.plan l.row l.v l.senders
