-- When no copy waits, all of the sender's part have heard (`all-heard`).
use Rattle.std.specs.Prelude.{◌≡◌, List}
use Rattle.plan.specs.Links.{Plan}
use Rattle.cue.specs.declared.Cue.{Cue}
use Rattle.cue.specs.Copies.{copies_waiting}
use Rattle.cue.specs.Claims.{AllHeard}
use Rattle.cue_laws.proofs.Net.{Net}
use Rattle.cue_laws.proofs.Good.{GoodCues}
use Rattle.cue_laws.proofs.Joined.{joined-heard}
pub use Rattle.cue_laws.proofs.Joined.{hearers, edge-waits}

module _ (p : Plan) (n : Net p) (cues : List Cue) (good : GoodCues p cues) where
  pub all-heard : copies_waiting p cues ≡ 0 → AllHeard p good.sender cues
  all-heard z v l w = joined-heard p n cues good z v (n.spans w)
