-- Hops are below N where the rule of 73 holds (`hops-below`): so one more still fits where a cue is passed on.
use Rattle.std.specs.Prelude.{ℕ, ◌≤◌, ◌<◌, ◌≡◌, true, List, length}
use Rattle.plan.specs.Links.{Plan, modules_of}
use Rattle.cue.specs.declared.Cue.{Cue}
use Rattle.cue.specs.Record.{record_of}
use Rattle.cue.specs.Calls.{left_by_sending}
use Rattle.cue_laws.proofs.Net.{Net}
use Rattle.cue_laws.proofs.Rule.{test_good}
pub use Rattle.cue_laws.proofs.GoodHops.{good-hops}

module _ (p : Plan) (n : Net p) (cues : List Cue) where
  pub hops-below : modules_of p ≤ length cues → left_by_sending p cues ≡ true → (v : ℕ) → v < modules_of p → (record_of cues v).hops < modules_of p
  hops-below enough test = good-hops p n cues (test_good p n cues enough test)
