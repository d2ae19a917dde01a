-- An order of arrivals that brings the cue to all of the sender's part (`Spread`).
use Rattle.std.specs.Prelude.{ℕ, ◌≤◌, List, length}
use Rattle.plan.specs.Links.{Plan}
use Rattle.cue.specs.declared.Cue.{Cue}
use Rattle.cue.specs.Claims.{AllHeard}
use Rattle.cue_laws.proofs.Trail.{Trail}

-- at most m arrivals that bring the cue to all of the sender's part
pub record Spread (p : Plan) (sender : ℕ) (cues : List Cue) (m : ℕ) : Type 0 where
  pub order : List ℕ
  pub end : List Cue
  pub trail : Trail p cues order end
  pub few : length order ≤ m
  pub all : AllHeard p sender end
