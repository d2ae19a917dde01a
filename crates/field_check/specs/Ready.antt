-- What it means that 31 has passed, of a field in lent arrays: steps may follow.
use Rattle.std.specs.Prelude.{ℕ, ◌≤◌, ◌≡◌, List, length}
use Rattle.plan.specs.Links.{Plan, plan_size}
use Rattle.plan.proofs.laws.Accepted.{Accepted}
use Rattle.field.specs.Edges.{ceiling_of}
use Rattle.field_laws.proofs.Keeps.{Sound}
use Rattle.field_words.specs.Laid.{Laid}
use Rattle.field_words.specs.Hands.{lent_state}

-- n of the lent words wait
pub record Ready (p : Plan) (cells marks lent : List ℕ) (n sent : ℕ) : Type 0 where
  pub plan : Accepted p
  pub whole : length p ≡ plan_size
  pub sound : Sound p (lent_state cells marks lent n sent)
  pub laid : Laid lent n
  pub room : ceiling_of p ≤ length lent
