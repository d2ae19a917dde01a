-- A part with nobody awake is as at setup in every good state (`as-at-setup`).
use Rattle.std.specs.Prelude.{ℕ, List, length, replicate}
use Rattle.std.proofs.Common.{arith, sym, ◌∙◌}
use Rattle.plan.proofs.laws.Accepted.{Accepted}
use Rattle.plan.specs.Links.{Plan}
use Rattle.field.specs.State.{State}
use Rattle.field.specs.Held.{state_of, fresh}
use Rattle.field_calls.specs.Demand.{InPart, AsAtSetup}
use Rattle.field_calls.specs.Trail.{Awake}
use Rattle.field_laws.proofs.After.{fresh-node}
use Rattle.field_laws.proofs.Keeps.{Sound}
use Rattle.demand.proofs.Good.{Good}
use Rattle.demand.proofs.Sleeping.{node-asleep, mark-asleep, no-message, none-waits}

module _ (p : Plan) (a : Accepted p) (s : State) (g : Good p a s) (i : Sound p s) (lent : List ℕ) (w : ℕ) (none-awake : (v : ℕ) → InPart p w v → ¬ Awake p s v) where
  abbrev begun : State
  begun = state_of (record { field = fresh p; words = replicate (length lent) 0 })

  -- A PART WITH NOBODY AWAKE IS AS AT SETUP
  pub as-at-setup : AsAtSetup p begun s (InPart p w)
  as-at-setup = record {
    nodes = λ v y. node-asleep p a s g i lent w none-awake v y ∙ sym (fresh-node v (omega (arith, y.0, a.modules_ok)));
    marks = mark-asleep p a s g i lent w none-awake;
    words = none-waits p a s g i lent w none-awake s.words i.fits.words (no-message p a s g i lent w none-awake);
  }
