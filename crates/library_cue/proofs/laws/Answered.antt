-- The numbers that C gets for each answer, computed (`answered-samples`).
use Rattle.std.specs.Prelude.{◌≡◌, refl, [], ◌∷◌, map}
use Rattle.cue.specs.Delivery.{Refused, Idle, Heard}
use Rattle.library_cue.specs.Answered.{in_numbers}

pub answered-samples :
    map in_numbers (Refused 73 ∷ Idle ∷ Heard ∷ [])
    ≡ record { refusal = 73; heard = 0 } ∷ record { refusal = 0; heard = 0 } ∷ record { refusal = 0; heard = 1 } ∷ []
answered-samples = refl
