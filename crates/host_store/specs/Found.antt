-- What the checks of a store and a name answer, and what finding a point answers, as C has it.
use Rattle.std.specs.Prelude.{ℕ, List, Result, Ok, Err, cond, ⊤}
use Rattle.refusal.specs.declared.Refusal.{Refusal}
use Rattle.refusal.specs.declared.Refusal.TheVariants as R
use Rattle.refusal.specs.Number.{numbered}
use Rattle.store.specs.declared.FoundPoint.{FoundPoint}
use Rattle.store.specs.declared.Spot.{Spot}
use Rattle.store.specs.Names.{name_fits}
use Rattle.store.specs.Calls.{store_fits}

-- 76 before 77
abbrev pub store_checks : List ℕ → List ℕ → Result ⊤ Refusal
store_checks s name = cond (store_fits s) (cond (name_fits name) (Ok _) (Err R.NameWrong)) (Err R.Store)

-- by the refusal's number; 0 and 0 beside a refusal, which has no place
abbrev pub point_found : Result Spot Refusal → FoundPoint
point_found (Ok p) = record { refusal = 0; at = p.at; size = p.size }
point_found (Err r) = record { refusal = numbered r; at = 0; size = 0 }
