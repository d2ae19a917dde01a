-- Finding and restoring answer their refusals (`find-refusal`, `restore-refusal`).
use Rattle.std.specs.Prelude.{ℕ, ◌≡◌, refl, Bool, cond, List, length}
use Rattle.std.proofs.Common.{sym}
use Rattle.base.proofs.laws.Cond.{eqb-cases}
use Rattle.base.specs.Loop.{After, taken_to}
use Rattle.field.specs.Held.{Held, layout, not_set_up}
use Rattle.store.specs.declared.FoundPoint.{FoundPoint}
use Rattle.store.specs.Names.{spot_of}
use Rattle.store.specs.Calls.{find_refusal, find_point, point_of, restore_refusal, restore_point}

pub find-refusal : (name s : List ℕ) → (find_point name s).refusal ≡ find_refusal name s
unfolding find_point
find-refusal name s = eqb-cases (find_refusal name s) 0 (λ b. (outcome b).refusal ≡ find_refusal name s) (λ e. sym e) (λ n. refl)
  where
    outcome : Bool → FoundPoint
    outcome b = cond b (record { refusal = 0; at = (spot_of name s).at; size = (spot_of name s).size }) (record { refusal = find_refusal name s; at = 0; size = 0 })

pub restore-refusal : (name s lent : List ℕ) → (restore_point name s lent).refusal ≡ restore_refusal name s lent
unfolding restore_point
restore-refusal name s lent = eqb-cases (restore_refusal name s lent) 0 (λ b. (outcome b).refusal ≡ restore_refusal name s lent) (λ e. sym e) (λ n. refl)
  where
    outcome : Bool → After Held
    outcome b =
        cond b (taken_to (record { field = (point_of name s).field; words = layout (length lent) (point_of name s).words }))
        (not_set_up (restore_refusal name s lent) lent)
