-- What waits is the front of the lent words (`front`), as an iterator counts them (`waiting-is`); the rest lies `behind`.
use Prim.Native.Nat.{ℕ, ◌-◌, ◌≤◌}
use native.Mathlib.Omega.{arith}
use mathlib.Core.Path.{◌≡◌, refl, ap, ◌∙◌}
use mathlib.Core.Bool.{not}
use mathlib.Core.List.{List, [], ◌∷◌}
use lib.ListN.{length, take, drop, length-drop}
use lib.Seq.{take_all}
use borrow.Author.Tests.{eq-eqb, ne_eqb}
use lib.Dec.{eqb}
use Rattle.std.specs.List.{prefix_len}
use Rattle.base.proofs.laws.Cond.{by-eq, bool_cases}
use Rattle.field.specs.Valid.{waiting_in}

-- as an iterator counts them
pub waiting-is : (ws : List ℕ) → length (waiting_in ws) ≡ prefix_len (λ x. not (eqb x 0)) ws
unfolding waiting_in
waiting-is [] = refl
waiting-is (x ∷ l) = bool_cases (eqb x 0) (λ e. rw e refl) (λ e. rw e (omega (arith, waiting-is l)))

-- the waiting words stand in front
pub take-waiting : (ws : List ℕ) → take (length (waiting_in ws)) ws ≡ waiting_in ws
unfolding waiting_in
take-waiting [] = refl
take-waiting (x ∷ l) = by-eq x 0
    (λ e. rw (eq-eqb x 0 e))
    (λ n. rw (ne_eqb x 0 n) (ap (λ r. x ∷ r) (take-waiting l)))

pub waiting-le : (ws : List ℕ) → length (waiting_in ws) ≤ length ws
unfolding waiting_in
waiting-le [] = omega arith
waiting-le (x ∷ l) = by-eq x 0
    (λ e. rw (eq-eqb x 0 e) (omega arith))
    (λ n. rw (ne_eqb x 0 n) (omega (arith, waiting-le l)))

-- where n words wait: the part in front, and the part behind
module _ (ws : List ℕ) (n : ℕ) (e : n ≡ length (waiting_in ws)) where
  pub front : take n ws ≡ waiting_in ws
  front = rw e (take-waiting ws)

  pub behind : take (length ws - n) (drop n ws) ≡ drop (length (waiting_in ws)) ws
  behind = take_all (length ws - n) (drop n ws) (omega (arith, length-drop n ws)) ∙ ap (λ i. drop i ws) e

  pub within : n ≤ length ws
  within = omega (arith, waiting-le ws)
