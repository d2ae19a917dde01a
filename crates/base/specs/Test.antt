-- A test of all numbers below n; whether two lists are the same.
use Rattle.std.specs.Prelude.{ℕ, zero, suc, Bool, true, false, cond, ◌&&◌, List, [], ◌∷◌, eqb}

unfoldable pub every : ℕ → (ℕ → Bool) → Bool
every zero p = true
every (suc n) p = cond (p n) (every n p) false

unfoldable pub same_list : List ℕ → List ℕ → Bool
same_list [] [] = true
same_list [] (y ∷ l) = false
same_list (x ∷ k) [] = false
same_list (x ∷ k) (y ∷ l) = eqb x y && same_list k l
