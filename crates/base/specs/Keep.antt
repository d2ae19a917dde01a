-- Those of a list that pass a test, how many they are, the place of the first.
use Rattle.std.specs.Prelude.{ℕ, suc, ◌+◌, Bool, cond, List, [], ◌∷◌}
use Rattle.base.specs.Cond.{bit}

module _ {A : Type 0} where
  -- those that pass, in their order
  unfoldable pub keep : (A → Bool) → List A → List A
  keep q [] = []
  keep q (x ∷ l) = cond (q x) (x ∷ keep q l) (keep q l)

  -- how many pass
  unfoldable pub many : (A → Bool) → List A → ℕ
  many q [] = 0
  many q (x ∷ l) = bit (q x) + many q l

  -- the place of the first that passes, the length where there is none
  unfoldable pub place : (A → Bool) → List A → ℕ
  place q [] = 0
  place q (x ∷ l) = cond (q x) 0 (suc (place q l))
