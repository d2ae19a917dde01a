-- Lists by a rule for their entries: f 0, f 1, .., f (n - 1).
use Rattle.std.specs.Prelude.{ℕ, zero, suc, cond, List, [], ◌∷◌, ltb}

unfoldable pub tabulate : ℕ → (ℕ → ℕ) → List ℕ
tabulate zero f = []
tabulate (suc n) f = f zero ∷ tabulate n (λ k. f (suc k))

-- the first k entries by f, the others by g
unfoldable pub upto : ℕ → (ℕ → ℕ) → (ℕ → ℕ) → ℕ → ℕ
upto k f g j = cond (ltb j k) (f j) (g j)
