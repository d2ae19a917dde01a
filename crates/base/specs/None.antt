-- "none" of document 01: no link. Weights, edges and carried numbers use it in every layer.
use Rattle.std.specs.Prelude.{ℕ, Bool, true, false, cond, eqb}

abbrev pub none : ℕ
none = 65535

-- "'none' is later than all": the order of weights, which are edges or none
unfoldable pub before_by : (ℕ → ℕ → Bool) → ℕ → ℕ → Bool
before_by earlier a b = cond (eqb a none) false (cond (eqb b none) true (earlier a b))
