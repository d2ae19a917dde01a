-- Orders by a key, which leave what is equal to a further order. The order of the links is made of these.
use Rattle.std.specs.Prelude.{ℕ, Bool, ◌&&◌, ◌||◌, eqb, ltb}

-- first by the key; where the keys are equal, by what follows
abbrev pub by_key : (ℕ → ℕ) → (ℕ → ℕ → Bool) → ℕ → ℕ → Bool
by_key key next a b = ltb (key a) (key b) || (eqb (key a) (key b) && next a b)
