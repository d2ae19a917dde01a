-- Refused "by the first number that applies": tests one after the other, each with its number; 0 is none.
use Rattle.std.specs.Prelude.{ℕ, Bool, cond, eqb}

-- the number where the test says so, else what follows
abbrev pub or_else : Bool → ℕ → ℕ → ℕ
or_else bad number rest = cond bad number rest

-- the first refusal of two
abbrev pub first_refusal : ℕ → ℕ → ℕ
first_refusal r rest = cond (eqb r 0) rest r
