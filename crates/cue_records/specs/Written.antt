-- The list that a loop has written so far: the first i of what it copies, over the list that was there.
use Rattle.std.specs.Prelude.{ℕ, List, ◌++◌, take, drop}

abbrev pub written : {A : Type 0} → List A → ℕ → List A → List A
written new i old = take i new ++ drop i old
