-- 71 of one link, read off the tree's bytes.
use Rattle.std.specs.Prelude.{ℕ, Bool, List, get_or, eqb}
use Rattle.cue.specs.Calls.{ends_agree}

-- link k's byte against the marks at its two ends
abbrev pub byte_agrees : List ℕ → List ℕ → ℕ → Bool
byte_agrees bytes marks k = ends_agree (eqb (get_or bytes k 0) 1) marks k
