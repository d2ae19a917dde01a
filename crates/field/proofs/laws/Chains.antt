-- What `all` of an iterator answers is what the definition says, in std's word (`all_of-is`). Of places, counts and ranges: base/proofs/laws/Chains.
use Rattle.std.specs.Prelude.{ℕ, ◌≡◌, Bool, List, [], ◌∷◌}
use Rattle.std.specs.List.{list_all}
use Rattle.std.proofs.Common.{refl}
use Rattle.field.specs.Valid.{all_of}

pub all_of-is : (q : ℕ → Bool) (l : List ℕ) → all_of q l ≡ list_all q l
unfolding all_of
all_of-is q [] = refl
all_of-is q (x ∷ l) = rw (all_of-is q l) refl
