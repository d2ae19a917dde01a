-- Lists in which no number comes twice.
use Rattle.std.specs.Prelude.{ℕ, ◌≢◌, List, [], ◌∷◌}
use Rattle.base.specs.Pool.{All}

pub data NoTwice : List ℕ → Type 0 where
  nobody : NoTwice []
  another : {x : ℕ} {l : List ℕ} → All (λ y. x ≢ y) l → NoTwice l → NoTwice (x ∷ l)
