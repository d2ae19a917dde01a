-- A strict order of the edges without ties, and the tree by the path rule.
use Rattle.std.specs.Prelude.{ℕ, ◌<◌, ◌≡◌, ◌≢◌, ◌⊎◌, Bool, true, false}
use Rattle.graph.specs.Graph.{Graph, Way}

-- "earlier": any two different edges below L compare, and no edge is earlier than itself
pub record Order (L : ℕ) : Type 0 where
  pub earlier : ℕ → ℕ → Bool
  pub irrefl : (a : ℕ) → earlier a a ≡ false
  pub trans : (a b c : ℕ) → earlier a b ≡ true → earlier b c ≡ true → earlier a c ≡ true
  pub total : (a b : ℕ) → a < L → b < L → a ≢ b → (earlier a b ≡ true) ⊎ (earlier b a ≡ true)

-- the edges earlier than e
abbrev pub Earlier : (ℕ → ℕ → Bool) → ℕ → ℕ → Type 0
Earlier earlier e f = earlier f e ≡ true

-- THE PATH RULE: e is a tree edge exactly if no way between its ends uses only earlier edges
-- (the edge itself is not earlier than itself, so such a way is another way)
abbrev pub InTree : Graph → (ℕ → ℕ → Bool) → ℕ → Type 0
InTree g earlier e = ¬ Way g (Earlier earlier e) (g.lo e) (g.hi e)
