-- Undirected graphs with numbered edges, and ways (walks) over a set of edges.
-- Document 01: a module is a node, a link is an edge, "way" is its word for a walk.
use Rattle.std.specs.Prelude.{ℕ, ◌<◌, ◌≡◌}

-- L edges, numbered from 0; edge k joins lo k and hi k
pub record Graph : Type 0 where
  pub L : ℕ
  pub lo : ℕ → ℕ
  pub hi : ℕ → ℕ

-- edge e leads from u to v
pub data Joins (g : Graph) (e u v : ℕ) : Type 0 where
  up : e < g.L → g.lo e ≡ u → g.hi e ≡ v → Joins g e u v
  down : e < g.L → g.hi e ≡ u → g.lo e ≡ v → Joins g e u v

-- a way from the first node to the second that uses only edges of S
pub data Way (g : Graph) (S : ℕ → Type 0) : ℕ → ℕ → Type 0 where
  stop : {u : ℕ} → Way g S u u
  go : {u v w : ℕ} (e : ℕ) → Joins g e u v → S e → Way g S v w → Way g S u w

-- all edges
abbrev pub Any : ℕ → Type 0
Any e = Unit {0}
