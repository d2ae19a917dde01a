-- Marks with one changed (`marked`), an edge or none as a number (`as_edge`), what a test of own edges answers (`Computes`).
use Rattle.std.specs.Prelude.{ℕ, ◌≡◌, Bool, true, ◌||◌, eqb, Option, Some, None}
use Rattle.base.specs.Cond.{upd}
use Rattle.base.specs.None.{none}
use Rattle.node.specs.Work.{BASIC, branches}
use Rattle.node_edges.specs.declared.NewMark.{NewMark}

-- marks after a change, if there is one
abbrev pub marked : (ℕ → ℕ) → Option NewMark → ℕ → ℕ
marked m None = m
marked m (Some c) = upd m c.edge c.mark

-- an edge as the rules number it
abbrev pub as_edge : Option ℕ → ℕ
as_edge None = none
as_edge (Some k) = k

-- a call of a test, at edges that own tells, answers f
pub record Computes (own : ℕ → Bool) (post : ℕ → Bool → Type 0) (f : ℕ → Bool) : Type 0 where
  pub at : (k : ℕ) (b : Bool) → own k ≡ true → post k b → b ≡ f k

-- the edges that a search looks at: all, or those with mark Basic
unfoldable pub looked : Bool → (ℕ → ℕ) → ℕ → Bool
looked all m k = all || eqb (m k) BASIC

-- the edges that a count counts: all, or the branches other than j
unfoldable pub counts : Bool → ℕ → (ℕ → ℕ) → ℕ → Bool
counts all j m k = all || branches j m k
