-- From one node to another over a set of edges: at each node the edge that no way to the goal can do without. The latest edge of a list.
use Rattle.std.specs.Prelude.{ℕ, zero, suc, ◌≡◌, Bool, false, not, cond, ◌&&◌, ◌||◌, List, [], ◌∷◌, eqb}
use Rattle.base.specs.None.{none}
use Rattle.base.specs.Pool.{All, Out}
use Rattle.graph.specs.Graph.{Graph}
use Rattle.graph.specs.Decide.{joined_over}

-- THE NEXT EDGE

-- the edges of s but k
abbrev pub all_but : (ℕ → Bool) → ℕ → ℕ → Bool
all_but s k e = s e && not (eqb k e)

-- edge k ends at u, and the node at its other end
abbrev pub ends_at : Graph → ℕ → ℕ → Bool
ends_at g k u = eqb (g.lo k) u || eqb (g.hi k) u

abbrev pub across : Graph → ℕ → ℕ → ℕ
across g k u = cond (eqb (g.lo k) u) (g.hi k) (g.lo k)

-- edge k of s leads from u towards v: it ends at u, and without it the others do not join u and v
unfoldable pub leads_to : Graph → (ℕ → Bool) → ℕ → ℕ → ℕ → Bool
unfolding joined_over
leads_to g s u v k = ends_at g k u && (s k && not (joined_over g (all_but s k) u v))

-- an edge below n for which a test says yes, none where there is none
unfoldable pub some_edge : ℕ → (ℕ → Bool) → ℕ
some_edge zero q = none
some_edge (suc n) q = cond (q n) n (some_edge n q)

-- THE WAY

-- at most n edges, from u on towards v
unfoldable pub edges_to : Graph → (ℕ → Bool) → ℕ → ℕ → ℕ → List ℕ
unfolding leads_to some_edge
edges_to g s zero u v = []
edges_to g s (suc n) u v = cond (eqb u v) [] (let k = some_edge (g.L) (leads_to g s u v) in k ∷ edges_to g s n (across g k u) v)

-- as many as there may be
unfoldable pub between : Graph → (ℕ → Bool) → ℕ → ℕ → List ℕ
unfolding edges_to
between g s u v = edges_to g s (g.L) u v

-- THE LATEST EDGE

-- the later of two, the first of which may be none
abbrev pub later_of : (ℕ → ℕ → Bool) → ℕ → ℕ → ℕ
later_of earlier a b = cond (eqb a none) b (cond (earlier a b) b a)

-- the latest of a and the edges of a list
unfoldable pub latest_from : (ℕ → ℕ → Bool) → ℕ → List ℕ → ℕ
latest_from earlier a [] = a
latest_from earlier a (k ∷ l) = latest_from earlier (later_of earlier a k) l

-- the latest edge of a list, none of an empty one
abbrev pub latest_of : (ℕ → ℕ → Bool) → List ℕ → ℕ
latest_of earlier l = latest_from earlier none l

-- k is one of l, and none of l is later
pub record Latest (earlier : ℕ → ℕ → Bool) (l : List ℕ) (k : ℕ) : Type 0 where
  pub others : List ℕ
  pub among : Out l k others
  pub latest : All (λ j. earlier k j ≡ false) l
