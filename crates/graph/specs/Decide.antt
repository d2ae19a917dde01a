-- Ways and the path rule as tests: labels are merged edge by edge.
use Rattle.std.specs.Prelude.{ℕ, zero, suc, ◌≡◌, Bool, true, not, cond, eqb}
use Rattle.graph.specs.Graph.{Graph}
use Rattle.graph.specs.Labels.{rename}

-- the edges for which a test says yes
abbrev pub Set : (ℕ → Bool) → ℕ → Type 0
Set s e = s e ≡ true

-- LABELS

-- the label of w after the edges 0 .. k - 1 of s
unfoldable pub label : Graph → (ℕ → Bool) → ℕ → ℕ → ℕ
unfolding rename
label g s zero w = w
label g s (suc k) w = cond (s k) (rename (label g s k (g.lo k)) (label g s k (g.hi k)) (label g s k w)) (label g s k w)

-- JOINED

-- edges of s join u and v
unfoldable pub joined_over : Graph → (ℕ → Bool) → ℕ → ℕ → Bool
unfolding label
joined_over g s u v = eqb (label g s (g.L) u) (label g s (g.L) v)

-- THE TREE

-- e is a tree edge, by the path rule
unfoldable pub in_tree : Graph → (ℕ → ℕ → Bool) → ℕ → Bool
unfolding joined_over
in_tree g earlier e = not (joined_over g (λ f. earlier f e) (g.lo e) (g.hi e))
