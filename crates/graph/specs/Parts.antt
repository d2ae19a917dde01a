-- The parts of a graph (its connected components). Document 02's request 08 has the word: "A plan in several parts is accepted".
use Rattle.std.specs.Prelude.{ℕ, zero, suc, Bool, true, not, cond, List, [], ◌∷◌, ◌++◌}
use Rattle.base.specs.Cond.{bit}
use Rattle.base.specs.Sum.{sum}
use Rattle.base.specs.Test.{every}
use Rattle.graph.specs.Graph.{Graph, Way, Any}
use Rattle.graph.specs.Decide.{joined_over}

-- u and v are in one part: edges join them
abbrev pub SamePart : Graph → ℕ → ℕ → Type 0
SamePart g u v = Way g Any u v

unfoldable pub together : Graph → ℕ → ℕ → Bool
unfolding joined_over
together g u v = joined_over g (λ e. true) u v

-- v is the lowest node of its part: none below it is in it
unfoldable pub lowest : Graph → ℕ → Bool
unfolding every together
lowest g v = every v (λ u. not (together g u v))

-- of the nodes below n, the lowest of each part, by number
unfoldable pub lowests : Graph → ℕ → List ℕ
unfolding lowest
lowests g zero = []
lowests g (suc n) = lowests g n ++ cond (lowest g n) (n ∷ []) []

-- how many of the nodes below n are in u's part
unfoldable pub part_nodes : Graph → ℕ → ℕ → ℕ
unfolding together
part_nodes g n u = sum n (λ v. bit (together g u v))
