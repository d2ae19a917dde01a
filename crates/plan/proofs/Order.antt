-- The order of the links, as it is tested: of cost, sum and number in a row the first that differs decides (`row-earlier`).
use Rattle.std.specs.Prelude.{ℕ, ◌≡◌, Some, Bool}
use Rattle.std.specs.Ordering.{nat_cmp, partial_lt, partial_ordering_then}
use Rattle.std.proofs.Common.{arith}
use Rattle.std.proofs.lemmas.Bool.Decides.{nat_tests}
use Rattle.plan.specs.Links.{Plan}
use Rattle.plan.specs.Weights.{cost, reading_sum, earlier}

-- `<` of three numbers in a row
abbrev row_lt : ℕ × ℕ × ℕ → ℕ × ℕ × ℕ → Bool
row_lt =
    partial_lt (λ (x y : ℕ × ℕ × ℕ). partial_ordering_then (partial_ordering_then (Some (nat_cmp x.0 y.0)) (Some (nat_cmp x.1 y.1))) (Some (nat_cmp x.2 y.2)))

pub row-earlier : (plan : Plan) (a b x y s t : ℕ) → x ≡ cost plan a → y ≡ cost plan b → s ≡ reading_sum plan a → t ≡ reading_sum plan b
    → row_lt (x, s, a) (y, t, b) ≡ earlier plan a b
unfolding earlier
row-earlier plan a b x y s t p q m n = rw (p, q, m, n) (grind (arith, nat_tests))
