-- What is known of the ceiling: what the budget pays for is within it (`within-ceiling`), and it fits its integers (`first-term-fits`,
-- `ceiling-most`). Code, protocol and field cite these laws and do not open the formula.
use Rattle.std.specs.Prelude.{ℕ, ◌+◌, ◌*◌, ◌^◌, ◌≤◌, ◌<◌, ◌≡◌}
use Rattle.std.proofs.Common.{arith, mul-le-mul}
use Rattle.std.proofs.Math.Decide.{dec_le}
use Rattle.std.proofs.Math.Logic.{by_cases}
use Rattle.base.specs.Log.{log2}
use Rattle.base.proofs.laws.Log.{log2-lt}
use Rattle.base.specs.Limits.{max_modules, max_links, max_words}
use Rattle.base.specs.Ceiling.{first_term, ceiling}

-- what the protocol's budget leaves is within it
pub within-ceiling : (n l : ℕ) {sent : ℕ} → (2 ≤ n → sent + 2 * n ≤ n * (5 * log2 n) + 2 * l) → (n ≤ 1 → sent ≡ 0) → sent ≤ ceiling n l
within-ceiling n l many few = by_cases (dec_le 2 n) (λ h. omega (arith, many h, mul n (log2 n))) (λ f. omega (arith, few (omega arith)))
  where
    mul : (a b : ℕ) → a * (5 * b) ≡ 5 * a * b
    mul a b = omega arith

-- of 16 bits
pub first-term-fits : (n : ℕ) → n < 2 ^ 16 → first_term n ≤ 4915125
first-term-fits n h =
    let first : 5 * n ≤ 327675 = omega arith in
    let level : log2 n ≤ 15 = omega (arith, log2-lt 16 n (omega arith) h) in
    mul-le-mul first level

-- of the largest plan: 192 nodes, 600 edges
pub ceiling-most : (n l : ℕ) → n ≤ max_modules → l ≤ max_links → ceiling n l ≤ max_words
ceiling-most n l few short =
    let first : 5 * n ≤ 960 = omega arith in
    let level : log2 n ≤ 7 = omega (arith, log2-lt 8 n (omega arith) (omega arith)) in
    omega (arith, mul-le-mul first level)
