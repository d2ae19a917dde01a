-- `log2 n` is the place of the highest digit of n (`log2-is`), and what leading zeros leave (`leading`).
use Rattle.std.specs.Prelude.{ℕ, zero, suc, ◌-◌, ◌^◌, ◌≤◌, ◌<◌, ◌≡◌, ◌≢◌, cond}
use Rattle.std.proofs.Common.{arith, pow-suc, pow_mono}
use Rattle.std.proofs.Math.Decide.{dec_le}
use Rattle.std.proofs.Math.Logic.{by_cases}
use Rattle.std.specs.Int.Count.{count_leading_zeros}
use Rattle.std.proofs.lemmas.Nat.{leading_top}
use Rattle.base.proofs.laws.Cond.{ltb-cases}
use Rattle.base.specs.Log.{log2-to, log2}

pub lt-pow : (n : ℕ) → n < 2 ^ n
lt-pow zero = omega arith
lt-pow (suc n) = omega (arith, lt-pow n, pow-suc 2 n)

log2-to-low : (k n : ℕ) → 1 ≤ n → 2 ^ log2-to k n ≤ n
unfolding log2-to
log2-to-low zero n h = h
log2-to-low (suc k) n h = ltb-cases n (2 ^ suc k) (λ b. 2 ^ cond b (log2-to k n) (suc k) ≤ n) (λ l. log2-to-low k n h) (λ l. l)

log2-to-high : (k n : ℕ) → n < 2 ^ suc k → n < 2 ^ suc (log2-to k n)
unfolding log2-to
log2-to-high zero n h = h
log2-to-high (suc k) n h = ltb-cases n (2 ^ suc k) (λ b. n < 2 ^ suc (cond b (log2-to k n) (suc k))) (λ l. log2-to-high k n l) (λ l. h)

pub log2-low : (n : ℕ) → 1 ≤ n → 2 ^ log2 n ≤ n
unfolding log2
log2-low n h = log2-to-low n n h

pub log2-high : (n : ℕ) → n < 2 ^ suc (log2 n)
unfolding log2
log2-high n = log2-to-high n n (omega (arith, lt-pow n, pow-suc 2 n))

-- a level k of at least 2 ^ k members
pub level-le : (k n : ℕ) → 2 ^ k ≤ n → k ≤ log2 n
level-le k n h = by_cases (dec_le k (log2 n)) (λ l. l)
    (λ f. absurd (let l : suc (log2 n) ≤ k = omega arith in omega (arith, pow_mono l, log2-high n)))

-- fewer members have a lower level
pub log2-lt : (k n : ℕ) → 1 ≤ k → n < 2 ^ k → log2 n < k
unfolding log2
log2-lt k zero h l = h
log2-lt k (suc n) h l = by_cases (dec_le k (log2 (suc n))) (λ g. absurd (omega (arith, pow_mono g, log2-low (suc n) (omega arith)))) (λ f. omega arith)

-- the place of the highest digit
pub log2-is : (j n : ℕ) → 2 ^ j ≤ n → n < 2 ^ suc j → log2 n ≡ j
log2-is j n l h = omega (arith, level-le j n l, log2-lt (suc j) n (omega arith) h)

-- of 32 digits: what the zeros above the highest leave of 31
pub leading : (n : ℕ) → n ≢ 0 → n < 2 ^ 32 → (count_leading_zeros 32 n ≤ 31) × (31 - count_leading_zeros 32 n ≡ log2 n)
leading n d h =
    let t = leading_top 32 n (omega arith) h in
    let e : log2 n ≡ t.0 = log2-is t.0 n t.2 t.3 in
    (omega (arith, t.1), omega (arith, t.1))
