-- A number has at most 20 digits (`decimal-length`) and is what the fewest digits spell (`decimal-digits`).
use Rattle.std.specs.Prelude.{ℕ, zero, suc, ◌-◌, ◌/◌, ◌%◌, ◌^◌, ◌≤◌, ◌<◌, ◌≡◌, refl, cond, [], ◌∷◌, ◌++◌, length}
use Rattle.std.proofs.Common.{arith, pow-suc, mod-lt, mod-eq_of_lt, div-lt_iff_lt-mul, le-div_iff_mul-le, length-append, lt-ltb, le-ltb}
use Rattle.std.proofs.Math.Decide.{dec_le}
use Rattle.std.proofs.Math.Nat.{pow-le-pow_right}
use Rattle.std.proofs.Math.Logic.{by_cases}
use Rattle.base.proofs.laws.Cond.{ltb-cases}
use Rattle.io.specs.Digits.{last_digits, IsDigitCount}
use Rattle.format_text.specs.Ascii.{ascii}
use Rattle.format_text.specs.Decimal.{digit, decimal-to, decimal}

decimal-samples : decimal 0 ++ decimal 10 ++ decimal 18446744073709551615 ≡ ascii "01018446744073709551615"
unfolding decimal
decimal-samples = refl

to-length : (k n : ℕ) → length (decimal-to k n) ≤ k
unfolding decimal-to
to-length zero n = omega arith
to-length (suc k) n = ltb-cases n 10 (λ b. length (cond b (digit n ∷ []) (decimal-to k (n / 10) ++ (digit (n % 10) ∷ []))) ≤ suc k)
    (λ l. omega arith) (λ l. rw (length-append (decimal-to k (n / 10)) (digit (n % 10) ∷ [])) (omega (arith, to-length k (n / 10))))

pub decimal-length : (n : ℕ) → length (decimal n) ≤ 20
unfolding decimal
decimal-length n = to-length 20 n

-- the fewest digits of io are these
to-digits : (r k n : ℕ) → r ≤ k → IsDigitCount 10 1 n r → last_digits 10 r n ≡ decimal-to k n
unfolding decimal-to
to-digits zero k n l f = absurd (omega (arith, f.0))
to-digits (suc r) zero n l f = absurd (omega arith)
to-digits (suc zero) (suc k) n l f =
    let s : n < 10 = f.1 in
    simp (lt-ltb n 10 s, mod-eq_of_lt s)
to-digits (suc (suc r)) (suc k) n l f =
    let same : suc (suc r) - 1 ≡ suc r = omega arith in
    let low : 10 ^ suc r ≤ n = rw same at (f.2 (omega arith)) in
    let least : 10 ^ 1 ≤ 10 ^ suc r = pow-le-pow_right {n = 10} (omega arith) {i = 1} {j = suc r} (omega arith) in
    let ten : 10 ≤ n = omega arith in
    let high : n / 10 < 10 ^ suc r = (div-lt_iff_lt-mul {k = 10} (omega arith)).1 (omega (arith, f.1, pow-suc 10 (suc r))) in
    let rest : 1 < suc r → 10 ^ r ≤ n / 10 = λ _. (le-div_iff_mul-le {k = 10} (omega arith)).1 (omega (arith, pow-suc 10 r)) in
    let tail : suc r - 1 ≡ r = omega arith in
    rw (le-ltb n 10 ten, lt-ltb (n % 10) 10 (mod-lt n (omega arith)), to-digits (suc r) k (n / 10) (omega arith) (omega arith, high, λ h. rw tail (rest h))) refl

few : (r n : ℕ) → n < 10 ^ 20 → IsDigitCount 10 1 n r → r ≤ 20
few r n l f = by_cases (dec_le r 20) (λ y. y)
    (λ o. let more : 20 ≤ r - 1 = omega arith in
    absurd (omega (arith, f.2 (omega arith), pow-le-pow_right {n = 10} (omega arith) {i = 20} {j = r - 1} more)))

pub decimal-digits : (r n : ℕ) → n < 10 ^ 20 → IsDigitCount 10 1 n r → last_digits 10 r n ≡ decimal n
unfolding decimal
decimal-digits r n l f = to-digits r 20 n (few r n l f) f
