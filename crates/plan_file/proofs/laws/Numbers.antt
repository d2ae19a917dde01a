-- Integers and their bytes determine each other (`number-of`, `bytes-of`).
use Rattle.std.specs.Prelude.{ℕ, zero, suc, ◌+◌, ◌*◌, ◌/◌, ◌%◌, ◌<◌, ◌≡◌, refl, List, [], ◌∷◌, length, get_or}
use Rattle.std.proofs.Common.{arith, not-suc-le-zero, ap, ◌∙◌}
use Rattle.base.specs.Pool.{All, nil, con}
use Rattle.base.specs.Limits.{AllBytes}
use Rattle.base.specs.Table.{tabulate}
use Rattle.base.proofs.laws.Table.{tabulate-ext}
use Rattle.format_int16.specs.Int16.{at16}
use Rattle.format_int16.proofs.laws.Int16.{bytes-join, high_byte, low_byte}
use Rattle.plan_file.specs.Layout.{bytes_of, number_at}

-- each is a byte: said of the list, and by place
pub all-bytes : (s : List ℕ) → All (λ b. b < 256) s → AllBytes s
all-bytes [] nil i = omega arith
all-bytes (x ∷ s) (con l h) zero = omega arith
all-bytes (x ∷ s) (con l h) (suc i) = all-bytes s h i

-- the next integer, two bytes on
number-next : (b x y : ℕ) (s : List ℕ) (i : ℕ) → number_at (b ∷ x ∷ y ∷ s) (suc i) ≡ number_at (y ∷ s) i
number-next b x y s i = ap (at16 (b ∷ x ∷ y ∷ s)) (let e : 1 + 2 * suc i ≡ suc (suc (1 + 2 * i)) = omega arith in e)
    ∙ ap (λ n. get_or (y ∷ s) (1 + 2 * i) 0 * 256 + get_or (b ∷ x ∷ y ∷ s) n 0) (let e : suc (suc (1 + 2 * i)) + 1 ≡ suc (suc (1 + 2 * i + 1)) = omega arith in e)

-- integers, from their bytes
pub number-of : (b : ℕ) (xs : List ℕ) (i : ℕ) → i < length xs → number_at (b ∷ bytes_of xs) i ≡ get_or xs i 0
unfolding bytes_of
number-of b [] i l = absurd (not-suc-le-zero l)
number-of b (x ∷ xs) zero l = bytes-join x
number-of b (x ∷ xs) (suc i) l = number-next b (x / 256) (x % 256) (bytes_of xs) i ∙ number-of (x % 256) xs i (omega arith)

-- bytes, from their integers
pub bytes-numbers : (b : ℕ) (s : List ℕ) (n : ℕ) → length s ≡ 2 * n → AllBytes s → bytes_of (tabulate n (number_at (b ∷ s))) ≡ s
unfolding bytes_of tabulate
bytes-numbers b [] zero e h = refl
bytes-numbers b (x ∷ s) zero e h = absurd (omega arith)
bytes-numbers b [] (suc n) e h = absurd (omega arith)
bytes-numbers b (x ∷ []) (suc n) e h = absurd (omega arith)
bytes-numbers b (x ∷ y ∷ s) (suc n) e h =
    let q : y < 256 = omega (arith, h 1) in
    rw (high_byte x y q, low_byte x y q, tabulate-ext n (λ i. number_at (b ∷ x ∷ y ∷ s) (suc i)) (number_at (y ∷ s)) (λ i l. number-next b x y s i), bytes-numbers y s n (omega arith) (λ i. h (suc (suc i))))

pub bytes-of : (xs : List ℕ) → All (λ x. x < 65536) xs → All (λ b. b < 256) (bytes_of xs)
unfolding bytes_of
bytes-of [] nil = nil
bytes-of (x ∷ xs) (con l h) = con {x = x / 256} (omega arith) (con {x = x % 256} (omega arith) (bytes-of xs h))

-- numbers by a rule
pub All-tabulate : {P : ℕ → Type 0} (n : ℕ) (f : ℕ → ℕ) → ((i : ℕ) → i < n → P (f i)) → All P (tabulate n f)
unfolding tabulate
All-tabulate zero f h = nil
All-tabulate (suc n) f h = con (h zero (omega arith)) (All-tabulate n (λ i. f (suc i)) (λ i l. h (suc i) (omega arith)))
