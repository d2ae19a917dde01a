-- Laws of sums: order, sums of sums, one entry changed (`sum-change`); places counted: one, two (`sum_one`, `sum-two`), one at the most (`sum-at-most-one`).
use Rattle.std.specs.Prelude.{ℕ, zero, suc, ◌+◌, ◌*◌, ◌≤◌, ◌<◌, ◌≡◌, refl, ◌≢◌, Bool, true, eqb}
use Rattle.std.proofs.Common.{zero-le, not-suc-le-zero, arith, sym, ap, ◌∙◌}
use Rattle.base.specs.Cond.{bit}
use Rattle.base.proofs.laws.Cond.{bool_cases, by-eq, eqb-cases, eqb_same, eqb-diff}
use Rattle.base.specs.Sum.{sum}

pub sum-le : (n : ℕ) (f g : ℕ → ℕ) → ((k : ℕ) → k < n → f k ≤ g k) → sum n f ≤ sum n g
sum-le zero f g h = zero-le
sum-le (suc n) f g h = omega (arith, h n (omega arith), sum-le n f g (λ k l. h k (omega arith)))

-- no term is greater, and the one at v is smaller
pub sum_lt : (n v : ℕ) (f g : ℕ → ℕ) → v < n → ((k : ℕ) → k < n → f k ≤ g k) → f v < g v → sum n f < sum n g
sum_lt zero v f g l h s = absurd (not-suc-le-zero l)
sum_lt (suc n) v f g l h s = by-eq v n
    (λ e. omega (arith, ap f e, ap g e, sum-le n f g (λ k lk. h k (omega arith))))
    (λ ne. omega (arith, h n (omega arith), sum_lt n v f g (omega arith) (λ k lk. h k (omega arith)) s))

pub sum-eq : (n : ℕ) (f g : ℕ → ℕ) → ((k : ℕ) → k < n → f k ≡ g k) → sum n f ≡ sum n g
sum-eq zero f g h = refl
sum-eq (suc n) f g h = omega (arith, h n (omega arith), sum-eq n f g (λ k l. h k (omega arith)))

pub sum-add : (n : ℕ) (f g : ℕ → ℕ) → sum n (λ k. f k + g k) ≡ sum n f + sum n g
sum-add zero f g = refl
sum-add (suc n) f g = omega (arith, sum-add n f g)

pub sum-zero : (n : ℕ) (f : ℕ → ℕ) → ((k : ℕ) → k < n → f k ≡ zero) → sum n f ≡ zero
sum-zero zero f h = refl
sum-zero (suc n) f h = omega (arith, h n (omega arith), sum-zero n f (λ k l. h k (omega arith)))

-- one term changes: f and g agree but at v
pub sum-change : (n v : ℕ) (f g : ℕ → ℕ) → v < n → ((k : ℕ) → v ≢ k → f k ≡ g k) → sum n f + g v ≡ sum n g + f v
sum-change zero v f g l h = absurd (not-suc-le-zero l)
sum-change (suc n) v f g l h =
    by-eq v n
    (λ e. omega (arith, ap f e, ap g e, sum-eq n f g (λ k lk. h k (omega arith))))
    (λ ne. omega (arith, h n ne, sum-change n v f g (omega arith) h))

-- one term of a sum
pub le-sum : (n v : ℕ) (f : ℕ → ℕ) → v < n → f v ≤ sum n f
le-sum zero v f l = absurd (not-suc-le-zero l)
le-sum (suc n) v f l = by-eq v n (λ e. omega (arith, ap f e)) (λ ne. omega (arith, le-sum n v f (omega arith)))

pub sum-const : (n c : ℕ) → sum n (λ k. c) ≡ n * c
sum-const zero c = omega arith
sum-const (suc n) c = omega (arith, sum-const n c)

-- the order of two sums
pub sum-swap : (n m : ℕ) (f : ℕ → ℕ → ℕ) → sum n (λ i. sum m (λ j. f i j)) ≡ sum m (λ j. sum n (λ i. f i j))
sum-swap zero m f = sym (sum-zero m (λ j. zero) (λ k l. refl))
sum-swap (suc n) m f = ap (λ x. sum m (f n) + x) (sum-swap n m f) ∙ sym (sum-add m (f n) (λ j. sum n (λ i. f i j)))

-- a term at one place only
pub sum-single : (n v : ℕ) (f : ℕ → ℕ) → v < n → ((k : ℕ) → v ≢ k → f k ≡ zero) → sum n f ≡ f v
sum-single n v f l h = omega (arith, sum-change n v f (λ k. zero) l h, sum-zero n (λ k. zero) (λ k lk. refl))

-- one place is counted, and two
pub sum_one : (n s : ℕ) → s < n → sum n (λ k. bit (eqb s k)) ≡ 1
sum_one n s l = sum-single n s (λ k. bit (eqb s k)) l (λ k d. rw (eqb-diff s k d)) ∙ rw (eqb_same s)

pub sum-two : (n s v : ℕ) (f : ℕ → ℕ) → s < n → v < n → s ≢ v → f s ≡ 1 → f v ≡ 1 → 2 ≤ sum n f
sum-two n s v f ls lv d es ev =
    omega (arith, sum_one n s ls, sum_one n v lv, sum-add n (λ k. bit (eqb s k)) (λ k. bit (eqb v k)), sum-le n (λ k. bit (eqb s k) + bit (eqb v k)) f (λ k l. at k))
  where
    at : (k : ℕ) → bit (eqb s k) + bit (eqb v k) ≤ f k
    at k = eqb-cases s k (λ b. bit b + bit (eqb v k) ≤ f k)
        (λ q. rw (eqb-diff v k (λ r. d (q ∙ sym r))) (omega (arith, ap f q)))
        (λ q. eqb-cases v k (λ b. 0 + bit b ≤ f k) (λ r. omega (arith, ap f r)) (λ r. omega arith))

-- no two places pass: one at the most is counted
pub sum-at-most-one : (n : ℕ) (f : ℕ → Bool) → ((j k : ℕ) → j < n → k < n → f j ≡ true → f k ≡ true → j ≡ k) → sum n (λ k. bit (f k)) ≤ 1
sum-at-most-one zero f h = omega arith
sum-at-most-one (suc n) f h = bool_cases (f n)
    (λ e. rw e (omega (arith, sum-zero n (λ k. bit (f k)) (λ k l. bool_cases (f k) (λ g. absurd (omega (arith, h k n (omega arith) (omega arith) g e))) (λ g. rw g)))))
    (λ e. rw e (omega (arith, sum-at-most-one n f (λ j k lj lk. h j k (omega arith) (omega arith)))))
