-- Counting by a map: each counted j is the image of some w, so the sum over the w is no less (`sum-map`).
use Rattle.std.specs.Prelude.{ℕ, zero, suc, ◌*◌, ◌≤◌, ◌<◌, ◌≡◌, refl, ◌≢◌, eqb}
use Rattle.std.proofs.Common.{zero-le, arith, sym, ap, ◌∙◌}
use Rattle.base.specs.Cond.{bit}
use Rattle.base.proofs.laws.Cond.{by-eq, eqb_same, eqb-diff}
use Rattle.base.specs.Sum.{sum}
use Rattle.base.proofs.laws.Sum.{sum-le, sum-swap, le-sum}

pub sum-times : (n c : ℕ) (f : ℕ → ℕ) → sum n (λ w. c * f w) ≡ c * sum n f
sum-times zero c f = omega arith
sum-times (suc n) c f = omega (arith, sum-times n c f)

-- of all j only a counts
once : (f : ℕ → ℕ) (a n : ℕ) → sum n (λ j. f j * bit (eqb a j)) ≤ f a
once f a n = omega (arith, both n)
  where
    -- and not before it was met
    before : (n : ℕ) → n ≤ a → sum n (λ j. f j * bit (eqb a j)) ≡ 0
    before zero l = refl
    before (suc n) l = let e : bit (eqb a n) ≡ 0 = ap bit (eqb-diff a n (λ q. absurd (omega arith))) in
        omega (arith, before n (omega arith), ap (λ x. f n * x) e)

    both : (n : ℕ) → sum n (λ j. f j * bit (eqb a j)) ≤ f a
    both zero = zero-le
    both (suc n) = by-eq a n
        (λ q. let e : bit (eqb a n) ≡ 1 = ap (λ x. bit (eqb a x)) (sym q) ∙ ap bit (eqb_same a) in
        omega (arith, before n (omega arith), ap (λ x. f n * x) e, ap f q))
        (λ d. let e : bit (eqb a n) ≡ 0 = ap bit (eqb-diff a n d) in omega (arith, both n, ap (λ x. f n * x) e))

pub sum-map : (n m : ℕ) (f t : ℕ → ℕ) → ((j : ℕ) → j < n → f j ≢ 0 → (w : ℕ) × (w < m) × (t w ≡ j)) → sum n f ≤ sum m (λ w. f (t w))
sum-map n m f t hit = omega (
  arith,
  sum-le n f (λ j. sum m (λ w. f j * bit (eqb (t w) j))) each,
  sum-swap n m (λ j w. f j * bit (eqb (t w) j)),
  sum-le m (λ w. sum n (λ j. f j * bit (eqb (t w) j))) (λ w. f (t w)) (λ w l. once f (t w) n),
)
  where
    each : (j : ℕ) → j < n → f j ≤ sum m (λ w. f j * bit (eqb (t w) j))
    each j l = by-eq (f j) 0 (λ z. omega (arith, z))
        (λ d. let w = hit j l d in
        let e : bit (eqb (t w.0) j) ≡ 1 = ap (λ x. bit (eqb x j)) w.2 ∙ ap bit (eqb_same j) in
        omega (arith, le-sum m w.0 (λ w. f j * bit (eqb (t w) j)) w.1, ap (λ x. f j * x) e))
