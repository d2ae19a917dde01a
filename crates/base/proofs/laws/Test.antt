-- `every` holds exactly if all pass (`every-all`, `all-every`); the answer of a decision as a test, and back (`decides`, `dec-test`).
use Prim.Native.Nat.{ℕ, zero, suc, ◌-◌, ◌≤◌, ◌<◌}
use native.Mathlib.Omega.{arith}
use Rattle.std.proofs.Common.{not-suc-le-zero, sym, ◌∙◌, true≢false}
use Rattle.std.specs.Prelude.{◌≡◌, refl, Bool, true, false}
use Rattle.std.proofs.Math.Path.{ap}
use Rattle.base.proofs.laws.Cond.{bool_cases}
use Rattle.base.proofs.laws.Search.{lt-suc-cases}
use Rattle.base.specs.Test.{every}

pub every-all : (n : ℕ) (p : ℕ → Bool) → every n p ≡ true → (k : ℕ) → k < n → p k ≡ true
unfolding every
every-all zero p h k l = absurd (not-suc-le-zero l)
every-all (suc n) p h k l = bool_cases (p n)
    (λ y. lt-suc-cases k n l (λ e. rw e y) (λ lt. every-all n p (rw y at h) k lt))
    (λ f. absurd (true≢false (sym h ∙ rw f)))

pub all-every : (n : ℕ) (p : ℕ → Bool) → ((k : ℕ) → k < n → p k ≡ true) → every n p ≡ true
unfolding every
all-every zero p h = refl
all-every (suc n) p h = rw (h n (omega arith)) (all-every n p (λ k l. h k (omega arith)))

pub every-ext : (n : ℕ) (p q : ℕ → Bool) → ((k : ℕ) → k < n → p k ≡ q k) → every n p ≡ every n q
unfolding every
every-ext zero p q h = refl
every-ext (suc n) p q h = rw (h n (omega arith), every-ext n p q (λ k l. h k (omega arith)))

-- as a loop tests, from the last down
module _ (p : ℕ → Bool) (v : ℕ) (l : 0 < v) where
  pub every-goes-on : p (v - 1) ≡ true → every v p ≡ every (v - 1) p
  unfolding every
  every-goes-on e = (let s : v ≡ suc (v - 1) = omega arith in ap (λ n. every n p) s) ∙ rw e

  pub every-stops : p (v - 1) ≡ false → every v p ≡ false
  unfolding every
  every-stops e = (let s : v ≡ suc (v - 1) = omega arith in ap (λ n. every n p) s) ∙ rw e

pub every-of-none : (p : ℕ → Bool) (v : ℕ) → v ≤ 0 → every v p ≡ true
unfolding every
every-of-none p zero l = refl
every-of-none p (suc v) l = absurd (omega arith)

-- the answer of a decision
unfoldable pub decides : {A : Type 0} → Dec A → Bool
decides (yes a) = true
decides (no n) = false

pub decided-yes : {A : Type 0} (d : Dec A) → decides d ≡ true → A
unfolding decides
decided-yes (yes a) e = a
decided-yes (no n) e = absurd (true≢false (sym e))

pub yes-decided : {A : Type 0} (d : Dec A) → A → decides d ≡ true
unfolding decides
yes-decided (yes a) x = refl
yes-decided (no n) x = absurd (n x)

-- a test that is right both ways decides
unfoldable pub dec-test : {A : Type 0} (b : Bool) → (b ≡ true → A) → (A → b ≡ true) → Dec A
dec-test true f h = yes (f refl)
dec-test false f h = no (λ a. true≢false (sym (h a)))
