-- The largest number that passes a test: one that passes, with none that does above it, is it (`largest-is`), and where none passes it is none
-- (`largest-none`); and it is one of these (`largest`).
use Prim.Native.Nat.{ℕ, zero, suc, ◌<◌}
use Rattle.std.proofs.Common.{arith, sym, ap, subst, ◌∙◌, inl, inr}
use Rattle.std.specs.Prelude.{◌≡◌, ◌⊎◌, Bool, true, false}
use Rattle.std.proofs.Math.Path.{refl}
use Rattle.base.specs.None.{none}
use Rattle.base.specs.Largest.{largest_below}
use Rattle.base.proofs.laws.Cond.{bool_cases}
use Rattle.base.proofs.laws.Search.{lt-suc-cases}

-- m passes, and none above it
pub record Largest (n : ℕ) (q : ℕ → Bool) (m : ℕ) : Type 0 where
  pub below : m < n
  pub passes : q m ≡ true
  pub top : (i : ℕ) → m < i → i < n → q i ≡ false

abbrev pub NonePasses : ℕ → (ℕ → Bool) → Type 0
NonePasses n q = (i : ℕ) → i < n → q i ≡ false

module _ (q : ℕ → Bool) where
  pub largest-is : (n m : ℕ) → Largest n q m → largest_below n q ≡ m
  unfolding largest_below
  largest-is zero m a = absurd (omega (arith, a.below))
  largest-is (suc n) m a = lt-suc-cases m n a.below
      (λ e. rw (ap q (sym e) ∙ a.passes) (sym e))
      (λ l. rw (a.top n l (omega arith)) (largest-is n m (record { below = l; passes = a.passes; top = λ i h b. a.top i h (omega arith) })))

  pub largest-none : (n : ℕ) → NonePasses n q → largest_below n q ≡ none
  unfolding largest_below
  largest-none zero fails = refl
  largest-none (suc n) fails = rw (fails n (omega arith)) (largest-none n (λ i l. fails i (omega (arith, l))))

  -- there is one, or there is none
  some_or_none : (n : ℕ) → ((m : ℕ) × Largest n q m) ⊎ NonePasses n q
  some_or_none zero = inr (λ i l. absurd (omega arith))
  some_or_none (suc n) = bool_cases (q n)
      (λ t. inl (n, record { below = omega arith; passes = t; top = λ i h b. absurd (omega arith) }))
      (λ f. further f (some_or_none n))
    where
      at_most : {i : ℕ} → q n ≡ false → i < suc n → (i < n → q i ≡ false) → q i ≡ false
      at_most {i} f b h = lt-suc-cases i n b (λ e. ap q e ∙ f) h

      further : q n ≡ false → ((m : ℕ) × Largest n q m) ⊎ NonePasses n q → ((m : ℕ) × Largest (suc n) q m) ⊎ NonePasses (suc n) q
      further f (inl a) = inl (a.0, record { below = omega (arith, a.1.below); passes = a.1.passes; top = λ i h b. at_most f b (a.1.top i h) })
      further f (inr a) = inr (λ i b. at_most f b (a i))

  pub largest : (n : ℕ) → Largest n q (largest_below n q) ⊎ (NonePasses n q × (largest_below n q ≡ none))
  largest n = told (some_or_none n)
    where
      told : ((m : ℕ) × Largest n q m) ⊎ NonePasses n q → Largest n q (largest_below n q) ⊎ (NonePasses n q × (largest_below n q ≡ none))
      told (inl a) = inl (subst (Largest n q) (sym (largest-is n a.0 a.1)) a.1)
      told (inr a) = inr (a, largest-none n a)
