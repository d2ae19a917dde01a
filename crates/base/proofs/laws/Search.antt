-- Bounded search over ℕ for what is decided (`least`, `best`; induction `strong`, `by-measure`): there is no excluded middle, so each case split comes
-- from one of these.
use Rattle.std.specs.Prelude.{ℕ, zero, suc, ◌≤◌, ◌<◌, ◌≡◌, refl, ◌⊎◌}
use Rattle.std.proofs.Common.{arith, not-suc-le-zero, sym, ap, subst, inl, inr}
use Rattle.std.proofs.Math.Decide.{dec_le}
use Rattle.base.proofs.laws.Cond.{by-eq}

pub lt-suc-cases {κ} : {C : Type κ} (k n : ℕ) → k < suc n → (k ≡ n → C) → (k < n → C) → C
lt-suc-cases k n l y f = by-eq k n y (λ d. f (omega arith))

-- the least k < n with P, or none has P
pub record Least (P : ℕ → Type 0) (n : ℕ) : Type 0 where
  pub at : ℕ
  pub below : at < n
  pub holds : P at
  pub first : (j : ℕ) → j < at → ¬ P j

module _ (P : ℕ → Type 0) (dec : (k : ℕ) → Dec (P k)) where
  pub least : (n : ℕ) → ((k : ℕ) → k < n → ¬ P k) ⊎ Least P n
  least zero = inl (λ k l. absurd (not-suc-le-zero l))
  least (suc n) = go (least n) (dec n)
    where
      go : ((k : ℕ) → k < n → ¬ P k) ⊎ Least P n → Dec (P n) → ((k : ℕ) → k < suc n → ¬ P k) ⊎ Least P (suc n)
      go (inr m) d = inr (record { at = m.at; below = omega (arith, m.below); holds = m.holds; first = m.first })
      go (inl f) (yes p) = inr (record { at = n; below = omega arith; holds = p; first = f })
      go (inl f) (no np) = inl (λ k l. lt-suc-cases k n l (λ e p. np (subst P e p)) (λ lt. f k lt))

  -- one of least rank among the k < n with P
  pub record Best (rank : ℕ → ℕ) (n : ℕ) : Type 0 where
    pub pick : ℕ
    pub in-range : pick < n
    pub has : P pick
    pub no-better : (j : ℕ) → j < n → P j → rank pick ≤ rank j

  pub best : (rank : ℕ → ℕ) (n : ℕ) → ((k : ℕ) → k < n → ¬ P k) ⊎ Best rank n
  best rank zero = inl (λ k l. absurd (not-suc-le-zero l))
  best rank (suc n) = go (best rank n) (dec n)
    where
      keep : (b : Best rank n) → (P n → rank (b.pick) ≤ rank n) → Best rank (suc n)
      keep b h = record {
        pick = b.pick;
        in-range = omega (arith, b.in-range);
        has = b.has;
        no-better = λ j l p. lt-suc-cases j n l (λ e. subst (λ x. rank (b.pick) ≤ rank x) (sym e) (h (subst P e p))) (λ lt. b.no-better j lt p);
      }

      swap : (b : Best rank n) → P n → rank n ≤ rank (b.pick) → Best rank (suc n)
      swap b p h = record {
        pick = n;
        in-range = omega arith;
        has = p;
        no-better = λ j l q. lt-suc-cases j n l (λ e. omega (arith, ap rank e)) (λ lt. omega (arith, b.no-better j lt q));
      }

      pick-of : (b : Best rank n) → P n → Dec (rank (b.pick) ≤ rank n) → Best rank (suc n)
      pick-of b p (yes h) = keep b (λ q. h)
      pick-of b p (no h) = swap b p (omega arith)

      go : ((k : ℕ) → k < n → ¬ P k) ⊎ Best rank n → Dec (P n) → ((k : ℕ) → k < suc n → ¬ P k) ⊎ Best rank (suc n)
      go (inr b) (no np) = inr (keep b (λ p. absurd (np p)))
      go (inr b) (yes p) = inr (pick-of b p (dec_le (rank (b.pick)) (rank n)))
      go (inl f) (yes p) = inr (record {
        pick = n;
        in-range = omega arith;
        has = p;
        no-better = λ j l q. lt-suc-cases j n l (λ e. omega (arith, ap rank e)) (λ lt. absurd (f j lt q));
      })
      go (inl f) (no np) = inl (λ k l. lt-suc-cases k n l (λ e p. np (subst P e p)) (λ lt. f k lt))

-- strong induction
pub strong {κ} : (P : ℕ → Type κ) → ((n : ℕ) → ((m : ℕ) → m < n → P m) → P n) → (n : ℕ) → P n
strong P step n = below (suc n) n (omega arith)
  where
    below : (b k : ℕ) → k < b → P k
    below zero k l = absurd (not-suc-le-zero l)
    below (suc b) k l = step k (λ m h. below b m (omega arith))

-- by a measure
pub by-measure {ℓ κ} : {A : Type ℓ} (P : A → Type κ) (size : A → ℕ) → ((a : A) → ((b : A) → size b < size a → P b) → P a) → (a : A) → P a
by-measure {A} P size step a = strong (λ n. (x : A) → size x ≡ n → P x) (λ n ih x e. step x (λ y h. ih (size y) (omega arith) y refl)) (size a) a refl
