-- How many own edges pass a test: as a sum (`number-sum`), as the messages on each of them (`each_number`), beside those that pass another test
-- (`number-apart`), at least one (`number-some`).
use Prim.Native.Nat.{ℕ, zero, suc, ◌+◌, ◌≤◌, ◌<◌}
use Rattle.std.proofs.Common.{arith, ap, ◌∙◌, append-nil}
use Rattle.std.specs.Prelude.{◌≡◌, Bool, true, false, ◌&&◌, [], ◌∷◌}
use Rattle.std.proofs.Math.Path.{refl}
use Rattle.std.proofs.Math.ListN.{length, length-append}
use Rattle.base.specs.Cond.{bit}
use Rattle.base.proofs.laws.Cond.{bool_cases, bit_le}
use Rattle.base.specs.Sum.{sum}
use Rattle.base.proofs.laws.Sum.{le-sum}
use Rattle.format_message.specs.Msg.{Msg}
use Rattle.node.specs.Work.{Own, number, on_each}

module _ (o : Own) (f : ℕ → Bool) where
  pub number-sum : (n : ℕ) → number o f n ≡ sum n (λ k. bit (o.own k && f k))
  unfolding number
  number-sum zero = refl
  number-sum (suc n) = omega (arith, number-sum n)

  pub each_number : (m : Msg) (n : ℕ) → length (on_each o f m n) ≡ number o f n
  unfolding on_each number
  each_number m zero = refl
  each_number m (suc n) = bool_cases (o.own n && f n)
      (λ h. rw h (omega (arith, each_number m n, length-append (on_each o f m n) (record { edge = n; msg = m } ∷ []))))
      (λ h. rw h (ap length (append-nil (on_each o f m n)) ∙ omega (arith, each_number m n)))

  pub number-some : (n k : ℕ) → k < n → o.own k ≡ true → f k ≡ true → 1 ≤ number o f n
  number-some n k l a b =
      let one : bit (o.own k && f k) ≡ 1 = rw (a, b) in
      omega (arith, number-sum n, le-sum n k (λ i. bit (o.own i && f i)) l)

-- tests that no edge passes both
pub number-apart : (o : Own) (f g : ℕ → Bool) → ((k : ℕ) → f k ≡ true → g k ≡ false) → (n : ℕ) → number o f n + number o g n ≤ number o (λ k. true) n
unfolding number
number-apart o f g h zero = omega arith
number-apart o f g h (suc n) = omega (arith, number-apart o f g h n, at (o.own n))
  where
    at : (t : Bool) → bit (t && f n) + bit (t && g n) ≤ bit (t && true)
    at true = bool_cases (f n) (λ e. rw (e, h n e) (omega arith)) (λ e. rw e (omega (arith, bit_le (g n))))
    at false = omega arith
