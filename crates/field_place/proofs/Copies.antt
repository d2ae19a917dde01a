-- The copies of a message, link by link (`each_on`, `each-off`, `each-short`).
use Prim.Native.Nat.{ℕ, zero, suc, ◌+◌, ◌≤◌}
use native.Mathlib.Omega.{arith}
use native.Mathlib.Numerals.{add-one}
use mathlib.Core.Path.{◌≡◌}
use mathlib.Core.Bool.{Bool, true, false, ◌&&◌}
use mathlib.Core.List.{[], ◌∷◌, ◌++◌, append-nil}
use lib.ListN.{length}
use Rattle.base.proofs.laws.Cond.{by-eq}
use Rattle.format_message.specs.Msg.{Msg}
use Rattle.node.specs.Work.{Own, on_each, number}
use Rattle.node.proofs.laws.Count.{each_number}

zero_of : (k : ℕ) → k ≤ 0 → k ≡ 0
zero_of k h = omega arith

module _ (o : Own) (f : ℕ → Bool) (m : Msg) where
  -- one link more
  pub each_on : (k : ℕ) → (o.own k && f k) ≡ true → on_each o f m (k + 1) ≡ on_each o f m k ++ (record { edge = k; msg = m } ∷ [])
  unfolding on_each
  each_on k h = rw (add-one k, h)

  pub each-off : (k : ℕ) → (o.own k && f k) ≡ false → on_each o f m (k + 1) ≡ on_each o f m k
  unfolding on_each
  each-off k h = rw (add-one k, h) (append-nil (on_each o f m k))

  mono : (k n : ℕ) → k ≤ n → number o f k ≤ number o f n
  unfolding number
  mono k zero h = rw (zero_of k h) (omega arith)
  mono k (suc n) h = by-eq k (suc n) (λ e. rw e (omega arith)) (λ d. omega (arith, mono k n (omega arith)))

  pub each-short : (k n : ℕ) → k ≤ n → length (on_each o f m k) ≤ length (on_each o f m n)
  each-short k n h = omega (arith, each_number o f m k, each_number o f m n, mono k n h)
