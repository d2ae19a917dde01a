-- Sizes of parts: how many of the nodes below N carry a label (`size-two`, `size-merge`). A part of 2 ^ k nodes has k ≤ ⌊log2 N⌋ (`level-one`, `level-two`).
use Rattle.std.specs.Prelude.{ℕ, suc, ◌+◌, ◌^◌, ◌≤◌, ◌<◌, ◌≡◌, ◌≢◌, eqb}
use Rattle.std.proofs.Common.{zero-le, pow-suc, sym, ap, ◌∙◌, pow_mono}
use native.Mathlib.Omega.{arith}
use Rattle.base.specs.Cond.{bit}
use Rattle.base.proofs.laws.Cond.{bit_le, eqb-cases, eqb_same, eqb-diff}
use Rattle.base.specs.Sum.{sum}
use Rattle.base.proofs.laws.Sum.{sum-le, sum-eq, sum-add, sum-const, sum-single}
use Rattle.base.specs.Log.{log2}
use Rattle.base.proofs.laws.Log.{level-le}
use Rattle.graph.specs.Labels.{rename}
use Rattle.graph.proofs.laws.Labels.{rename-elim}

-- the number of nodes below N with label a
unfoldable pub part_size : ℕ → (ℕ → ℕ) → ℕ → ℕ
part_size N fr a = sum N (λ w. bit (eqb (fr w) a))

bit-two : (x a b : ℕ) → a ≢ b → bit (eqb x a) + bit (eqb x b) ≤ 1
bit-two x a b n = eqb-cases x a (λ t. bit t + bit (eqb x b) ≤ 1)
    (λ p. rw (eqb-diff x b (λ q. n (sym p ∙ q))) (omega arith))
    (λ p. omega (arith, bit_le (eqb x b)))

bit-eq : (x a y b : ℕ) → (x ≡ a → y ≡ b) → bit (eqb x a) ≤ bit (eqb y b)
bit-eq x a y b h = eqb-cases x a (λ t. bit t ≤ bit (eqb y b)) (λ p. rw (h p, eqb_same b) (omega arith)) (λ p. zero-le)

module _ (N : ℕ) (fr : ℕ → ℕ) where
  -- two parts have no node in common
  pub size-two : (a b : ℕ) → a ≢ b → part_size N fr a + part_size N fr b ≤ N
  unfolding part_size
  size-two a b n = omega (
    arith,
    sum-add N (λ w. bit (eqb (fr w) a)) (λ w. bit (eqb (fr w) b)),
    sum-le N (λ w. bit (eqb (fr w) a) + bit (eqb (fr w) b)) (λ w. 1) (λ w l. bit-two (fr w) a b n),
    sum-const N 1,
  )

  pub size-le : (a : ℕ) → part_size N fr a ≤ N
  size-le a = let d : a ≢ suc a = λ q. absurd (omega arith) in omega (arith, size-two a (suc a) d)

  -- LEVELS: a part of at least 2 ^ k nodes
  pub level-one : (a k : ℕ) → 2 ^ k ≤ part_size N fr a → k ≤ log2 N
  level-one a k h = level-le k N (omega (arith, size-le a))

  -- two parts: the lower level is below the logarithm
  pub level-two : (a b j k : ℕ) → a ≢ b → 2 ^ j ≤ part_size N fr a → 2 ^ k ≤ part_size N fr b → j ≤ k → suc j ≤ log2 N
  level-two a b j k n ha hb l = level-le (suc j) N (omega (arith, size-two a b n, pow_mono l, pow-suc 2 j))

-- LABELS THAT CHANGE, from fr to fs

module _ (N : ℕ) (fr fs : ℕ → ℕ) where
  -- the nodes of part a are in part b afterwards
  pub size_mono : (a b : ℕ) → ((w : ℕ) → w < N → fr w ≡ a → fs w ≡ b) → part_size N fr a ≤ part_size N fs b
  unfolding part_size
  size_mono a b h = sum-le N (λ w. bit (eqb (fr w) a)) (λ w. bit (eqb (fs w) b)) (λ w l. bit-eq (fr w) a (fs w) b (h w l))

  -- the nodes of two parts are in one part afterwards
  pub size-both : (a b c : ℕ) → a ≢ b → ((w : ℕ) → w < N → fr w ≡ a → fs w ≡ c) → ((w : ℕ) → w < N → fr w ≡ b → fs w ≡ c)
      → part_size N fr a + part_size N fr b ≤ part_size N fs c
  unfolding part_size
  size-both a b c n ha hb = omega (
    arith,
    sum-add N (λ w. bit (eqb (fr w) a)) (λ w. bit (eqb (fr w) b)),
    sum-le N (λ w. bit (eqb (fr w) a) + bit (eqb (fr w) b)) (λ w. bit (eqb (fs w) c)) at,
  )
    where
      at : (w : ℕ) → w < N → bit (eqb (fr w) a) + bit (eqb (fr w) b) ≤ bit (eqb (fs w) c)
      at w l = eqb-cases (fr w) a (λ t. bit t + bit (eqb (fr w) b) ≤ bit (eqb (fs w) c))
          (λ p. rw (eqb-diff (fr w) b (λ q. n (sym p ∙ q)), ha w l p, eqb_same c) (omega arith))
          (λ p. omega (arith, bit-eq (fr w) b (fs w) c (hb w l)))

  -- two parts of level k make one of level k + 1
  pub level-merge : (a b c k : ℕ) → a ≢ b → ((w : ℕ) → w < N → fr w ≡ a → fs w ≡ c) → ((w : ℕ) → w < N → fr w ≡ b → fs w ≡ c)
      → 2 ^ k ≤ part_size N fr a → 2 ^ k ≤ part_size N fr b → 2 ^ suc k ≤ part_size N fs c
  level-merge a b c k n ha hb la lb = omega (arith, size-both a b c n ha hb, pow-suc 2 k)

-- a's part takes b's label
module _ (N : ℕ) (fr : ℕ → ℕ) (a b : ℕ) where
  bit-merge : (x : ℕ) → a ≢ b → bit (eqb (rename a b x) b) ≡ bit (eqb x a) + bit (eqb x b)
  bit-merge x n = rename-elim (λ y. bit (eqb y b) ≡ bit (eqb x a) + bit (eqb x b)) a b x
      (λ p. rw (eqb_same b, p, eqb_same a, eqb-diff a b n))
      (λ p. rw (eqb-diff x a p) (omega arith))

  -- the sizes add up
  pub size-merge : a ≢ b → part_size N (λ w. rename a b (fr w)) b ≡ part_size N fr a + part_size N fr b
  unfolding part_size
  size-merge n = sum-eq N (λ w. bit (eqb (rename a b (fr w)) b)) (λ w. bit (eqb (fr w) a) + bit (eqb (fr w) b)) (λ w l. bit-merge (fr w) n)
      ∙ sum-add N (λ w. bit (eqb (fr w) a)) (λ w. bit (eqb (fr w) b))

-- at the start each node is a part
pub size-start : (N w : ℕ) → w < N → part_size N (λ v. v) w ≡ 1
unfolding part_size
size-start N w l = sum-single N w (λ v. bit (eqb v w)) l (λ k d. rw (eqb-diff k w (λ q. d (sym q)))) ∙ ap bit (eqb_same w)
