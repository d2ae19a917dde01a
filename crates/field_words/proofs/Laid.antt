-- Laws of lent words in which words wait: one more (`put-law`), one less (`leave-law`), one moved to the end (`left_end`).
use Prim.Native.Nat.{ℕ, zero, suc, ◌+◌, ◌-◌, ◌≤◌, ◌<◌}
use native.Mathlib.Omega.{arith}
use native.Mathlib.Nat.{sub-zero}
use native.Mathlib.Numerals.{add-one}
use mathlib.Core.Path.{◌≡◌, sym, ap, ◌∙◌}
use mathlib.Core.List.{List, [], ◌∷◌, ◌++◌, append_assoc, append-nil}
use lib.ListN.{length, take, drop, set, replicate, length-append, length-replicate, length-drop, drop_of_length-le}
use lib.Seq.{length-take-le, take_all, take_at, drop_at, take-add, take-take, drop-drop, set_split, drop-append-add, append_snoc}
use Rattle.field.specs.Held.{layout}
use Rattle.field.specs.Step.{without}
use Rattle.field_words.specs.Laid.{Laid}

module _ (m : ℕ) (ws : List ℕ) (h : length ws ≤ m) where
  pub layout-length : length (layout m ws) ≡ m
  layout-length = simp (length-append, length-replicate) (omega arith)

-- words laid out in m lent ones: what waits is them
module _ (lent : List ℕ) (m : ℕ) (ws : List ℕ) (n : ℕ) (e : lent ≡ layout m ws) (l : length ws ≡ n) where
  pub waits : take n lent ≡ ws
  waits = rw e (take_at ws (replicate (m - length ws) 0) n l)

  pub laid : n ≤ m → Laid lent n
  laid h =
      let k : length lent ≡ m = ap length e ∙ layout-length m ws (omega arith) in
      record { within = omega arith; zeros = rw (waits, k) e }

pub drop-zeros : (k m : ℕ) → ◌≡◌ {A = List ℕ} (drop k (replicate m 0)) (replicate (m - k) 0)
drop-zeros zero m = rw (sub-zero m)
drop-zeros (suc k) zero = let e : ◌≡◌ {A = ℕ} (0 - suc k) 0 = omega arith in rw e
drop-zeros (suc k) (suc m) = let e : suc m - suc k ≡ m - k = omega arith in rw e (drop-zeros k m)

-- behind the words all is zero
drop-layout : (m : ℕ) (ws : List ℕ) (k : ℕ) → length ws ≤ k → drop k (layout m ws) ≡ replicate (m - k) 0
drop-layout m ws k h =
    let e : k ≡ length ws + (k - length ws) = omega arith in
    let z : m - length ws - (k - length ws) ≡ m - k = omega arith in
    ap (λ (j : ℕ). drop j (layout m ws)) e ∙ drop-append-add ws (replicate (m - length ws) 0) (k - length ws)
    ∙ drop-zeros (k - length ws) (m - length ws) ∙ ap (λ (j : ℕ). replicate j 0) z

module _ (lent : List ℕ) (n : ℕ) (h : Laid lent n) where
  pub zeros-from : (k : ℕ) → n ≤ k → drop k lent ≡ replicate (length lent - k) 0
  zeros-from k l = ap (drop k) h.zeros ∙ drop-layout (length lent) (take n lent) k (omega (arith, length-take-le n lent h.within))

  -- a word written behind the last
  pub put-law : n < length lent → (w : ℕ) → set lent n w ≡ layout (length lent) (take n lent ++ (w ∷ []))
  put-law l w =
      let k = length-take-le n lent h.within in
      let e : length lent - suc n ≡ length lent - length (take n lent ++ (w ∷ [])) = omega (arith, length-append (take n lent) (w ∷ [])) in
      set_split lent n w l ∙ ap (λ (r : List ℕ). take n lent ++ w ∷ r) (zeros-from (suc n) (omega arith) ∙ ap (λ (j : ℕ). replicate j 0) e)
      ∙ sym (append_snoc (take n lent) w (replicate (length lent - length (take n lent ++ (w ∷ []))) 0))

pub without-length : (a : ℕ) (ws : List ℕ) → a < length ws → suc (length (without a ws)) ≡ length ws
without-length a ws h =
    omega (arith, length-append (take a ws) (drop (suc a) ws), length-take-le a ws (omega arith), length-drop (suc a) ws)

-- there is none at place a
pub without-past : (a : ℕ) (ws : List ℕ) → length ws ≤ a → without a ws ≡ ws
without-past a ws h = rw (take_all a ws h, drop_of_length-le ws {i = suc a} (omega arith)) (append-nil ws)

-- the part from a to n, read in two ways
middle : (a n : ℕ) (l : List ℕ) → a ≤ n → n ≤ length l → take (n - a) (drop a l) ≡ drop a (take n l)
middle a n l h k =
    let e : n ≡ a + (n - a) = omega arith in
    sym (ap (drop a) (ap (λ (j : ℕ). take j l) e ∙ take-add a (n - a) l) ∙ drop_at (take a l) (take (n - a) (drop a l)) a (length-take-le a l (omega arith)))

-- The word at place a leaves: the part from it on is closed up and put back.
module _ (lent : List ℕ) (n a : ℕ) (h : Laid lent n) (l : a < n) where
  pub leave-law : take a lent ++ ((drop 1 (take (n - a) (drop a lent)) ++ (0 ∷ [])) ++ drop (n - a) (drop a lent)) ≡ layout (length lent) (without a (take n lent))
  leave-law =
      let ws = take n lent in
      let k = length-take-le n lent h.within in
      let early : take a lent ≡ take a ws = sym (take-take a n lent (omega arith)) in
      let later : drop 1 (take (n - a) (drop a lent)) ≡ drop (suc a) ws =
      ap (drop 1) (middle a n lent (omega arith) h.within) ∙ drop-drop 1 a ws ∙ ap (λ (j : ℕ). drop j ws) (add-one a) in
      let whole : a + (n - a) ≡ n = omega arith in
      let behind : drop (n - a) (drop a lent) ≡ replicate (length lent - n) 0 =
      drop-drop (n - a) a lent ∙ ap (λ (j : ℕ). drop j lent) whole ∙ zeros-from lent n h n (omega arith) in
      let many : suc (length lent - n) ≡ length lent - length (without a ws) = omega (arith, without-length a ws (omega arith), h.within) in
      let zeros : ◌≡◌ {A = List ℕ} (0 ∷ replicate (length lent - n) 0) (replicate (length lent - length (without a ws)) 0) = ap (λ (j : ℕ). replicate j 0) many in
      rw (early, later, behind)
      (ap (λ (r : List ℕ). take a ws ++ r) (append_snoc (drop (suc a) ws) 0 (replicate (length lent - n) 0) ∙ ap (λ (r : List ℕ). drop (suc a) ws ++ r) zeros)
      ∙ sym (append_assoc (take a ws) (drop (suc a) ws) (replicate (length lent - length (without a ws)) 0)))

  -- after it n - 1 words wait, and one more goes to the end
  module _ (left : List ℕ) (e : left ≡ layout (length lent) (without a (take n lent))) where
    left-length : length (without a (take n lent)) ≡ n - 1
    left-length = omega (arith, without-length a (take n lent) (omega (arith, length-take-le n lent h.within)), length-take-le n lent h.within)

    pub left_laid : Laid left (n - 1)
    left_laid = laid left (length lent) (without a (take n lent)) (n - 1) e left-length (omega (arith, h.within))

    pub left-room : n - 1 < length left
    left-room = omega (arith, h.within, ap length e ∙ layout-length (length lent) (without a (take n lent)) (omega (arith, left-length, h.within)))

    pub left_end : (w : ℕ) (last : List ℕ) → last ≡ layout (length left) (take (n - 1) left ++ (w ∷ [])) → last ≡ layout (length lent) (without a (take n lent) ++ (w ∷ []))
    left_end w last q =
        q ∙ rw (waits left (length lent) (without a (take n lent)) (n - 1) e left-length, ap length e ∙ layout-length (length lent) (without a (take n lent)) (omega (arith, left-length, h.within)))
