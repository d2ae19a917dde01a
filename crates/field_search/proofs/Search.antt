-- Counting words, for any test: what the loops keep (`Counted`), and one law for each outcome of a turn (`counted-one`, `counted-on`).
use Rattle.std.specs.Prelude.{ℕ, ◌+◌, ◌≤◌, ◌<◌, ◌≡◌, Bool, true, false, List, length, get_or, take, count_by}
use Rattle.std.proofs.Common.{sym, ap, ◌∙◌, arith}
use Rattle.std.proofs.Math.Seq.{take_all}
use Rattle.std.proofs.lemmas.List.Sums.{count_by_more_no, count_by_more_yes}
use Rattle.base.specs.Keep.{many}
use Rattle.base.proofs.laws.Chains.{many-is}

module _ (q : ℕ → Bool) (ws : List ℕ) where
  -- m of the words before place i pass
  abbrev pub Counted : ℕ → ℕ → Type 0
  Counted m i = (i ≤ length ws) × (m ≤ i) × (m ≡ count_by q (take i ws))

  pub counted_start : Counted 0 0
  counted_start = (omega arith, omega arith, omega arith)

  module _ {i : ℕ} where
    pub counted-all : {m : ℕ} → Counted m i → length ws ≤ i → m ≡ many q ws
    counted-all s h = s.2 ∙ ap (count_by q) (take_all i ws h) ∙ sym (many-is q ws)

    -- b is the test's answer for the word at i
    module _ (l : i < length ws) {b : Bool} (t : b ≡ q (get_or ws i 0)) where
      pub counted-one : {m k : ℕ} → Counted m i → b ≡ true → k ≡ m + 1 → Counted k (i + 1)
      counted-one s h e = (omega arith, omega (arith, s.1), omega (arith, s.2, count_by_more_yes q ws i 0 l (sym t ∙ h)))

      pub counted-on : {m k : ℕ} → Counted m i → b ≡ false → k ≡ m → Counted k (i + 1)
      counted-on s h e = (omega arith, omega (arith, s.1), omega (arith, s.2, count_by_more_no q ws i 0 l (sym t ∙ h)))
