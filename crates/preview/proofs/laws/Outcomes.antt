-- The three outcomes of a preview: refused as the step is (`preview-refused`), by 75 (`preview-short`), shown (`preview-shown`). The buffer keeps its
-- length in each (`preview-length`).
use Rattle.std.specs.Prelude.{ℕ, ◌≤◌, ◌<◌, ◌≡◌, ◌≢◌, List, length, drop}
use Rattle.std.proofs.Common.{arith, ap, ◌∙◌, length-append, length-drop}
use borrow.Author.Tests.{lt-ltb, le-ltb}
use Rattle.base.proofs.laws.Cond.{eqb-diff, by-eq, ltb-cases}
use Rattle.field.specs.Held.{Held, step_alone}
use Rattle.preview.specs.Preview.{Preview, not_shown, shown, would_send, preview}

module _ (kind number : ℕ) (h : Held) (buffer : List ℕ) where
  pub preview-refused : (step_alone kind number h).refusal ≢ 0 → preview kind number h buffer ≡ not_shown (step_alone kind number h).refusal buffer
  unfolding preview
  preview-refused n = rw (eqb-diff (step_alone kind number h).refusal 0 n)

  module _ (e : (step_alone kind number h).refusal ≡ 0) where
    pub preview-short : length buffer < length (would_send kind number h) → preview kind number h buffer ≡ not_shown 75 buffer
    unfolding preview
    preview-short l = rw (e, lt-ltb (length buffer) (length (would_send kind number h)) l)

    pub preview-shown : length (would_send kind number h) ≤ length buffer → preview kind number h buffer ≡ shown (would_send kind number h) buffer
    unfolding preview
    preview-shown l = rw (e, le-ltb (length buffer) (length (would_send kind number h)) l)

  pub preview-length : length (preview kind number h buffer).buffer ≡ length buffer
  preview-length = by-eq (step_alone kind number h).refusal 0
      (λ e. ltb-cases (length buffer) (length words) (λ b. length (preview kind number h buffer).buffer ≡ length buffer)
      (λ l. ap left (preview-short e l))
      (λ l. ap left (preview-shown e l) ∙ omega (arith, length-append words (drop (length words) buffer), length-drop (length words) buffer)))
      (λ n. ap left (preview-refused n))
    where
      words : List ℕ
      words = would_send kind number h

      left : Preview → ℕ
      left x = length x.buffer
