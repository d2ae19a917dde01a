-- What a host reads off a preview, by the claim alone: answered 0, the front of the buffer is what the step sends (`read_off`); else the buffer keeps
-- (`refused-shows-none`).
use Rattle.std.specs.Prelude.{ℕ, ◌+◌, ◌≡◌, refl, ◌≢◌, ◌⊎◌, List, ◌++◌, length, take, drop}
use Rattle.std.proofs.Common.{arith, sym, ap, subst, ◌∙◌, inl, inr, take_at, drop_at}
use Rattle.base.proofs.laws.Cond.{by-eq, ltb-cases}
use Rattle.field.specs.Held.{Held, state_of, step_alone}
use Rattle.field.specs.Valid.{waiting_in}
use Rattle.preview.specs.Preview.{Preview, not_shown, preview}
use Rattle.preview.specs.Claim.{remaining, goes_last}
use Rattle.preview.proofs.laws.Claim.{preview-claim}

-- the step left `after`: its sent count and its waiting words, read off preview x, and the rest of the buffer keeps
pub record ReadOff (kind number : ℕ) (h after : Held) (buffer : List ℕ) (x : Preview) : Type 0 where
  pub sent : after.field.sent ≡ h.field.sent + x.answer.count
  pub waits : waiting_in after.words
      ≡ (remaining h.field.plan kind number (state_of h) ++ take x.answer.count x.buffer) ++ goes_last h.field.plan kind number (state_of h)
  pub keeps : drop x.answer.count x.buffer ≡ drop x.answer.count buffer

module _ (kind number : ℕ) (h : Held) (buffer : List ℕ) where
  abbrev x : Preview
  x = preview kind number h buffer

  pub read_off : x.answer.refusal ≡ 0 → ReadOff kind number h (step_alone kind number h).state buffer x
  read_off z = by-eq (step_alone kind number h).refusal 0
      (λ e. let f = (preview-claim kind number h buffer).taken e in
      ltb-cases (length buffer) (length f.words) (λ b. ReadOff kind number h (step_alone kind number h).state buffer x)
      (λ l. let q = ap (λ (y : Preview). y.answer.refusal) (f.short l) in absurd (omega (arith, z, q)))
      (λ l. subst (λ (y : Preview). ReadOff kind number h (step_alone kind number h).state buffer y) (sym (f.fits l))
      (record {
        sent = f.grows;
        waits = f.waits
            ∙ ap (λ (ws : List ℕ). (remaining h.field.plan kind number (state_of h) ++ ws) ++ goes_last h.field.plan kind number (state_of h))
            (sym (take_at f.words (drop (length f.words) buffer) (length f.words) refl));
        keeps = drop_at f.words (drop (length f.words) buffer) (length f.words) refl;
      })))
      (λ n. absurd (n (sym (ap (λ (y : Preview). y.answer.refusal) ((preview-claim kind number h buffer).refused n)) ∙ z)))

  pub refused-shows-none : x.answer.refusal ≢ 0 → (x ≡ not_shown (step_alone kind number h).refusal buffer) ⊎ (x ≡ not_shown 75 buffer)
  refused-shows-none n = by-eq (step_alone kind number h).refusal 0
      (λ e. let f = (preview-claim kind number h buffer).taken e in
      ltb-cases (length buffer) (length f.words) (λ b. (x ≡ not_shown (step_alone kind number h).refusal buffer) ⊎ (x ≡ not_shown 75 buffer))
      (λ l. inr (f.short l))
      (λ l. absurd (n (ap (λ (y : Preview). y.answer.refusal) (f.fits l)))))
      (λ d. inl ((preview-claim kind number h buffer).refused d))
