-- THE CLAIM of request 02, of any field and words, any step and any buffer (`preview-claim`): what a taken step leaves (`leaves`), and the words read back
-- from where it laid them. A hand-over shows nothing (`hand-shows-none`).
use Rattle.std.specs.Prelude.{ℕ, ◌+◌, ◌≡◌, List, [], ◌∷◌, ◌++◌}
use Rattle.std.proofs.Common.{arith, sym, ◌∙◌, append-nil}
use Rattle.std.proofs.Math.Path.{refl, ap, ap₂}
use Rattle.std.proofs.Math.ListN.{length}
use Rattle.base.proofs.laws.Keep.{first_found, first-left}
use Rattle.format_word.specs.Word.{hand_over}
use Rattle.plan.specs.Links.{Plan}
use Rattle.field.specs.State.{State, posted}
use Rattle.field.specs.Step.{serve_work, back_of, HAND}
use Rattle.field.specs.Valid.{waiting_in}
use Rattle.field.specs.Held.{Held, state_of, step_alone}
use Rattle.field_calls.specs.Trail.{sends_at, step_taken}
use Rattle.field_laws.proofs.Cases.{FieldStep, wake-step, hand-step, serve-step}
use Rattle.field_laws.proofs.Sends.{length-posted}
use Rattle.field_laws.proofs.Laid.{alone-took, alone-left, step_back}
use Rattle.preview.specs.Preview.{would_send, shown, preview}
use Rattle.preview.specs.Claim.{remaining, goes_last, Foretells, PreviewClaim}
use Rattle.preview.proofs.laws.Outcomes.{preview-refused, preview-short, preview-shown}

module _ (p : Plan) (s : State) where
  -- the sent count and the waiting words that a taken step leaves
  record Leaves (kind number : ℕ) (s' : State) : Type 0 where
    sent : s'.sent ≡ s.sent + length (sends_at p (step_taken kind number s))
    words : s'.words ≡ (remaining p kind number s ++ posted p number (sends_at p (step_taken kind number s))) ++ goes_last p kind number s

  leaves : {kind number : ℕ} {s' : State} → FieldStep p s kind number s' → Leaves kind number s'
  unfolding sends_at remaining goes_last
  leaves (wake-step h) = rw h.responds.is (record { sent = refl; words = refl })
  leaves (hand-step h) = rw h.is
      (record {
        sent = omega arith;
        words =
            ap (λ r. r ++ (hand_over h.word ∷ [])) (sym (append-nil h.rest))
            ∙ ap₂ (λ r x. (r ++ []) ++ (hand_over x ∷ [])) (first-left h.first) (first_found 0 h.first);
      })
  leaves (serve-step {v} h) = rw h.responds.is
      (record {
        sent = ap (λ x. s.sent + length (serve_work p v x s).sends) h.at;
        words = ap₂ (λ r x. (r ++ posted p v (serve_work p v x s).sends) ++ back_of (serve_work p v x s) x) (first-left h.first) h.at;
      })

module _ (kind number : ℕ) (h : Held) (buffer : List ℕ) where
  -- taken on a copy
  foretells : (step_alone kind number h).refusal ≡ 0 → Foretells kind number h buffer (step_alone kind number h).state
  unfolding would_send
  foretells e =
      let t = alone-took kind number h e in
      let l = leaves h.field.plan (state_of h) t in
      record {
        words = would_send kind number h;
        grows = ap (λ (x : Held). x.field.sent) (alone-left kind number h e) ∙ l.sent ∙ ap (λ n. h.field.sent + n) (sym (length-posted h.field.plan number (sends_at h.field.plan (step_taken kind number (state_of h)))));
        waits = ap (λ (x : Held). waiting_in x.words) (alone-left kind number h e) ∙ step_back h t ∙ l.words;
        short = preview-short kind number h buffer e;
        fits = preview-shown kind number h buffer e;
      }

  pub preview-claim : PreviewClaim kind number h buffer
  preview-claim = record { refused = preview-refused kind number h buffer; taken = foretells }

-- "A hand-over sends none": any buffer will do, and it keeps
pub hand-shows-none : (number : ℕ) (h : Held) (buffer : List ℕ) → (step_alone HAND number h).refusal ≡ 0 → preview HAND number h buffer ≡ shown [] buffer
unfolding would_send sends_at
hand-shows-none number h buffer e = preview-shown HAND number h buffer e (omega arith)
