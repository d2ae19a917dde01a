-- A verdict shown: refused (`shows-refused`), by 75 (`shows-short`), or its words written at the front (`shows-words`).
use Prim.Native.Nat.{ℕ, ◌≤◌, ◌<◌}
use native.Mathlib.Nat.{zero-add}
use native.Mathlib.Omega.{arith}
use mathlib.Core.Path.{◌≡◌, sym, ap, ap₂, ◌∙◌}
use mathlib.Core.Logic.{◌≢◌}
use mathlib.Core.List.{List, ◌++◌}
use lib.ListN.{length, drop}
use lib.Seq.{sets-eq}
use Rattle.field_verdict.specs.Verdict.{Verdict}
use Rattle.plan.specs.Links.{Plan}
use Rattle.field.specs.State.{posted}
use Rattle.field.specs.Held.{held_from}
use Rattle.field_laws.proofs.Sends.{length-posted}
use Rattle.field_place.specs.Posted.{sends_by, Posted}
use Rattle.preview.specs.declared.Previewed.{Previewed}
use Rattle.preview.specs.Preview.{not_shown, shown}
use Rattle.preview.proofs.laws.Outcomes.{preview-refused, preview-short, preview-shown}
use Rattle.host_preview.specs.Previews.{Showable, Previews}

module _ (p : Plan) (marks : List ℕ) (v : ℕ) (d : Verdict) (buffer : List ℕ) where
  abbrev words : List ℕ
  words = posted p v (sends_by p marks v d.word d.response)

  pub shows-refused : d.refusal ≢ 0 → {r : Previewed} → r ≡ record { refusal = d.refusal; count = 0 } → Previews p marks v d buffer r buffer
  shows-refused n q = rw q (record {
    is = λ kind cells sent lent f. let h = held_from p cells marks sent lent in
        ap (λ (z : ℕ). not_shown z buffer) (sym f.refusal) ∙ sym (preview-refused kind v h buffer (λ e. n (sym f.refusal ∙ e)));
  })

  module _ (z : d.refusal ≡ 0) (can : Showable p marks v d) where
    many : length words ≡ d.sends
    many = length-posted p v (sends_by p marks v d.word d.response) ∙ sym can.count

    pub shows-short : length buffer < d.sends → {r : Previewed} → r ≡ record { refusal = 75; count = 0 } → Previews p marks v d buffer r buffer
    shows-short l q = rw q (record {
      is = λ kind cells sent lent f. let h = held_from p cells marks sent lent in
          sym (preview-short kind v h buffer (f.refusal ∙ z) (omega (arith, many, ap length (f.words z))));
    })

    pub shows-words : d.sends ≤ length buffer → {after : List ℕ} {m : ℕ} → Posted buffer after 0 m words
        → {r : Previewed} → r ≡ record { refusal = 0; count = d.sends } → Previews p marks v d buffer r after
    shows-words l x q = rw q (record {
      is = λ kind cells sent lent f. let h = held_from p cells marks sent lent in
          ap₂ (λ (c : ℕ) (b : List ℕ). record { answer = record { refusal = 0; count = c }; buffer = b }) (sym many)
          (x.is ∙ sets-eq words buffer 0 (omega (arith, many)) ∙ ap (λ (k : ℕ). words ++ drop k buffer) (zero-add (length words)))
          ∙ ap (λ (ws : List ℕ). shown ws buffer) (sym (f.words z))
          ∙ sym (preview-shown kind v h buffer (f.refusal ∙ z) (omega (arith, many, ap length (f.words z))));
    })
