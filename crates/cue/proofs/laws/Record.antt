-- What a start writes, record by record: the sender's (`begun-sender`), those of the other modules (`begun-other`), those past N (`begun-past`).
use Rattle.std.specs.Prelude.{ℕ, ◌+◌, ◌-◌, ◌≤◌, ◌<◌, ◌≡◌, ◌≢◌, List, ◌++◌, length, get_or, drop, replicate}
use Rattle.std.proofs.Common.{arith, ap, ◌∙◌, length-append, length-drop, length-set, get_or-set_same, get_or-set_other, get_or-append-add, get_or-drop}
use Rattle.std.proofs.lemmas.List.{length-replicate, get_or-replicate}
use Rattle.std.proofs.Math.ListN.{get_or-append}
use Rattle.cue.specs.declared.Cue.{Cue}
use Rattle.cue.specs.Record.{unheard, record_of, sender_record, begun_cues}

module _ (n sender cue : ℕ) (lent : List Cue) where
  abbrev blank : List Cue
  blank = replicate n unheard

  abbrev afresh : List Cue
  afresh = blank ++ drop n lent

  length-afresh : n ≤ length lent → length afresh ≡ length lent
  length-afresh l = omega (arith, length-append blank (drop n lent), length-replicate n unheard, length-drop n lent)

  pub length-begun : n ≤ length lent → length (begun_cues n sender cue lent) ≡ length lent
  length-begun l = length-set afresh sender (sender_record cue) ∙ length-afresh l

  pub begun-sender : n ≤ length lent → sender < n → record_of (begun_cues n sender cue lent) sender ≡ sender_record cue
  begun-sender l s = get_or-set_same afresh sender (sender_record cue) unheard (omega (arith, length-afresh l))

  pub begun-other : (v : ℕ) → v < n → v ≢ sender → record_of (begun_cues n sender cue lent) v ≡ unheard
  begun-other v l d =
      get_or-set_other afresh sender v (sender_record cue) unheard d
      ∙ get_or-append blank (drop n lent) unheard v (omega (arith, length-replicate n unheard))
      ∙ get_or-replicate n v unheard unheard l

  pub begun-past : sender < n → (i : ℕ) → n ≤ i → record_of (begun_cues n sender cue lent) i ≡ record_of lent i
  begun-past s i l =
      get_or-set_other afresh sender i (sender_record cue) unheard (λ e. omega arith)
      ∙ ap (λ j. get_or afresh j unheard) at
      ∙ get_or-append-add blank (drop n lent) (i - n) unheard
      ∙ get_or-drop n lent (i - n) unheard
      ∙ ap (λ j. get_or lent j unheard) back
    where
      at : i ≡ length blank + (i - n)
      at = omega (arith, length-replicate n unheard)

      back : n + (i - n) ≡ i
      back = omega arith
