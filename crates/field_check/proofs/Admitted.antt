-- A field that was checked for 31: refused (`invalid`), or its arrays are the state that steps work on (`passes`, `starts`); and the field put together
-- again from the arrays (`again`).
use Prim.Native.Nat.{ℕ}
use mathlib.Core.Path.{◌≡◌, refl, ap, ◌∙◌}
use mathlib.Core.Bool.{true, false}
use Rattle.std.proofs.Common.{rules}
use Rattle.std.specs.Prelude.{Result, Ok, Err}
use mathlib.Core.List.{List}
use lib.ListN.{length, take}
use Rattle.base.proofs.laws.Cond.{bool_cases}
use Rattle.field.specs.declared.Field.{Field}
use Rattle.field.specs.Valid.{waiting_in}
use Rattle.field.specs.Held.{Held, layout, held_of, valid}
use Rattle.field.specs.Held as H
use Rattle.field_check.specs.declared.NoField.{NoField}
use Rattle.field_check.specs.Checked.{check_of, waiting_told}
use Rattle.field_check.proofs.Words.{front}
use Rattle.field_words.specs.Laid.{Laid}
use Rattle.field_words.specs.Hands.{lent_state}

module _ (f : Field) (lent : List ℕ) where
  abbrev h : Held
  h = record { field = f; words = lent }

  pub invalid : {x : NoField} → Err x ≡ check_of h → valid h ≡ false
  invalid e = grind rules

  module _ {n : ℕ} (e : Ok n ≡ check_of h) where
    pub passes : valid h ≡ true
    passes = grind rules

    pub admitted-waiting : n ≡ length (waiting_in lent)
    admitted-waiting = grind rules

  -- of any field, refused or not
  module _ {r : Result ℕ NoField} (e : r ≡ check_of h) where
    pub told-waiting : waiting_told r ≡ length (waiting_in lent)
    told-waiting = ap waiting_told e ∙ bool_cases (valid h) (λ v. rw v refl) (λ v. rw v refl)

    pub words-waiting : take (waiting_told r) lent ≡ (H.state_of h).words
    words-waiting = front lent (waiting_told r) told-waiting

    pub starts : lent_state f.cells f.marks lent (waiting_told r) f.sent ≡ H.state_of h
    starts = ap (λ (w : List ℕ). record { cells = f.cells; marks = f.marks; words = w; sent = f.sent }) words-waiting

-- what the arrays hold, as what the host holds
pub again : (f : Field) (lent cells marks words : List ℕ) (n sent : ℕ) → Laid words n → length words ≡ length lent
    → ◌≡◌ {A = Held} (record { field = record { plan = f.plan; cells = cells; marks = marks; sent = sent }; words = words })
    (held_of (record { field = f; words = lent }) (lent_state cells marks words n sent))
again f lent cells marks words n sent l k =
    ap (λ (w : List ℕ). record { field = record { plan = f.plan; cells = cells; marks = marks; sent = sent }; words = w }) (l.zeros ∙ ap (λ (m : ℕ). layout m (take n words)) k)
