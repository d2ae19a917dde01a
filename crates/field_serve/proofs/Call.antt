-- A call of a host that passed 31: its steps over the field's arrays, as what the host holds (`step-stands`, `run-stands`).
use Prim.Native.Nat.{ℕ}
use mathlib.Core.Path.{◌≡◌, ap, ◌∙◌}
use mathlib.Core.List.{List}
use lib.ListN.{length}
use Rattle.std.specs.Prelude.{Ok}
use Rattle.base.specs.Loop.{After, Ran}
use Rattle.plan.specs.Links.{Plan}
use Rattle.field.specs.declared.Field.{Field}
use Rattle.field.specs.State.{State}
use Rattle.field.specs.Held.{Held, held_of}
use Rattle.field.specs.Held as H
use Rattle.field.proofs.laws.Step.{laid_after}
use Rattle.field_calls.specs.Call.{laid_back}
use Rattle.field_words.specs.Laid.{Laid}
use Rattle.field_words.specs.Hands.{lent_state}
use Rattle.field_check.specs.Checked.{check_of}
use Rattle.field_check.proofs.Admitted.{starts, again}
use Rattle.field_serve.specs.Lent.{Moves, MovesOn}

module _ (f : Field) (lent : List ℕ) {m : ℕ} (e : Ok m ≡ check_of (record { field = f; words = lent })) where
  abbrev h : Held
  h = record { field = f; words = lent }

  -- a field with the same plan, and its words
  left : (f' : Field) (words : List ℕ) (n : ℕ) → f'.plan ≡ f.plan → Laid words n → length words ≡ length lent
      → ◌≡◌ {A = Held} (record { field = f'; words = words }) (held_of h (lent_state f'.cells f'.marks words n f'.sent))
  left f' words n p l k =
      ap (λ (x : Plan). record { field = record { plan = x; cells = f'.cells; marks = f'.marks; sent = f'.sent }; words = words }) p
      ∙ again f lent f'.cells f'.marks words n f'.sent l k

  pub step-stands : (g : Plan → State → After State) (refusal : ℕ) (f' : Field) (words : List ℕ) (n : ℕ)
      → Moves g f lent m refusal f' words n → length words ≡ length lent
      → record { refusal = refusal; state = record { field = f'; words = words } } ≡ laid_after h (g f.plan (H.state_of h))
  step-stands g refusal f' words n q k =
      ap (λ (x : Held). record { refusal = refusal; state = x }) (left f' words n q.plan q.advances.ready.laid k)
      ∙ ap (laid_after h) (q.advances.is ∙ ap (g f.plan) (starts f lent e))

  pub run-stands : (g : Plan → State → Ran State) (done refusal : ℕ) (f' : Field) (words : List ℕ) (n : ℕ)
      → MovesOn g f lent m done refusal f' words n → length words ≡ length lent
      → record { done = done; refusal = refusal; state = record { field = f'; words = words } } ≡ laid_back h (g f.plan (H.state_of h))
  run-stands g done refusal f' words n q k =
      ap (λ (x : Held). record { done = done; refusal = refusal; state = x }) (left f' words n q.plan q.runs.ready.laid k)
      ∙ ap (laid_back h) (q.runs.is ∙ ap (g f.plan) (starts f lent e))
