-- The call of a host: 31, then the rounds over the field's arrays, then the field put together again (`rounds-31`, `rounds-done`).
use Prim.Native.Nat.{ℕ}
use mathlib.Core.Path.{◌≡◌, refl, ◌∙◌}
use mathlib.Core.Bool.{true, false}
use Rattle.std.specs.Prelude.{Ok, Err}
use mathlib.Core.List.{List}
use lib.ListN.{length}
use Rattle.field.specs.declared.Field.{Field}
use Rattle.field.specs.Held.{Held, valid}
use Rattle.field.specs.Held as H
use Rattle.field_calls.specs.Rounds.{rounds_run}
use Rattle.field_calls.specs.Call.{refused_run, laid_back, run_rounds}
use Rattle.field_check.specs.declared.NoField.{NoField}
use Rattle.field_check.specs.Checked.{check_of}
use Rattle.field_serve.specs.Lent.{MovesOn}
use Rattle.field_check.proofs.Admitted.{invalid, passes}
use Rattle.field_serve.proofs.Call.{run-stands}

module _ (h : Held) (limit : ℕ) where
  rounds-refused : valid h ≡ false → refused_run 31 h ≡ run_rounds limit h
  unfolding run_rounds
  rounds-refused e = rw e refl

  rounds-go : valid h ≡ true → laid_back h (rounds_run h.field.plan limit (H.state_of h)) ≡ run_rounds limit h
  unfolding run_rounds
  rounds-go e = rw e refl

module _ (f : Field) (lent : List ℕ) where
  abbrev h : Held
  h = record { field = f; words = lent }

  pub rounds-31 : {x : NoField} → Err x ≡ check_of h → (limit : ℕ) → refused_run 31 h ≡ run_rounds limit h
  rounds-31 e limit = rounds-refused h limit (invalid f lent e)

  pub rounds-done : {m : ℕ} → Ok m ≡ check_of h → (limit done refusal : ℕ) (f' : Field) (words : List ℕ) (n : ℕ)
      → MovesOn (λ p. rounds_run p limit) f lent m done refusal f' words n → length words ≡ length lent
      → record { done = done; refusal = refusal; state = record { field = f'; words = words } } ≡ run_rounds limit h
  rounds-done e limit done refusal f' words n q k = run-stands f lent e (λ p. rounds_run p limit) done refusal f' words n q k ∙ rounds-go h limit (passes f lent e)
