-- The calls of a host for a step alone and for a schedule: 31 (`step-31`, `run-31`), then the steps over the field's arrays, then the field put together
-- again (`step-done`, `run-done`).
use Prim.Native.Nat.{ℕ}
use mathlib.Core.Path.{◌≡◌, refl, ap, ◌∙◌}
use mathlib.Core.Logic.{◌≢◌}
use mathlib.Core.Bool.{true, false}
use Rattle.std.specs.Prelude.{Ok, Err}
use mathlib.Core.List.{List}
use lib.ListN.{length}
use borrow.Author.Tests.{ne_eqb, eq-eqb}
use Rattle.base.specs.Loop.{refused_by}
use Rattle.field.specs.declared.Field.{Field}
use Rattle.field.specs.Step.{step}
use Rattle.field.specs.Held.{Held, valid, step_alone}
use Rattle.field.specs.Held as H
use Rattle.field.proofs.laws.Step.{alone-31, alone-step}
use Rattle.field_calls.specs.Schedule.{schedule_refusal, schedule_run}
use Rattle.field_calls.specs.Call.{refused_run, laid_back, run_bytes}
use Rattle.field_check.specs.declared.NoField.{NoField}
use Rattle.field_check.specs.Checked.{check_of}
use Rattle.field_serve.specs.Lent.{Moves, MovesOn}
use Rattle.field_check.proofs.Admitted.{invalid, passes}
use Rattle.field_serve.proofs.Call.{step-stands, run-stands}

module _ (h : Held) where
  run-refused : (bytes : List ℕ) → valid h ≡ false → refused_run 31 h ≡ run_bytes bytes h
  unfolding run_bytes
  run-refused bytes e = rw e refl

  run-bad : (bytes : List ℕ) → valid h ≡ true → schedule_refusal bytes ≢ 0 → refused_run (schedule_refusal bytes) h ≡ run_bytes bytes h
  unfolding run_bytes
  run-bad bytes e n = simp (e, ne_eqb (schedule_refusal bytes) 0 n)

  run-goes : (bytes : List ℕ) → valid h ≡ true → schedule_refusal bytes ≡ 0 → laid_back h (schedule_run h.field.plan bytes (H.state_of h)) ≡ run_bytes bytes h
  unfolding run_bytes
  run-goes bytes e z = simp (e, eq-eqb (schedule_refusal bytes) 0 z)

module _ (f : Field) (lent : List ℕ) where
  abbrev h : Held
  h = record { field = f; words = lent }

  module _ {x : NoField} (e : Err x ≡ check_of h) where
    pub step-31 : (kind number : ℕ) → refused_by 31 h ≡ step_alone kind number h
    step-31 kind number = alone-31 kind number h (invalid f lent e)

    pub run-31 : (bytes : List ℕ) → refused_run 31 h ≡ run_bytes bytes h
    run-31 bytes = run-refused h bytes (invalid f lent e)

  module _ {m : ℕ} (e : Ok m ≡ check_of h) where
    pub run-54 : (bytes : List ℕ) (bad : ℕ) → bad ≡ schedule_refusal bytes → bad ≢ 0 → refused_run bad h ≡ run_bytes bytes h
    run-54 bytes bad q n = ap (λ (x : ℕ). refused_run x h) q ∙ run-bad h bytes (passes f lent e) (λ z. n (q ∙ z))

    pub step-done : (kind number refusal : ℕ) (f' : Field) (words : List ℕ) (n : ℕ)
        → Moves (λ p. step p kind number) f lent m refusal f' words n → length words ≡ length lent
        → record { refusal = refusal; state = record { field = f'; words = words } } ≡ step_alone kind number h
    step-done kind number refusal f' words n q k = step-stands f lent e (λ p. step p kind number) refusal f' words n q k ∙ alone-step kind number h (passes f lent e)

    pub run-done : (bytes : List ℕ) → schedule_refusal bytes ≡ 0 → (done refusal : ℕ) (f' : Field) (words : List ℕ) (n : ℕ)
        → MovesOn (λ p. schedule_run p bytes) f lent m done refusal f' words n → length words ≡ length lent
        → record { done = done; refusal = refusal; state = record { field = f'; words = words } } ≡ run_bytes bytes h
    run-done bytes z done refusal f' words n q k = run-stands f lent e (λ p. schedule_run p bytes) done refusal f' words n q k ∙ run-goes h bytes (passes f lent e) z
