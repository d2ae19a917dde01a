-- A step and a run leave the plan of a field, so its other parts are all that a caller needs back (`step-parts`, `run-parts`, `rounds-parts`).
use Prim.Native.Nat.{ℕ}
use mathlib.Core.Path.{◌≡◌, refl, sym, ap, ◌∙◌}
use mathlib.Core.List.{List}
use Rattle.base.proofs.laws.Cond.{bool_cases}
use Rattle.base.specs.Loop.{Ran}
use Rattle.plan.specs.Links.{Plan}
use Rattle.field.specs.declared.Field.{Field}
use Rattle.field.specs.Held.{Held, valid, step_alone, field_from, held_from}
use Rattle.field_calls.specs.Schedule.{schedule_refusal}
use Rattle.field_calls.specs.Call.{run_bytes, run_rounds}
use lib.Dec.{eqb}

module _ (h : Held) where
  step-plan : (kind number : ℕ) → (step_alone kind number h).state.field.plan ≡ h.field.plan
  unfolding step_alone
  step-plan kind number = bool_cases (valid h) (λ e. rw e refl) (λ e. rw e refl)

  run-plan : (bytes : List ℕ) → (run_bytes bytes h).state.field.plan ≡ h.field.plan
  unfolding run_bytes
  run-plan bytes =
      bool_cases (valid h) (λ e. bool_cases (eqb (schedule_refusal bytes) 0) (λ z. rw (e, z) refl) (λ z. rw (e, z) refl)) (λ e. rw e refl)

  rounds-plan : (limit : ℕ) → (run_rounds limit h).state.field.plan ≡ h.field.plan
  unfolding run_rounds
  rounds-plan limit = bool_cases (valid h) (λ e. rw e refl) (λ e. rw e refl)

-- One law for the three calls. A call's whole answer is made of what is held then, by `make`, and `state` reads that back.
module _ {R : Type 0} (state : R → Held) (make : Held → R) (reads : (x : Held) → state (make x) ≡ x)
    (call : Held → R) (keeps : (h : Held) → (state (call h)).field.plan ≡ h.field.plan) where
  call-parts : (p : Plan) (cells marks : List ℕ) (sent : ℕ) (lent : List ℕ) (f : Field) → f ≡ field_from p cells marks sent → (g : Field) (words : List ℕ)
      → make (record { field = g; words = words }) ≡ call (record { field = f; words = lent })
      → make (held_from p g.cells g.marks g.sent words) ≡ call (held_from p cells marks sent lent)
  call-parts p cells marks sent lent f is g words e =
      let e' = e ∙ ap (λ (x : Field). call (record { field = x; words = lent })) is in
      let q = sym (ap (λ (x : Held). x.field.plan) (reads (record { field = g; words = words }))) ∙ ap (λ (a : R). (state a).field.plan) e' ∙ keeps _ in
      ap (λ (x : Plan). make (held_from x g.cells g.marks g.sent words)) (sym q) ∙ e'

pub step-parts : (kind number refusal : ℕ) → (p : Plan) (cells marks : List ℕ) (sent : ℕ) (lent : List ℕ) (f : Field) → f ≡ field_from p cells marks sent → (g : Field) (words : List ℕ)
    → record { refusal = refusal; state = record { field = g; words = words } } ≡ step_alone kind number (record { field = f; words = lent })
    → record { refusal = refusal; state = held_from p g.cells g.marks g.sent words } ≡ step_alone kind number (held_from p cells marks sent lent)
step-parts kind number refusal = call-parts (λ a. a.state) (λ x. record { refusal = refusal; state = x }) (λ x. refl) (step_alone kind number) (λ h. step-plan h kind number)

abbrev pub Told : (Held → Ran Held) → Type 0
Told call = (done refusal : ℕ) (p : Plan) (cells marks : List ℕ) (sent : ℕ) (lent : List ℕ) (f : Field) → f ≡ field_from p cells marks sent → (g : Field) (words : List ℕ)
    → record { done = done; refusal = refusal; state = record { field = g; words = words } } ≡ call (record { field = f; words = lent })
    → record { done = done; refusal = refusal; state = held_from p g.cells g.marks g.sent words } ≡ call (held_from p cells marks sent lent)

pub run-parts : (bytes : List ℕ) → Told (run_bytes bytes)
run-parts bytes done refusal = call-parts (λ a. a.state) (λ x. record { done = done; refusal = refusal; state = x }) (λ x. refl) (run_bytes bytes) (λ h. run-plan h bytes)

pub rounds-parts : (limit : ℕ) → Told (run_rounds limit)
rounds-parts limit done refusal = call-parts (λ a. a.state) (λ x. record { done = done; refusal = refusal; state = x }) (λ x. refl) (run_rounds limit) (λ h. rounds-plan h limit)
