-- On a field of a plan with nobody in it a preview meets what its step does (`blank-preview`), and no list of calls takes a step or changes anything
-- (`blank-trail`, `blank-after`).
use Prim.Native.Nat.{ℕ, zero, suc}
use Rattle.std.proofs.Common.{sym, ◌∙◌}
use Rattle.std.specs.Prelude.{◌≡◌, Bool}
use Rattle.std.proofs.Math.Path.{refl, ap, ap₂}
use Rattle.std.proofs.Math.Bool.{true, not, ◌&&◌}
use mathlib.Core.List.{List, [], ◌∷◌, ◌++◌}
use Rattle.std.proofs.Math.Dec.{eqb}
use Rattle.base.proofs.laws.Cond.{bool_cases}
use Rattle.base.specs.Loop.{After, runs, runs_trace}
use Rattle.base.proofs.laws.Loop.{runs-keep}
use Rattle.field.specs.Held.{Held, state_of, valid, step_alone}
use Rattle.field_calls.specs.Schedule.{schedule_refusal, steps_in, kind_of, number_of, step_at, never}
use Rattle.field_calls.specs.Rounds.{round, at_rest}
use Rattle.field_calls.specs.Call.{Call, one, run, rounds, does, after}
use Rattle.field_calls.specs.Trail.{if_taken, round_steps, steps_of, trail}
use Rattle.preview.specs.Preview.{preview, not_shown}
use Rattle.preview.proofs.laws.Outcomes.{preview-refused}
use Rattle.blank.specs.Claim.{Blank, blank_step}
use Rattle.blank.proofs.laws.Fields.{some_number, step-refused, none-taken, round-still, round-none, blank-step, blank-run}
use Rattle.blank.proofs.laws.Rounds.{blank-rounds}

-- turns that leave all as it was, and tell nothing
module _ {S : Type 0} (rest : S → Bool) (g : ℕ → S → After S) (x : S) (keeps : (k : ℕ) → (g k x).state ≡ x) where
  runs_same : (n : ℕ) → (runs rest n g x).state ≡ x
  runs_same n = runs-keep (λ y. y ≡ x) rest n g x refl (λ k y l e. ap (λ z. (g k z).state) e ∙ keeps k)

  runs-silent : {E : Type 0} (t : ℕ → S → List E) → ((k : ℕ) → t k x ≡ []) → (n : ℕ) → runs_trace rest n g t x ≡ []
  unfolding runs_trace
  runs-silent t q zero = refl
  runs-silent t q (suc n) =
      let r = runs rest n g x in
      ap₂ ◌++◌ (runs-silent t q n)
      (bool_cases (eqb r.refusal 0 && not (rest r.state))
      (λ e. rw e (ap (t n) (runs_same n) ∙ q n))
      (λ e. rw e refl))

module _ (h : Held) (b : Blank h.field.plan) (v : valid h ≡ true) where
  pub blank-preview : (kind number : ℕ) (buffer : List ℕ) → preview kind number h buffer ≡ not_shown (blank_step kind) buffer
  blank-preview kind number buffer =
      let r : (step_alone kind number h).refusal ≡ blank_step kind = ap (λ a. a.refusal) (blank-step h b v kind number) in
      preview-refused kind number h buffer (λ z. some_number kind (sym r ∙ z)) ∙ ap (λ n. not_shown n buffer) r

  call_same : (c : Call) → (does c h).state ≡ h
  unfolding does
  call_same (one kind number) = rw (blank-step h b v kind number) refl
  call_same (rounds limit) = rw (blank-rounds h b v limit) refl
  call_same (run bytes) = rw (blank-run h b v bytes) refl

  call_none : (c : Call) → steps_of h.field.plan c (state_of h) ≡ []
  unfolding steps_of
  call_none (one kind number) = none-taken h.field.plan b (state_of h) kind number
  call_none (rounds limit) = runs-silent at_rest (λ i. round h.field.plan) (state_of h)
      (λ i. ap (λ a. a.state) (round-still h.field.plan b (state_of h))) (λ i. round_steps h.field.plan) (λ i. round-none h.field.plan b (state_of h)) limit
  call_none (run bytes) = bool_cases (eqb (schedule_refusal bytes) 0)
      (λ e. rw e (runs-silent never (step_at h.field.plan bytes) (state_of h)
      (λ i. ap (λ a. a.state) (step-refused h.field.plan b (state_of h) (kind_of bytes i) (number_of bytes i)))
      (λ i. if_taken h.field.plan (kind_of bytes i) (number_of bytes i))
      (λ i. none-taken h.field.plan b (state_of h) (kind_of bytes i) (number_of bytes i)) (steps_in bytes)))
      (λ e. rw e refl)

  pub blank-after : (calls : List Call) → after calls h ≡ h
  unfolding after
  blank-after [] = refl
  blank-after (c ∷ cs) = ap (after cs) (call_same c) ∙ blank-after cs

  pub blank-trail : (calls : List Call) → trail calls h ≡ []
  unfolding trail
  blank-trail [] = refl
  blank-trail (c ∷ cs) = rw (v, call_none c) (ap (trail cs) (call_same c) ∙ blank-trail cs)
