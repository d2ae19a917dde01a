-- A run of a schedule's bytes is the run of its list of steps (`run-list`).
use Prim.Native.Nat.{ℕ, zero, suc, ◌+◌}
use Rattle.std.proofs.Common.{arith, ◌∙◌}
use Rattle.std.specs.Prelude.{◌≡◌, true, ◌&&◌, eqb}
use Rattle.std.proofs.Math.Path.{refl, sym, ap}
use Rattle.std.proofs.Math.Bool.{cond}
use mathlib.Core.List.{List, [], ◌∷◌, ◌++◌}
use Rattle.base.proofs.laws.Cond.{eqb-cases, eqb-diff}
use Rattle.base.specs.Loop.{Ran, counted_turn, runs}
use Rattle.base.proofs.laws.Loop.{by-test}
use Rattle.plan.specs.Links.{Plan}
use Rattle.field.specs.State.{State}
use Rattle.field.specs.Step.{step}
use Rattle.field_calls.specs.declared.Step.{Step}
use Rattle.field_calls.specs.Schedule.{steps_in, step_at, never, schedule_run, step_of, steps_from, schedule_steps, list_run}

-- one step more at the end
steps-end : (bytes : List ℕ) (i n : ℕ) → steps_from bytes i (suc n) ≡ steps_from bytes i n ++ (step_of bytes (i + n) ∷ [])
unfolding steps_from
steps-end bytes i zero = ap (λ k. step_of bytes k ∷ []) (omega arith)
steps-end bytes i (suc n) = ap (λ l. step_of bytes i ∷ l) (steps-end bytes (suc i) n
    ∙ (let e : suc i + n ≡ i + suc n = omega arith in ap (λ k. steps_from bytes (suc i) n ++ (step_of bytes k ∷ [])) e))

module _ (p : Plan) where
  -- a step, unless the run has ended
  abbrev goes_on : Step → Ran State → Ran State
  goes_on x r = cond (eqb r.refusal 0) (counted_turn r.done (step p x.kind x.number r.state)) r

  list-end : (l : List Step) (x : Step) (d : ℕ) (s : State) → list_run p d (l ++ (x ∷ [])) s ≡ goes_on x (list_run p d l s)
  unfolding list_run
  list-end [] x d s =
      let a = step p x.kind x.number s in
      let went : Ran State = record { done = suc d; refusal = 0; state = a.state } in
      let stopped : Ran State = record { done = d; refusal = a.refusal; state = a.state } in
      eqb-cases a.refusal 0 (λ b. cond b went stopped ≡ record { done = cond b (suc d) d; refusal = a.refusal; state = a.state }) (λ e. rw e refl) (λ n. refl)
  list-end (y ∷ l) x d s =
      let a = step p y.kind y.number s in
      let stopped : Ran State = record { done = d; refusal = a.refusal; state = a.state } in
      eqb-cases a.refusal 0
      (λ b. cond b (list_run p (suc d) (l ++ (x ∷ [])) a.state) stopped ≡ goes_on x (cond b (list_run p (suc d) l a.state) stopped))
      (λ e. list-end l x (suc d) a.state) (λ n. rw (eqb-diff a.refusal 0 n) refl)

  runs-list : (bytes : List ℕ) (n : ℕ) (s : State) → runs never n (step_at p bytes) s ≡ list_run p 0 (steps_from bytes 0 n) s
  unfolding runs list_run steps_from
  runs-list bytes zero s = refl
  runs-list bytes (suc n) s = more ∙ ap (goes_on (step_of bytes n)) (runs-list bytes n s)
      ∙ sym (list-end (steps_from bytes 0 n) (step_of bytes n) 0 s) ∙ ap (λ l. list_run p 0 l s) (sym end)
    where
      more : runs never (suc n) (step_at p bytes) s ≡ goes_on (step_of bytes n) (runs never n (step_at p bytes) s)
      more = let r = runs never n (step_at p bytes) s in
          by-test (eqb r.refusal 0) (λ b. cond (b && true) (counted_turn r.done (step_at p bytes n r.state)) r ≡ cond b (counted_turn r.done (step_at p bytes n r.state)) r) refl refl

      end : steps_from bytes 0 (suc n) ≡ steps_from bytes 0 n ++ (step_of bytes n ∷ [])
      end = steps-end bytes 0 n ∙ (let e : 0 + n ≡ n = omega arith in ap (λ k. steps_from bytes 0 n ++ (step_of bytes k ∷ [])) e)

  -- LAW: a run of a schedule's bytes is the run of its list of steps
  pub run-list : (bytes : List ℕ) (s : State) → schedule_run p bytes s ≡ list_run p 0 (schedule_steps bytes) s
  run-list bytes s = runs-list bytes (steps_in bytes) s
