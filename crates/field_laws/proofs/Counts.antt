-- The sent count is exact: it grows by the sends of each step that is taken, and by nothing else; and the words that wait are those of the sends, without
-- those that services took and did not put back (`step_counts`, `call-counts`).
use Rattle.std.specs.Prelude.{ℕ, ◌+◌, ◌≡◌, not, eqb}
use native.Mathlib.Omega.{arith}
use Rattle.std.proofs.Math.Path.{refl, ap, subst}
use Rattle.std.proofs.Common.{sym}
use Rattle.std.proofs.Math.Bool.{cond}
use mathlib.Core.List.{[], ◌∷◌, ◌++◌}
use Rattle.std.proofs.Math.ListN.{length}
use Rattle.base.proofs.laws.Cond.{eqb-diff}
use Rattle.base.specs.Loop.{After}
use Rattle.base.proofs.laws.Loop.{by-test}
use Rattle.base.specs.Pool.{sum_l}
use Rattle.base.proofs.laws.Pool.{sum_l-app, sum_l-out}
use Rattle.base.proofs.laws.Keep.{first_out}
use Rattle.format_word.specs.Word.{hand_over}
use Rattle.plan.specs.Links.{Plan}
use Rattle.node.specs.Work.{Work, BACK}
use Rattle.field.specs.State.{State, posted}
use Rattle.field.specs.Step.{wake_work, serve_work, back_of, step}
use Rattle.field_calls.specs.Call.{Call}
use Rattle.field_calls.specs.Trail.{step_taken, if_taken, steps_of, sends_at, consumed_at}
use Rattle.field_laws.proofs.Cases.{refusal-not-0, StepOutcome, took, kept, FieldStep, wake-step, hand-step, serve-step, step-outcome}
use Rattle.field_laws.proofs.Trace.{on_state, call-tells}
use Rattle.field_laws.proofs.Counted.{counted-step}
pub use Rattle.field_laws.proofs.Counted.{flat-app, sent_words, consumed_words, CountedSteps, counted_none, counted-more}

module _ (p : Plan) where
  -- a word is put back or consumed
  back-or-gone : (f : ℕ → ℕ) (w : Work) (x : ℕ) → sum_l f (back_of w x) + sum_l f (cond (not (eqb w.answer BACK)) (x ∷ []) []) ≡ f x
  unfolding back_of
  back-or-gone f w x = by-test (eqb w.answer BACK) (λ b. sum_l f (cond b (x ∷ []) []) + sum_l f (cond (not b) (x ∷ []) []) ≡ f x) (omega arith) (omega arith)

  -- THE LAW for one step
  took-counts : (s : State) (kind number : ℕ) (s' : State) → FieldStep p s kind number s' → CountedSteps p s (step_taken kind number s ∷ []) s'
  unfolding sends_at consumed_at
  took-counts s _ _ s' (wake-step {v} h) =
      let new = posted p v (wake_work p v s).sends in
      rw h.responds.is (counted-step p s _ (step_taken 1 v s) refl (λ f k. omega (arith, sum_l-app f (s.words ++ new) [], sum_l-app f s.words new)))
  took-counts s _ _ s' (hand-step {d} h) = rw h.is
      (counted-step p s _ (step_taken 2 d s) (omega arith)
      (λ f k. omega (arith, sum_l-app f h.rest (hand_over h.word ∷ []), sum_l-out f (first_out h.first), k h.word)))
  took-counts s _ _ s' (serve-step {v} h) =
      let w = serve_work p v h.word s in
      let t = step_taken 3 v s in
      let new = posted p v w.sends in
      let q : sends_at p t ≡ w.sends = ap (λ x. (serve_work p v x s).sends) (sym h.at) in
      let c : consumed_at p t ≡ cond (not (eqb w.answer BACK)) (h.word ∷ []) [] =
      ap (λ x. cond (not (eqb (serve_work p v x s).answer BACK)) (x ∷ []) []) (sym h.at) in
      subst (CountedSteps p s (t ∷ [])) (sym h.responds.is)
      (counted-step p s _ t (ap (λ l. s.sent + length l) (sym q))
      (λ f k.
      omega (
        arith,
        ap (sum_l f) c,
        ap (λ l. sum_l f (posted p v l)) q,
        sum_l-app f (h.rest ++ new) (back_of w h.word),
        sum_l-app f h.rest new,
        sum_l-out f (first_out h.first),
        back-or-gone f w h.word,
      )))

  pub step_counts : (kind number : ℕ) (s : State) → CountedSteps p s (if_taken p kind number s) (step p kind number s).state
  unfolding if_taken
  step_counts kind number s = go (step-outcome p s kind number)
    where
      go : {a : After State} → StepOutcome s (FieldStep p s kind number) a → CountedSteps p s (cond (eqb a.refusal 0) (step_taken kind number s ∷ []) []) a.state
      go (took {s'} h) = took-counts s kind number s' h
      go (kept r h) = rw (eqb-diff r 0 (refusal-not-0 r h)) (counted_none p s)

  -- THE LAW for every call
  pub call-counts : (c : Call) (s : State) → CountedSteps p s (steps_of p c s) (on_state p c s).state
  call-counts c s = call-tells p (CountedSteps p) (counted_none p) (counted-more p) step_counts c s
