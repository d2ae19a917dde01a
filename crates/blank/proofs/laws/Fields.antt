-- A field of a plan with nobody in it: what setup leaves (`blank-set`), what 31 asks of it (`blank-valid`); no step is taken (`blank-step`, `blank-run`),
-- it is at rest (`blank-rest`), and no cue is started or delivered (`blank-start`, `blank-deliver`).
use Prim.Native.Nat.{ℕ, ◌-◌}
use Rattle.std.proofs.Common.{arith, sym, ◌∙◌}
use Rattle.std.specs.Prelude.{◌≡◌, ◌≢◌, ◌↔◌, false, cond, length, ltb}
use Rattle.std.proofs.Math.Path.{refl, ap, ap₂}
use Rattle.std.proofs.Math.Bool.{true, ◌&&◌, or-true}
use mathlib.Core.List.{List, []}
use Rattle.std.proofs.Math.Dec.{eqb}
use borrow.Author.Tests.{eq-eqb, ne_eqb, le-ltb, le-leb}
use Rattle.base.proofs.laws.Cond.{bool_cases, by-eq}
use Rattle.base.specs.Pool.{nil}
use Rattle.base.proofs.laws.Keep.{no_length}
use Rattle.base.proofs.laws.Sum.{sum-zero}
use Rattle.base.specs.Cond.{bit}
use Rattle.base.specs.Test.{every}
use Rattle.base.specs.Loop.{taken_to, refused_by, then, loop, runs, loop_trace}
use Rattle.base.proofs.laws.Loop.{runs-refused}
use Rattle.plan.specs.Links.{Plan, modules_of}
use Rattle.plan.specs.Trimmed.{trimmed}
use Rattle.field.specs.Edges.{ceiling_of}
use Rattle.field.specs.State.{State}
use Rattle.field.specs.Step.{WAKE, HAND, SERVE, wake, hand, serve, step}
use Rattle.field.specs.Valid.{waiting_in, zero_after, fits}
use Rattle.field.specs.Held.{Held, fresh, state_of, valid, set_up, step_alone}
use Rattle.field_calls.specs.Schedule.{schedule_refusal, steps_in, kind_of, number_of, step_at, never, schedule_run}
use Rattle.field_calls.specs.Rounds.{round, at_rest}
use Rattle.field_calls.specs.Call.{refused_run, run_bytes}
use Rattle.field_calls.specs.Trail.{if_taken, round_steps}
use Rattle.field_laws.proofs.Fits.{FieldFits, fits-facts, facts-fits}
use Rattle.field_laws.proofs.Laid.{waiting-zeros, zeros-all, layout-back, valid-parts, held_same}
use Rattle.cue.specs.declared.Cue.{Cue}
use Rattle.cue.specs.Delivery.{Refused}
use Rattle.cue.specs.Record.{record_of}
use Rattle.cue.specs.Calls.{branches_agree, is_sender, left_by_sending, start_refusal, start_cue, delivery_refusal, deliver_cue}
use Rattle.blank.specs.Claim.{Blank, zero_words, blank_step, blank_run}
use Rattle.blank.proofs.laws.Taken.{blank-taken}
use Rattle.blank.proofs.laws.Plans.{blank-ceiling}

-- SETUP

pub blank-set : (p : Plan) → Blank p → (lent : List ℕ) → set_up p lent ≡ taken_to (record { field = fresh (trimmed p); words = zero_words (length lent) })
unfolding set_up
blank-set p b lent = rw (blank-taken p b, blank-ceiling p b, le-ltb (length lent) 0 (omega arith)) refl

-- 31

module _ (h : Held) (b : Blank h.field.plan) where
  abbrev p : Plan
  p = h.field.plan

  abbrev s : State
  s = state_of h

  module _ (v : valid h ≡ true) where
    facts : FieldFits p s
    facts = fits-facts p s (valid-parts h v).3

    nothing-sent : h.field.sent ≡ 0
    nothing-sent = omega (arith, facts.ceiling, blank-ceiling p b)

    nothing-waits : s.words ≡ []
    nothing-waits = no_length s.words (omega (arith, facts.waiting, nothing-sent))

    zeros : h.words ≡ zero_words (length h.words)
    zeros = sym (layout-back h.words (valid-parts h v).2) ∙ rw nothing-waits (let e : length h.words - 0 ≡ length h.words = omega arith in ap zero_words e)

  pub blank-valid : (valid h ≡ true) ↔ ((h.field.sent ≡ 0) × (h.words ≡ zero_words (length h.words)))
  unfolding valid
  blank-valid = (
    (λ v. (nothing-sent v, zeros v)),
    (λ t.
        let none-wait : waiting_in h.words ≡ [] = ap waiting_in t.1 ∙ waiting-zeros (length h.words) in
        let behind : zero_after h.words ≡ true = rw t.1 (rw (waiting-zeros (length h.words)) (zeros-all (length h.words))) in
        let fit : fits p s ≡ true = facts-fits p s (record {
          words = rw none-wait nil;
          nodes = λ v l. absurd (omega (arith, b.nobody));
          marks = λ d l. absurd (omega (arith, b.unlinked));
          waiting = rw none-wait (omega arith);
          ceiling = omega (arith, t.0);
        }) in
        ap₂ ◌&&◌ (ap₂ ◌&&◌ (ap₂ ◌&&◌ (eq-eqb _ _ (blank-taken p b)) (le-leb (ceiling_of p) (length h.words) (omega (arith, blank-ceiling p b)))) behind) fit),
  )

-- STEPS

pub some_number : (kind : ℕ) → blank_step kind ≢ 0
some_number kind = bool_cases (eqb kind WAKE) (λ e. rw e (λ z. omega arith)) (λ e. rw e
    (bool_cases (eqb kind HAND) (λ f. rw f (λ z. omega arith)) (λ f. rw f
    (bool_cases (eqb kind SERVE) (λ g. rw g (λ z. omega arith)) (λ g. rw g (λ z. omega arith))))))

module _ (p : Plan) (b : Blank p) (s : State) where
  pub step-refused : (kind number : ℕ) → step p kind number s ≡ refused_by (blank_step kind) s
  unfolding step wake hand serve
  step-refused kind number = rw (b.nobody, b.unlinked, le-leb 0 number (omega arith))
      (bool_cases (eqb kind WAKE) (λ e. rw e refl) (λ e. rw e
      (bool_cases (eqb kind HAND) (λ f. rw f refl) (λ f. rw f
      (bool_cases (eqb kind SERVE) (λ g. rw g refl) (λ g. rw g refl))))))

  pub none-taken : (kind number : ℕ) → if_taken p kind number s ≡ []
  unfolding if_taken
  none-taken kind number = rw (step-refused kind number, ne_eqb _ 0 (some_number kind)) refl

  pub round-still : round p s ≡ taken_to s
  unfolding round then loop
  round-still = rw (b.nobody, b.unlinked) refl

  pub round-none : round_steps p s ≡ []
  unfolding round_steps then loop loop_trace
  round-none = rw (b.nobody, b.unlinked) refl

-- CALLS

module _ (h : Held) (b : Blank h.field.plan) (v : valid h ≡ true) where
  pub blank-step : (kind number : ℕ) → step_alone kind number h ≡ refused_by (blank_step kind) h
  unfolding step_alone
  blank-step kind number = rw (v, step-refused h.field.plan b (state_of h) kind number) (ap (refused_by (blank_step kind)) (held_same h v))

  -- the first step of a schedule ends it
  run-ends-at-once : (bytes : List ℕ) → schedule_run h.field.plan bytes (state_of h)
      ≡ record { done = 0; refusal = cond (eqb (steps_in bytes) 0) 0 (blank_step (kind_of bytes 0)); state = state_of h }
  unfolding runs
  run-ends-at-once bytes = by-eq (steps_in bytes) 0
      (λ e. rw e refl)
      (λ n. rw (ne_eqb (steps_in bytes) 0 n)
      (runs-refused never (step_at h.field.plan bytes) 0 (state_of h) (state_of h) refl
      (refused_by (blank_step (kind_of bytes 0)) (state_of h)) (sym (step-refused h.field.plan b (state_of h) (kind_of bytes 0) (number_of bytes 0))) refl
      (steps_in bytes) (omega arith) (some_number (kind_of bytes 0))))

  pub blank-run : (bytes : List ℕ) → run_bytes bytes h ≡ refused_run (blank_run bytes) h
  unfolding run_bytes
  blank-run bytes = rw v (by-eq (schedule_refusal bytes) 0
      (λ e. rw (e, run-ends-at-once bytes) (ap (refused_run (cond (eqb (steps_in bytes) 0) 0 (blank_step (kind_of bytes 0)))) (held_same h v)))
      (λ n. rw (ne_eqb (schedule_refusal bytes) 0 n) refl))

  pub blank-rest : at_rest (state_of h) ≡ true
  blank-rest = rw (nothing-waits h b v) refl

  -- CUES

  unlinked-agrees : branches_agree h.field.plan h.field.marks ≡ true
  unfolding branches_agree every
  unlinked-agrees = rw b.unlinked refl

  pub blank-start : (cues : List Cue) (sender cue : ℕ) → start_cue h cues sender cue ≡ refused_by 72 cues
  unfolding start_cue start_refusal
  blank-start cues sender cue = rw (v, unlinked-agrees, b.nobody, le-leb 0 sender (omega arith)) refl

  none-sent : (cues : List Cue) → left_by_sending h.field.plan cues ≡ false
  unfolding left_by_sending every
  none-sent cues = rw b.nobody (ap (λ n. eqb n 1) (sum-zero 0 (λ v. bit (is_sender (record_of cues v))) (λ v l. absurd (omega arith))))

  pub blank-deliver : (cues : List Cue) (d : ℕ) → deliver_cue h cues d ≡ record { answer = Refused 73; cues = cues }
  unfolding deliver_cue delivery_refusal
  blank-deliver cues d = rw (v, unlinked-agrees, none-sent cues, or-true (ltb (length cues) (modules_of h.field.plan))) refl
