-- A step by its kind, as its preview: 31 and 54 (`preview-31`, `preview-54`), a hand-over (`hand-refused`, `hand-shown`), a wakeup or a service that was decided (`wake-verdict`,
-- `serve-verdict`).
use Prim.Native.Nat.{ℕ}
use native.Mathlib.Omega.{arith}
use mathlib.Core.Path.{◌≡◌, refl, sym, ap, subst, ◌∙◌}
use mathlib.Core.Logic.{◌≢◌}
use mathlib.Core.Bool.{true, false}
use mathlib.Core.List.{List, []}
use lib.ListN.{length}
use Rattle.base.specs.Loop.{After}
use Rattle.std.specs.Prelude.{Result, Ok, Err}
use Rattle.refusal.specs.declared.Refusal.{Refusal}
use Rattle.refusal.specs.Number.{numbered, refusal_in}
use Rattle.refusal.proofs.laws.Number.{positive}
use Rattle.plan.specs.Links.{Plan}
use Rattle.node.specs.Work.{Work}
use Rattle.field.specs.State.{State, posted}
use Rattle.field.specs.Step.{wake_work, wake, serve_work, serve, step}
use Rattle.field.specs.Held.{Held, state_of, valid, step_alone}
use Rattle.field.proofs.laws.Step.{wake-is-step, hand-is-step, serve-is-step, other-is-54, alone-31, alone-step}
use Rattle.field_calls.specs.Trail.{step_taken, served_word, sends_at}
use Rattle.field_words.specs.Hands.{handable}
use Rattle.field_words.proofs.Outcomes.{handed_by, hand-is}
use Rattle.field_verdict.specs.Verdict.{Verdict, Decided}
use Rattle.preview.specs.Preview.{not_shown, shown, would_send, preview}
use Rattle.preview.proofs.laws.Outcomes.{preview-refused}
use Rattle.preview.proofs.laws.Claim.{hand-shows-none}
use Rattle.host_preview.specs.Previews.{Showable, VerdictOf}

-- what was decided can be shown, whatever the step
pub showable : {a : After State} {w : Work} {p : Plan} {v : ℕ} {s : State} {d : Verdict} → Decided a w p v s d → d.refusal ≡ 0 → Showable p s.marks v d
showable x z =
    let c = x.can z in
    record { count = c.count ∙ ap (λ (w : Work). length w.sends) (sym c.work); waiting = _; feasible = c.feasible }

-- a hand-over carried out is refused as it was decided
by-place : (s : State) (r : Result ℕ Refusal) → (handed_by r s).refusal ≡ refusal_in r
by-place s (Ok a) = refl
by-place s (Err r) = refl

module _ (kind number : ℕ) (h : Held) (buffer : List ℕ) where
  -- a refusal that is known, told with nothing beside it
  refused-as : {r : ℕ} → (step_alone kind number h).refusal ≡ r → r ≢ 0 → not_shown r buffer ≡ preview kind number h buffer
  refused-as e n = ap (λ (z : ℕ). not_shown z buffer) (sym e) ∙ sym (preview-refused kind number h buffer (λ z. n (sym e ∙ z)))

  pub preview-31 : valid h ≡ false → not_shown 31 buffer ≡ preview kind number h buffer
  preview-31 e = refused-as (ap (λ (x : After Held). x.refusal) (sym (alone-31 kind number h e))) (λ z. omega arith)

  module _ (ok : valid h ≡ true) where
    abbrev p : Plan
    p = h.field.plan

    alone : {a : After State} → a ≡ step p kind number (state_of h) → (step_alone kind number h).refusal ≡ a.refusal
    alone e = ap (λ (x : After Held). x.refusal) (sym (alone-step kind number h ok)) ∙ sym (ap (λ (x : After State). x.refusal) e)

    pub preview-54 : kind ≢ 1 → kind ≢ 2 → kind ≢ 3 → not_shown 54 buffer ≡ preview kind number h buffer
    preview-54 a b c = refused-as (alone (sym (other-is-54 p kind number (state_of h) a b c))) (λ z. omega arith)

    hand-tells : kind ≡ 2 → {r : Result ℕ Refusal} (words : List ℕ) → words ≡ (state_of h).words → r ≡ handable p number words → (step_alone kind number h).refusal ≡ refusal_in r
    hand-tells e {r} words w q =
        alone (hand-is-step p kind number (state_of h) e) ∙ ap (λ (x : After State). x.refusal) (hand-is p number (state_of h))
        ∙ by-place (state_of h) (handable p number (state_of h).words) ∙ ap (λ (l : List ℕ). refusal_in (handable p number l)) (sym w) ∙ ap (λ (y : Result ℕ Refusal). refusal_in y) (sym q)

    shows-none : kind ≡ 2 → (step_alone kind number h).refusal ≡ 0 → preview kind number h buffer ≡ shown [] buffer
    shows-none e = rw e (hand-shows-none number h buffer)

    -- the words that the code passes on are those that wait
    pub hand-refused : kind ≡ 2 → {r : Refusal} (words : List ℕ) → words ≡ (state_of h).words → Err r ≡ handable p number words
        → not_shown (numbered r) buffer ≡ preview kind number h buffer
    hand-refused e {r} words w q = refused-as (hand-tells e words w q) (positive r)

    pub hand-shown : kind ≡ 2 → {a : ℕ} (words : List ℕ) → words ≡ (state_of h).words → Ok a ≡ handable p number words
        → shown [] buffer ≡ preview kind number h buffer
    hand-shown e words w q = sym (shows-none e (hand-tells e words w q))

    -- both in one
    pub preview-hand : kind ≡ 2 → (r : Result ℕ Refusal) (words : List ℕ) → words ≡ (state_of h).words → r ≡ handable p number words
        → not_shown (refusal_in r) buffer ≡ preview kind number h buffer
    preview-hand e (Ok a) words w q = hand-shown e words w q
    preview-hand e (Err x) words w q = hand-refused e words w q

    -- so is their state
    module _ (s : State) (same : s ≡ state_of h) {d : Verdict} where
      verdict-of : {a : After State} {w : Work} → a ≡ step p kind number (state_of h) → sends_at p (step_taken kind number (state_of h)) ≡ w.sends
          → Decided a w p number (state_of h) d → VerdictOf kind number h d
      unfolding would_send
      verdict-of e q x = record {
        refusal = alone e ∙ ap (λ (y : After State). y.refusal) x.is;
        words = λ z. ap (posted p number) (q ∙ sym (ap (λ (w : Work). w.sends) (x.can z).work));
      }

      pub wake-verdict : kind ≡ 1 → Decided (wake p number s) (wake_work p number s) p number s d → VerdictOf kind number h d
      unfolding sends_at
      wake-verdict e x = verdict-of (wake-is-step p kind number (state_of h) e) (rw e refl)
          (subst (λ (t : State). Decided (wake p number t) (wake_work p number t) p number t d) same x)

      pub serve-verdict : kind ≡ 3 → Decided (serve p number s) (serve_work p number (served_word p number s) s) p number s d → VerdictOf kind number h d
      unfolding sends_at
      serve-verdict e x = verdict-of (serve-is-step p kind number (state_of h) e) (rw e refl)
          (subst (λ (t : State). Decided (serve p number t) (serve_work p number (served_word p number t) t) p number t d) same x)
