-- A step by its kind (`wake-is-step`, `hand-is-step`, `serve-is-step`), and 54 for any other (`other-is-54`). A step given alone: 31 (`alone-31`), or the step on
-- the field's state (`alone-step`).
use Rattle.std.specs.Prelude.{ℕ, ◌≡◌, ◌≢◌, true, false}
use Rattle.std.proofs.Math.Path.{refl}
use borrow.Author.Tests.{ne_eqb}
use Rattle.base.specs.Loop.{After, refused_by}
use Rattle.plan.specs.Links.{Plan}
use Rattle.field.specs.State.{State}
use Rattle.field.specs.Step.{wake, hand, serve, step}
use Rattle.field.specs.Held.{Held, state_of, held_of, valid, step_alone}

module _ (p : Plan) (kind number : ℕ) (s : State) where
  pub wake-is-step : kind ≡ 1 → wake p number s ≡ step p kind number s
  unfolding step
  wake-is-step e = rw e refl

  pub hand-is-step : kind ≡ 2 → hand p number s ≡ step p kind number s
  unfolding step
  hand-is-step e = rw e refl

  pub serve-is-step : kind ≡ 3 → serve p number s ≡ step p kind number s
  unfolding step
  serve-is-step e = rw e refl

  pub other-is-54 : kind ≢ 1 → kind ≢ 2 → kind ≢ 3 → step p kind number s ≡ refused_by 54 s
  unfolding step
  other-is-54 a b c = simp (ne_eqb kind 1 a, ne_eqb kind 2 b, ne_eqb kind 3 c)

-- a step's end, with the words laid out again
abbrev pub laid_after : Held → After State → After Held
laid_after h a = record { refusal = a.refusal; state = held_of h a.state }

module _ (kind number : ℕ) (h : Held) where
  pub alone-31 : valid h ≡ false → refused_by 31 h ≡ step_alone kind number h
  unfolding step_alone
  alone-31 e = rw e refl

  pub alone-step : valid h ≡ true → laid_after h (step h.field.plan kind number (state_of h)) ≡ step_alone kind number h
  unfolding step_alone
  alone-step e = rw e refl
