-- The check for 31 in the code's terms (`valid-as`); by its outcomes: the plan (`valid-plan`), fewer words than M (`valid-few`), a gap (`valid-gap`), else what
-- the state decides (`valid-fits`).
use Rattle.std.specs.Prelude.{ℕ, ◌-◌, ◌≤◌, ◌≡◌, true, refl, ◌&&◌, List, length, take, drop, eqb, leb}
use borrow.Author.Tests.{eq-eqb, le-leb}
use Rattle.plan.specs.Links.{Plan}
use Rattle.plan.specs.Refusal.{plan_refusal}
use Rattle.field.specs.Edges.{ceiling_of}
use Rattle.field.specs.Valid.{all_of, waiting_in, zero_after, fits}
use Rattle.field.specs.Held.{Held, held_from, state_of, valid}
use Rattle.field_check.specs.Checked.{state_in}
use Rattle.field_check.proofs.Words.{front, behind}
use Prim.Native.Nat.{◌<◌}
use mathlib.Core.Logic.{◌≢◌}
use mathlib.Core.Bool.{false}
use borrow.Author.Tests.{ne_eqb, lt-leb}

-- where n words wait
pub valid-as : (p : Plan) (cells marks : List ℕ) (sent : ℕ) (lent : List ℕ) (n : ℕ) → n ≡ length (waiting_in lent)
    → valid (held_from p cells marks sent lent)
    ≡ (eqb (plan_refusal p) 0 && leb (ceiling_of p) (length lent) && all_of (λ x. eqb x 0) (take (length lent - n) (drop n lent)) && fits p (state_in cells marks (take n lent) sent))
unfolding valid
valid-as p cells marks sent lent n e = rw (front lent n e, behind lent n e) refl

-- a plan that is accepted, words enough, no gap: the state decides
pub valid-fits : (h : Held) → plan_refusal h.field.plan ≡ 0 → ceiling_of h.field.plan ≤ length h.words → zero_after h.words ≡ true → valid h ≡ fits h.field.plan (state_of h)
unfolding valid
valid-fits h p l z = simp (eq-eqb _ _ p, le-leb _ _ l, z)

module _ (h : Held) where
  pub valid-plan : plan_refusal h.field.plan ≢ 0 → valid h ≡ false
  unfolding valid
  valid-plan n = simp (ne_eqb _ _ n)

  module _ (p : plan_refusal h.field.plan ≡ 0) where
    pub valid-few : length h.words < ceiling_of h.field.plan → valid h ≡ false
    unfolding valid
    valid-few l = simp (eq-eqb _ _ p, lt-leb _ _ l)

    module _ (l : ceiling_of h.field.plan ≤ length h.words) where
      pub valid-gap : zero_after h.words ≡ false → valid h ≡ false
      unfolding valid
      valid-gap z = simp (eq-eqb _ _ p, le-leb _ _ l, z)
