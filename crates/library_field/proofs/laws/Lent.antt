-- A field made in lent memory: taken, the field and words that are given (`made-into`); refused, the field that lay there (`made-keeps`). Setup leaves the
-- words too (`refused-words`), so that nothing is altered (`setup-alters-nothing`).
use Rattle.std.specs.Prelude.{ℕ, ◌≡◌, refl, ◌≢◌, List, length, eqb, ltb}
use Rattle.std.proofs.Common.{sym}
use Rattle.base.proofs.laws.Cond.{bool_cases, eqb-diff}
use Rattle.base.specs.Loop.{After}
use Rattle.plan.specs.Links.{Plan}
use Rattle.plan.specs.Refusal.{plan_refusal}
use Rattle.field.specs.Edges.{ceiling_of}
use Rattle.field.specs.declared.Field.{Field}
use Rattle.field.specs.Held.{Held, set_up}
use Rattle.library_field.specs.Lent.{made_into, set_up_into}

pub refused-words : (p : Plan) (lent : List ℕ) → (set_up p lent).refusal ≢ 0 → (set_up p lent).state.words ≡ lent
unfolding set_up
refused-words p lent =
    bool_cases (eqb (plan_refusal p) 0)
    (λ e. bool_cases (ltb (length lent) (ceiling_of p)) (λ few. rw (e, few) (λ n. refl)) (λ room. rw (e, room) (λ n. absurd (n refl))))
    (λ e. rw e (λ n. refl))

pub setup-alters-nothing : (p : Plan) (h : Held) → (set_up_into p h).refusal ≢ 0 → (set_up_into p h).state ≡ h
unfolding made_into
setup-alters-nothing p h n = rw (eqb-diff _ 0 n, refused-words p h.words n)

module _ {made : After Held} (old : Held) (r : ℕ) (f : Field) (words : List ℕ) (e : record { refusal = r; state = record { field = f; words = words } } ≡ made) where
  pub made-into : r ≡ 0 → record { refusal = 0; state = record { field = f; words = words } } ≡ made_into made old
  unfolding made_into
  made-into z = rw (sym e, z)

  pub made-keeps : r ≢ 0 → record { refusal = r; state = record { field = old.field; words = words } } ≡ made_into made old
  unfolding made_into
  made-keeps n = rw (sym e, eqb-diff r 0 n)
