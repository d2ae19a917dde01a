-- Setup by its outcomes: the plan refused (`setup-bad`), 21 (`setup-few`), or set up (`setup-done`).
use Prim.Native.Nat.{ℕ, ◌≤◌, ◌<◌}
use mathlib.Core.Path.{◌≡◌, sym, ◌∙◌}
use mathlib.Core.Logic.{◌≢◌}
use mathlib.Core.List.{List}
use lib.ListN.{length, replicate}
use Rattle.std.specs.Prelude.{Ok, Err}
use borrow.Author.Tests.{eq-eqb, ne_eqb, lt-ltb, le-ltb}
use Rattle.refusal.specs.declared.Refusal.{Refusal}
use Rattle.refusal.specs.declared.Refusal.TheVariants.{TooFewWords}
use Rattle.refusal.specs.Number.{numbered}
use Rattle.plan.specs.Links.{Plan, links_of}
use Rattle.plan.specs.Trimmed.{trimmed}
use Rattle.plan.specs.Refusal.{plan_refusal}
use Rattle.plan.proofs.laws.Accepted.{accepted}
use Rattle.base.specs.Limits.{max_links}
use Rattle.field.specs.declared.Field.{Field}
use Rattle.field.specs.Edges.{ceiling_of}
use Rattle.field.specs.Held.{fresh, set_up}
use Rattle.host_setup.specs.Made.{field_made}

pub setup-links : (p : Plan) (r : ℕ) → r ≡ plan_refusal p → r ≡ 0 → links_of p ≤ max_links
setup-links p r e z = (accepted p (sym e ∙ z)).links_ok

module _ (p : Plan) (lent : List ℕ) (r : ℕ) (e : r ≡ plan_refusal p) where
  pub setup-bad : r ≢ 0 → (number : Refusal) → numbered number ≡ r → field_made (Err number) lent ≡ set_up p lent
  unfolding set_up
  setup-bad n number b = rw b (sym (simp (ne_eqb (plan_refusal p) 0 (λ q. n (e ∙ q))) (rw e)))

  module _ (z : r ≡ 0) where
    pub setup-few : length lent < ceiling_of p → field_made (Err TooFewWords) lent ≡ set_up p lent
    unfolding set_up
    setup-few l = sym (simp (eq-eqb (plan_refusal p) 0 (sym e ∙ z), lt-ltb _ _ l))

    pub setup-done : ceiling_of p ≤ length lent → (f : Field) → f ≡ fresh (trimmed p) → (words : List ℕ) → words ≡ replicate (length lent) 0 → field_made (Ok f) words ≡ set_up p lent
    unfolding set_up
    setup-done l f g words w = rw (g, w) (sym (simp (eq-eqb (plan_refusal p) 0 (sym e ∙ z), le-ltb _ _ l)))
