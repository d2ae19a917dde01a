-- A directed link past the links that a plan has room for leads to module 0, as the definition reads it (`dest-past`); an even one to its link's higher module
-- (`dest-even`), an odd one to the lower (`dest-odd`).
use Prim.Native.Nat.{ℕ, ◌+◌, ◌*◌, ◌%◌, ◌≤◌}
use native.Mathlib.Omega.{arith}
use mathlib.Core.Path.{◌≡◌, refl, ◌∙◌}
use mathlib.Core.Logic.{◌≢◌}
use borrow.Author.Tests.{eq-eqb, ne_eqb}
use mathlib.Core.Bool.{Bool, true, false, cond}
use lib.ListN.{length, get_or-eq_default}
use lib.Dec.{eqb}
use Rattle.field.specs.Edges.{link_of, dest}
use Rattle.base.specs.Limits.{max_links}
use Rattle.plan.specs.Links.{Plan, plan_size, lower_of, higher_of}

both : (b : Bool) → ◌≡◌ {A = ℕ} (cond b 0 0) 0
both true = refl
both false = refl

pub dest-past : (p : Plan) (d : ℕ) → length p ≡ plan_size → max_links ≤ link_of d → dest p d ≡ 0
dest-past p d e h = rw (get_or-eq_default p 0 {n = 2 + 4 * link_of d} (omega arith), get_or-eq_default p 0 {n = 3 + 4 * link_of d} (omega arith)) (both (eqb (d % 2) 0))

module _ (p : Plan) (d k r : ℕ) (e : k ≡ link_of d) where
  pub dest-even : d % 2 ≡ 0 → r ≡ higher_of p k → r ≡ dest p d
  dest-even z h = h ∙ rw (e, eq-eqb (d % 2) 0 z) refl

  pub dest-odd : d % 2 ≢ 0 → r ≡ lower_of p k → r ≡ dest p d
  dest-odd z h = h ∙ rw (e, ne_eqb (d % 2) 0 z) refl
