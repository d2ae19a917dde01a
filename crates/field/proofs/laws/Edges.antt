-- One law for each outcome of the definitions of own links (`own-lower`, `own-higher`), ends (`end-lower`, `end-higher`) and marks (`mark-own`, `mark-not`).
use Rattle.std.specs.Prelude.{ℕ, ◌+◌, ◌*◌, ◌<◌, ◌≡◌, refl, ◌≢◌, Bool, true, false, ◌&&◌, List, get_or, eqb}
use Rattle.std.proofs.Common.{arith}
use Rattle.std.proofs.Math.Bool.{cond}
use borrow.Author.Tests.{eq-eqb, ne_eqb, lt-ltb, ltb-true}
use Rattle.base.proofs.laws.Cond.{eqb-cases}
use Rattle.base.specs.Limits.{max_links, max_ends}
use Rattle.plan.specs.Links.{Plan, links_of, lower_of, higher_of}
use Rattle.field.specs.Edges.{is_own, end_of, marks_in}

both_true : (a b : Bool) → (a && b) ≡ true → a ≡ true
both_true true b h = refl
both_true false b h = h

module _ (p : Plan) (v k : ℕ) where
  module _ (l : k < links_of p) where
    pub own-lower : lower_of p k ≡ v → is_own p v k ≡ true
    unfolding is_own
    own-lower h = simp (lt-ltb _ _ l, eq-eqb _ _ h)

    pub own-higher : lower_of p k ≢ v → is_own p v k ≡ eqb (higher_of p k) v
    unfolding is_own
    own-higher h = simp (lt-ltb _ _ l, ne_eqb _ _ h)

  pub own_below : is_own p v k ≡ true → k < links_of p
  unfolding is_own
  own_below h = ltb-true _ _ (both_true _ _ h)

  pub mark-own : (marks : List ℕ) → is_own p v k ≡ true → marks_in p marks v k ≡ get_or marks (end_of p v k) 0
  unfolding marks_in
  mark-own marks h = simp h

  pub mark-not : (marks : List ℕ) → is_own p v k ≡ false → marks_in p marks v k ≡ 0
  unfolding marks_in
  mark-not marks h = simp h

  pub end-lower : lower_of p k ≡ v → end_of p v k ≡ 2 * k
  unfolding end_of
  end-lower h = simp (eq-eqb _ _ h)

  pub end-higher : lower_of p k ≢ v → end_of p v k ≡ 2 * k + 1
  unfolding end_of
  end-higher h = simp (ne_eqb _ _ h)

  pub end-small : k < max_links → end_of p v k < max_ends
  unfolding end_of
  end-small h = eqb-cases (lower_of p k) v (λ b. cond b (2 * k) (2 * k + 1) < max_ends) (λ e. omega arith) (λ e. omega arith)
