-- One law for each outcome of the definitions of `Own`, and for a turn of the search (`earliest-turn`) and of the count (`number-turn`), as the code's tests meet them.
use Rattle.std.specs.Prelude.{Option, Some, None, ℕ, ◌+◌, ◌≡◌, ◌≢◌, Bool, ◌&&◌, eqb}
use Rattle.std.proofs.Common.{add-one, ap, ◌∙◌}
use Rattle.std.proofs.Math.Bool.{true, false, cond}
use borrow.Author.Tests.{eq-eqb, ne_eqb}
use Rattle.base.specs.Cond.{bit}
use Rattle.base.proofs.laws.Cond.{upd_same, upd_other}
use Rattle.base.specs.None.{before_by}
use Rattle.plan.specs.Links.{Plan}
use Rattle.plan.specs.Weights.{earlier}
use Rattle.field.specs.Edges.{is_own, own_of}
use Rattle.node.specs.Work.{Own, BASIC, BRANCH, earliest, number}
use Rattle.node_edges.specs.declared.NewMark.{NewMark}
use Rattle.node_edges.specs.Own.{marked, looked, counts}

-- the marks after a change, and where there is none
pub marked-none : (m : ℕ → ℕ) (c : Option NewMark) → c ≡ None → marked m c ≡ m
marked-none m c h = ap (marked m) h

module _ (m : ℕ → ℕ) (c : NewMark) (k : ℕ) where
  pub marked-here : c.edge ≡ k → marked m (Some c) k ≡ c.mark
  marked-here h = rw (← h) (upd_same m c.edge c.mark)

  pub marked_other : c.edge ≢ k → marked m (Some c) k ≡ m k
  marked_other h = upd_other m c.edge c.mark k h

-- whether the search looks at an edge, by the code's tests
module _ (own all : Bool) (m : ℕ → ℕ) (k : ℕ) where
  pub looks-not : own ≡ false → (own && looked all m k) ≡ false
  looks-not h = simp h

  module _ (o : own ≡ true) where
    pub looks-all : all ≡ true → (own && looked all m k) ≡ true
    unfolding looked
    looks-all h = simp (o, h)

    pub looks-basic : all ≡ false → (own && looked all m k) ≡ eqb (m k) BASIC
    unfolding looked
    looks-basic h = simp (o, h)

-- one turn: k where both tests say so, else the best so far
module _ (a b : Bool) (k best : ℕ) where
  pub pick-not : a ≡ false → cond (a && b) k best ≡ best
  pick-not h = simp h

  module _ (h : a ≡ true) where
    pub pick-late : b ≡ false → cond (a && b) k best ≡ best
    pick-late g = simp (h, g)

    pub pick-new : b ≡ true → cond (a && b) k best ≡ k
    pick-new g = simp (h, g)

module _ (p : Plan) (v : ℕ) where
  -- the search after one more turn
  pub earliest-turn : (f : ℕ → Bool) (k best : ℕ) → best ≡ earliest (own_of p v) f k
      → cond (is_own p v k && f k && before_by (earlier p) k best) k best ≡ earliest (own_of p v) f (k + 1)
  unfolding earliest
  earliest-turn f k best h = rw (h, add-one)

  -- the count after one more turn
  pub number-turn : (f : ℕ → Bool) (k : ℕ)
      → (n r : ℕ) → n ≡ number (own_of p v) f k → r ≡ bit (is_own p v k && f k)
      → n + r ≡ number (own_of p v) f (k + 1)
  unfolding number
  number-turn f k n r h g = rw (h, g, add-one)

-- a loop's value at its end
pub earliest-end : (o : Own) (f : ℕ → Bool) (r k l : ℕ) → r ≡ earliest o f k → k ≡ l → r ≡ earliest o f l
earliest-end o f r k l h e = h ∙ ap (earliest o f) e

pub number-end : (o : Own) (f : ℕ → Bool) (r k l : ℕ) → r ≡ number o f k → k ≡ l → r ≡ number o f l
number-end o f r k l h e = h ∙ ap (number o f) e

-- whether a count counts an edge, by the code's tests
module _ (own all : Bool) (j : ℕ) (m : ℕ → ℕ) (k : ℕ) where
  pub counts-not : own ≡ false → bit (own && counts all j m k) ≡ 0
  counts-not h = simp h

  module _ (o : own ≡ true) where
    pub counts_all : all ≡ true → bit (own && counts all j m k) ≡ 1
    unfolding counts
    counts_all h = simp (o, h)

    module _ (a : all ≡ false) where
      pub counts-self : k ≡ j → bit (own && counts all j m k) ≡ 0
      unfolding counts
      counts-self h = simp (o, a, eq-eqb _ _ h)

      module _ (d : k ≢ j) where
        pub counts-branch : m k ≡ BRANCH → bit (own && counts all j m k) ≡ 1
        unfolding counts
        counts-branch h = simp (o, a, ne_eqb _ _ d, eq-eqb _ _ h)

        pub counts-other : m k ≢ BRANCH → bit (own && counts all j m k) ≡ 0
        unfolding counts
        counts-other h = simp (o, a, ne_eqb _ _ d, ne_eqb _ _ h)
