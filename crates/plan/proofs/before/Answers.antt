-- plan::before: the three cases of `before_by`: a none, b none, or two links, which `earlier` compares.
use Prim.Native.Nat.{ℕ, ◌<◌}
use mathlib.Core.Path.{◌≡◌}
use mathlib.Core.Logic.{◌≢◌, ◌⊎◌, inl, inr}
use borrow.Author.Tests.{ne_eqb}
use Rattle.base.specs.Limits.{max_links}
use Rattle.base.specs.None.{none, before_by}
use Rattle.plan.proofs.before.Goals as goal

link : (a : ℕ) → (a < max_links) ⊎ (a ≡ none) → a ≢ none → a < max_links
link a (inl l) d = l
link a (inr e) d = absurd (d e)

pub returns-then-a-eq-NONE : goal.returns-then-a-eq-NONE
unfolding before_by
returns-then-a-eq-NONE c = rw c.if-a-eq-NONE.true

pub returns-then-b-eq-NONE : goal.returns-then-b-eq-NONE
unfolding before_by
returns-then-b-eq-NONE c = simp (ne_eqb _ _ c.if-a-eq-NONE.false, c.if-b-eq-NONE.true)

pub earlier-requires : goal.earlier-requires
earlier-requires c = (link _ c.requires.0 c.if-a-eq-NONE.false, link _ c.requires.1 c.if-b-eq-NONE.false)

pub returns : goal.returns
unfolding before_by
returns c = let e = c.before in simp (ne_eqb _ _ e.if-a-eq-NONE.false, ne_eqb _ _ e.if-b-eq-NONE.false, c.earlier.ensures)
