-- host_reader::place_after: the definition's two cases, by what `left_from` answers.
use mathlib.Core.Path.{sym, ◌∙◌}
use borrow.Author.Tests.{eq-eqb, ne_eqb}
use Rattle.host_reader.proofs.place_after.Goals as goal

pub returns-then-left_from-eq0 : goal.returns-then-left_from-eq0
returns-then-left_from-eq0 c = simp (eq-eqb _ _ (sym c.left_from.ensures ∙ c.if-left_from-eq0.true))

pub returns : goal.returns
returns c = simp (ne_eqb _ _ (λ z. c.if-left_from-eq0.false (c.left_from.ensures ∙ z)))
