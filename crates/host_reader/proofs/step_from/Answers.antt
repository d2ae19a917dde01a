-- host_reader::step_from: the definition's two cases, by what `left_from` answers; the step is what `kind` and `number` read.
use mathlib.Core.Path.{sym, ◌∙◌}
use borrow.Author.Tests.{eq-eqb, ne_eqb}
use Rattle.host_reader.proofs.step_from.Goals as goal

pub returns-then-left_from-eq0 : goal.returns-then-left_from-eq0
returns-then-left_from-eq0 c = simp (eq-eqb _ _ (sym c.left_from.ensures ∙ c.if-left_from-eq0.true))

pub returns : goal.returns
returns c =
    let k = c.before in
    let e1 = k.before in
    rw (c.number-number.ensures, k.kind-kind.ensures) (simp (ne_eqb _ _ (λ z. e1.if-left_from-eq0.false (e1.left_from.ensures ∙ z))))
