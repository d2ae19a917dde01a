-- cue_check::near_end: the definition's two cases, even and odd; it is below N by `from-below`.
use native.Mathlib.Omega.{arith}
use mathlib.Core.Path.{◌≡◌, ◌∙◌}
use borrow.Author.Tests.{eq-eqb, ne_eqb}
use Rattle.field.specs.Edges.{from}
use Rattle.field_laws.proofs.Places.{from-below}
use Rattle.cue_check.proofs.near_end.Goals as goal

pub returns-then-d-eq0 : goal.returns-then-d-eq0
returns-then-d-eq0 c =
    let s = c.before.before in
    let e : c.lower.result ≡ from s.args.plan.now s.args.d = c.lower.ensures ∙ simp (eq-eqb _ _ c.if-d-eq0.true) in
    (e, omega (arith, from-below s.args.plan.now s.requires.0 s.args.d s.requires.1))

pub returns : goal.returns
returns c =
    let s = c.before.before in
    let e : c.higher.result ≡ from s.args.plan.now s.args.d = c.higher.ensures ∙ simp (ne_eqb _ _ c.if-d-eq0.false) in
    (e, omega (arith, from-below s.args.plan.now s.requires.0 s.args.d s.requires.1))
