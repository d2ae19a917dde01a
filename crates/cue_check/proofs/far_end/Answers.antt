-- cue_check::far_end: the definition's two cases, even and odd; it is below N by `dest-below`.
use Prim.Native.Nat.{◌%◌}
use native.Mathlib.Omega.{arith}
use mathlib.Core.Path.{◌≡◌, ◌∙◌}
use borrow.Author.Tests.{eq-eqb, ne_eqb}
use Rattle.field.specs.Edges.{dest}
use Rattle.field_laws.proofs.Places.{dest-below}
use Rattle.cue_check.proofs.far_end.Goals as goal

pub returns-then-d-eq1 : goal.returns-then-d-eq1
returns-then-d-eq1 c =
    let s = c.before.before in
    let e : c.lower.result ≡ dest s.args.plan.now s.args.d = c.lower.ensures ∙ simp (ne_eqb (s.args.d % 2) 0 (λ q. omega (arith, c.if-d-eq1.true))) in
    (e, omega (arith, dest-below s.args.plan.now s.requires.0 s.args.d s.requires.1))

pub returns : goal.returns
returns c =
    let s = c.before.before in
    let e : c.higher.result ≡ dest s.args.plan.now s.args.d = c.higher.ensures ∙ simp (eq-eqb (s.args.d % 2) 0 (omega (arith, c.if-d-eq1.false))) in
    (e, omega (arith, dest-below s.args.plan.now s.requires.0 s.args.d s.requires.1))
