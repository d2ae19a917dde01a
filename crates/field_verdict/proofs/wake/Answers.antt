-- field_verdict::wake: one law for each return: `wake-41` and `wake-43`, by which it `refuses`, and `waking`.
use native.Mathlib.Omega.{arith}
use mathlib.Core.Path.{refl, sym, ap, ◌∙◌}
use borrow.Author.Tests.{leb-true, leb-false}
use Rattle.node.specs.declared.Node.{Node}
use Rattle.field_verdict.proofs.Decided.{refuses}
use Rattle.field_verdict.proofs.Steps.{wake-41, wake-43, waking}
use Rattle.field_verdict.proofs.wake.Goals as goal

pub returns-then-no_module : goal.returns-then-no_module
returns-then-no_module c =
    let e = c.before in
    refuses 41 (λ z. omega arith) (wake-41 _ _ _ (leb-true _ _ (sym e.no_module.ensures ∙ e.if-no_module.true))) refl

pub load-node-requires : goal.load-node-requires
load-node-requires c =
    let m = c.before in
    omega (arith, leb-false, sym m.no_module.ensures ∙ c.if-no_module.false, m.requires.0.modules_ok)

pub returns-then-node-ne-ASLEEP : goal.returns-then-node-ne-ASLEEP
returns-then-node-ne-ASLEEP c =
    let t = c.before in
    let o = t.before.before in
    let e = o.before in
    refuses 43 (λ z. omega arith)
    (wake-43 _ _ _ (leb-false _ _ (sym e.no_module.ensures ∙ e.if-no_module.false)) (λ q. t.if-node-ne-ASLEEP.true (ap (λ (n : Node). n.status) o.load-node.ensures ∙ q)))
    refl

pub judge-requires : goal.judge-requires
judge-requires c = c.requires.2.fits.ceiling

pub returns : goal.returns
returns c =
    waking _ _ _ _ _ _ c.requires.0 c.requires.2 (leb-false _ _ (sym c.no_module.ensures ∙ c.if-no_module.false)) _ c.load-node.ensures c.if-node-ne-ASLEEP.false _
    c.wakes-a.ensures c.judge.ensures
