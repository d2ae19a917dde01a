-- plan_tree::scan_edge: an edge within a part is `skipped`, one between two parts `offered` to both.
use Prim.Native.Nat.{ℕ, ◌<◌}
use mathlib.Core.List.{List}
use native.Mathlib.Omega.{arith}
use mathlib.Core.Path.{◌≡◌, sym, ap, ◌∙◌}
use Rattle.base.specs.Limits.{max_modules}
use Rattle.plan.specs.Links.{graph_of}
use Rattle.plan_tree.specs.laws.Phase.{apart-inside, apart-leaves}
use Rattle.plan_tree.specs.Lent.{at, LabelsFit}
use Rattle.plan_tree.proofs.Offers.{held, held-once, skipped, offered}
use Rattle.plan_tree.proofs.scan_edge.Goals as goal

pub bounds-label-lower : goal.bounds-label-lower
bounds-label-lower c = omega (arith, c.lower.ensures, c.requires.1)

pub bounds-label-higher : goal.bounds-label-higher
bounds-label-higher c = omega (arith, c.higher.ensures, c.requires.2)

-- the part of an end, and that it is a part
part : (label : List ℕ) {r i e : ℕ} → r ≡ at label i → i ≡ e → r ≡ at label e
part label p q = p ∙ ap (at label) q

in_range : (label : List ℕ) {r e : ℕ} → LabelsFit label → e < max_modules → r ≡ at label e → r < max_modules
in_range label {e = e} f l p = omega (arith, p, f.range e l)

pub returns-then-a-b : goal.returns-then-a-b
returns-then-a-b c =
    let a = c.args in
    let low = part a.label.now c.from-a.ensures c.lower.ensures in
    let high = part a.label.now c.from-b.ensures c.higher.ensures in
    let inside = sym low ∙ c.if-a-b.true ∙ high in (
      sym (apart-inside (graph_of a.plan.now) (at a.label.now) a.k inside),
      skipped a.plan.now a.label.now a.best.now a.k c.requires.0 c.requires.4 inside,
    )

pub offer-requires : goal.offer-requires
offer-requires c =
    let a = c.args in
    let low = in_range a.label.now c.requires.3 c.requires.1 (part a.label.now c.from-a.ensures c.lower.ensures) in
    (low, c.requires.0, held a.plan.now a.label.now a.best.now a.k c.requires.0 c.requires.4 _ low)

pub offer-requires-2 : goal.offer-requires-2
offer-requires-2 c =
    let a = c.args in
    let low = part a.label.now c.from-a.ensures c.lower.ensures in
    let high = part a.label.now c.from-b.ensures c.higher.ensures in
    let within = in_range a.label.now c.requires.3 c.requires.2 high in (
      within,
      c.requires.0,
      rw c.offer.ensures
          (held-once a.plan.now a.label.now a.best.now a.k c.requires.0 c.requires.4 _ _ (in_range a.label.now c.requires.3 c.requires.1 low) within low high c.if-a-b.false),
    )

pub returns : goal.returns
returns c =
    let a = c.args in
    let low = part a.label.now c.from-a.ensures c.lower.ensures in
    let high = part a.label.now c.from-b.ensures c.higher.ensures in
    let d = c.if-a-b.false in (
      sym (apart-leaves (graph_of a.plan.now) (at a.label.now) a.k (λ e. d (low ∙ e ∙ sym high))),
      rw (c.offer-2.ensures, c.offer.ensures)
          (offered a.plan.now a.label.now a.best.now a.k c.requires.0 c.requires.4 _ _ (in_range a.label.now c.requires.3 c.requires.1 low) (in_range a.label.now c.requires.3 c.requires.2 high) low high d),
    )
