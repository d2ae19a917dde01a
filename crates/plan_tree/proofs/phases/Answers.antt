use mathlib.Core.Path.{refl, ◌∙◌}
use Rattle.plan.specs.Links.{graph_of}
use Rattle.plan.proofs.laws.Weights.{order_of}
use Rattle.plan_tree.specs.laws.Forest.{finished}
use Rattle.plan_tree.specs.Lent.{at}
use Rattle.plan_tree.proofs.phases.Goals as goal

pub loop-init : goal.loop-init
loop-init c = (refl, c.requires.0.parts, c.requires.1)

pub phase-requires : goal.phase-requires
phase-requires c =
    let l = c.loop in
    let f = c.requires.0 in
    (record { few = f.few; ends = f.ends; size = l.invariant.0 ∙ f.size; parts = l.invariant.1 }, l.invariant.2)

-- the buffer keeps its length
pub shape_of-out-then-phase-eq0 : goal.shape_of-out-then-phase-eq0
shape_of-out-then-phase-eq0 c = let p = c.before.before.before in p.phase.auto.out ∙ p.loop.invariant.0

pub returns-then-phase-eq0 : goal.returns-then-phase-eq0
returns-then-phase-eq0 c =
    let p = c.before.before.before in
    let s = p.before.before.before.before.before in
    let plan = s.args.plan.now in
    let h = p.phase.ensures in
    finished (graph_of plan) (order_of plan) (at p.phase.new.label) _ s.requires.0.ends h.forest (h.over c.if-phase-eq0.true)

pub loop-smaller : goal.loop-smaller
loop-smaller c = c.phase.ensures.fewer c.if-phase-eq0.false

pub loop-preserved : goal.loop-preserved
loop-preserved c =
    let p = c.before.before.before in
    let h = p.phase.ensures in
    (p.phase.auto.out ∙ p.loop.invariant.0, h.parts, h.forest)
