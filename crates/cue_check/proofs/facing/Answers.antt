-- cue_check::facing: past the links there is no own link, by `own_below`; else the directed link from v leads there.
use native.Mathlib.Omega.{arith}
use mathlib.Core.Path.{ap, ◌∙◌}
use Rattle.field.specs.Edges.{dest}
use Rattle.field.proofs.laws.Edges.{own_below}
use Rattle.cue_check.proofs.laws.Within.{end-within}
use Rattle.cue_check.proofs.facing.Goals as goal

pub returns-then-links-k : goal.returns-then-links-k
returns-then-links-k c =
    let a = c.args in
    (omega arith, λ own. absurd (omega (arith, own_below a.plan.now a.v a.k own, c.links.ensures, c.if-links-k.true)))

pub far_end-requires : goal.far_end-requires
far_end-requires c =
    let s = c.before.before.before in
    (s.requires, omega (arith, c.end_at.ensures, end-within s.args.plan.now s.args.v s.args.k (omega (arith, c.if-links-k.false, c.links.ensures))))

pub returns : goal.returns
returns c =
    let s = c.before.before.before.before in
    (omega (arith, c.far_end.ensures.1, s.requires.modules_ok), λ own. c.far_end.ensures.0 ∙ ap (dest s.args.plan.now) c.end_at.ensures)
