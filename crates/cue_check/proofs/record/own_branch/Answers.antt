-- cue_check::record::own_branch: past the links it is no own link, by `own_below`.
use Rattle.std.proofs.Common.{arith}
use Rattle.base.proofs.laws.Cond.{bool_cases}
use Rattle.field.specs.Edges.{is_own}
use Rattle.field.proofs.laws.Edges.{own_below}
use Rattle.cue_check.proofs.record.own_branch.Goals as goal

pub returns-then-links-k : goal.returns-then-links-k
returns-then-links-k c =
    let a = c.args in
    bool_cases (is_own a.plan.now a.v a.k) (λ own. absurd (omega (arith, own_below a.plan.now a.v a.k own))) (λ f. rw f)
