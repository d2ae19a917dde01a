-- field_verdict::judge: one law for each return: `judged-32`, `judged-33`, `judged-stands`.
use Rattle.std.proofs.Common.{refl, ◌≢◌, arith, rules}
use Rattle.node_response.specs.Response.{answer_of}
use Rattle.node.specs.Work.{REFUSED}
use Rattle.field_verdict.proofs.Decided.{judged-32, judged-33, judged-stands}
use Rattle.field_verdict.proofs.judge.Goals as goal

pub returns-then-eq : goal.returns-then-eq
returns-then-eq c = judged-32 _ _ _ _ _ _ _ (search rules) refl

pub returns-then-ceiling_of-sent : goal.returns-then-ceiling_of-sent
returns-then-ceiling_of-sent c =
    let n : answer_of c.args.a.answer ≢ REFUSED = grind arith in
    judged-33 _ _ _ _ _ _ _ n _ c.count_sends-c.ensures.count (omega (arith, c.ceiling_of.ensures, c.requires)) refl

pub returns : goal.returns
returns c =
    let n : answer_of c.args.a.answer ≢ REFUSED = grind arith in
    judged-stands _ _ _ _ _ _ _ n _ c.count_sends-c.ensures.count (omega (arith, c.ceiling_of.ensures, c.requires))
