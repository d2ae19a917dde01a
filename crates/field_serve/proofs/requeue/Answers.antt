-- field_serve::requeue: not put back by `not_back`; else one word more, by `is-back` and `holds-one`.
use Rattle.std.proofs.Common.{◌≡◌, ◌≢◌, arith}
use Rattle.node.specs.Work.{BACK}
use Rattle.node_response.specs.Response.{answer_of}
use Rattle.field_serve.proofs.Holds.{holds_same, holds-one}
use Rattle.field_laws.proofs.Keeps.{not_back, is-back}
use Rattle.field_serve.proofs.requeue.Goals as goal

pub returns-in-Taken : goal.returns-in-Taken
returns-in-Taken c =
    let n : answer_of c.args.answer ≢ BACK = grind arith in
    λ w e. holds_same _ _ c.requires.0 _ (not_back w _ _ e n)

pub returns-in-Back : goal.returns-in-Back
returns-in-Back c =
    let b : answer_of c.args.answer ≡ BACK = grind arith in
    λ w e. holds-one _ _ c.requires.0 _ _ _ (c.requires.1 b) (is-back w _ _ e b) c.put.ensures
