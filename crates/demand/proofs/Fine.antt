-- What a step has to leave, for the law of every step (Steps): `Fine`.
use Rattle.std.specs.Prelude.{◌≢◌}
use Rattle.base.specs.Loop.{After}
use Rattle.plan.proofs.laws.Accepted.{Accepted}
use Rattle.plan.specs.Links.{Plan}
use Rattle.field.specs.State.{State}
use Rattle.demand.proofs.Good.{Good}

pub record Fine (p : Plan) (a : Accepted p) (r : After State) : Type 0 where
  pub good : Good p a r.state
  pub no32 : r.refusal ≢ 32
  pub no33 : r.refusal ≢ 33
