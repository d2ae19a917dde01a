-- The ceiling of an accepted plan fits its words (`ceiling-small`), and its level limit three bits (`level-small`).
use Rattle.std.specs.Prelude.{◌≤◌, ◌<◌, ◌≡◌}
use Rattle.std.proofs.Common.{arith}
use Rattle.base.specs.Log.{log2}
use Rattle.base.proofs.laws.Log.{log2-lt}
use Rattle.base.specs.Ceiling.{ceiling}
use Rattle.base.proofs.laws.Ceiling.{ceiling-most}
use Rattle.base.specs.Limits.{max_words}
use Rattle.plan.specs.Links.{Plan, modules_of, links_of}
use Rattle.plan.specs.Refusal.{plan_refusal}
use Rattle.plan.proofs.laws.Accepted.{Accepted, accepted}

-- an accepted plan's levels fit three bits
pub level-small : (p : Plan) → Accepted p → log2 (modules_of p) < 8
level-small p a = log2-lt 8 (modules_of p) (omega arith) (omega (arith, a.modules_ok))

-- the ceiling of the largest plan
pub ceiling-small : (p : Plan) → plan_refusal p ≡ 0 → ceiling (modules_of p) (links_of p) ≤ max_words
ceiling-small p a = let k = accepted p a in ceiling-most (modules_of p) (links_of p) k.modules_ok k.links_ok
