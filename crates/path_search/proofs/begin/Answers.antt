-- path_search::begin: what `start` leaves is the first level, by `start-level`.
use native.Mathlib.Omega.{arith}
use Rattle.plan.proofs.laws.Accepted.{accepted}
use Rattle.path.proofs.laws.Steps.{path_steps}
use Rattle.path_search.proofs.laws.Levels.{start-level}
use Rattle.path_search.proofs.begin.Goals as goal

pub start-requires : goal.start-requires
start-requires c =
    let s = c.before.before in
    (s.requires.2, omega (arith, s.requires.3, (accepted s.args.plan.now s.requires.0).modules_ok))

pub returns : goal.returns
returns c =
    let b = c.before.before in
    let s = b.before.before.before in
    let p = s.args.plan.now in
    let ok = accepted p s.requires.0 in
    (c.branches.ensures, start-level p s.args.v (path_steps p ok s.args.v) ok.modules_ok s.requires.3 _ _ b.start.ensures.0 b.start.ensures.1)
