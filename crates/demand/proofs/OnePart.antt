-- ONE PART: where the plan's links join all modules, demand 3 says what document 01 says (`demand3-one-part`). It follows from the statement by parts.
use Rattle.std.specs.Prelude.{ℕ, ◌<◌, refl, ◌≢◌}
use Rattle.std.proofs.Common.{arith}
use mathlib.Core.List.{List, [], Memᴰ}
use Rattle.base.specs.Pool.{All, nil, con}
use Rattle.plan.specs.Links.{Plan, modules_of}
use Rattle.plan.specs.Trimmed.{trimmed}
use Rattle.plan.proofs.laws.Accepted.{Accepted, accepted}
use Rattle.field.specs.State.{State}
use Rattle.field_calls.specs.Demand.{InPart, Core, Agreed, AllAgreed, Demand3OnePart}
use Rattle.field_laws.proofs.After.{started}
use Rattle.field_roundlaws.proofs.Awake.{exactly-woken}
use Rattle.demand.proofs.Demand.{demand3}

module _ (p : Plan) (s : State) (w : ℕ) (all : (v : ℕ) → v < modules_of p → InPart p w v) where
  core_all : Core p s (InPart p w) → Core p s (λ v. v < modules_of p)
  core_all c = record { link = c.link; within = c.within; tree = c.tree; inside = c.inside.0; across = c.across.0; apart = c.apart; halted = λ v l. c.halted v (all v l) }

  all-agreed : Accepted p → Agreed p s (InPart p w) → AllAgreed p s
  all-agreed a g = record {
    tree = λ k l t. g.tree k l (all _ (omega (arith, (a.each k l).ordered, (a.each k l).inside))) t;
    others = λ k l n. g.others k l (all _ (omega (arith, (a.each k l).ordered, (a.each k l).inside))) n;
    core = λ two. core_all (g.core 0 1 (all 0 (omega arith)) (all 1 two) (λ e. omega arith));
  }

-- a list that is not empty has a member
some : {P : ℕ → Type 0} {l : List ℕ} → l ≢ [] → All P l → (v : ℕ) × Memᴰ v l × P v
some n nil = absurd (n refl)
some n (con {x} h t) = (x, Memᴰ.head refl, h)

pub demand3-one-part : Demand3OnePart
demand3-one-part p lent z one cs n r =
    let k = some n ((demand3 p lent z cs).agreed r) in
    let w = ((exactly-woken p lent z cs k.0).1 k.1).within in
    all-agreed (trimmed p) _ k.0 (λ v l. (l, one k.0 v w l)) (accepted (trimmed p) (started p lent z).plan) k.2
