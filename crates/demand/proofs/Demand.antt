-- DEMAND 3: proved, with no premise (`demand3`).
use Rattle.plan.proofs.laws.Accepted.{Accepted}
use Rattle.plan.specs.Links.{Plan}
use Rattle.field_calls.specs.Demand.{Demand3}
use Rattle.field_roundlaws.proofs.Reduce.{Protocol, demand3-from}
use Rattle.demand.proofs.Good.{Good, good_start}
use Rattle.demand.proofs.Steps.{step-fine}
use Rattle.demand.proofs.Rest.{stuck-none}
use Rattle.demand.proofs.Agree.{branch-tree, agreed}
use Rattle.demand.proofs.Asleep.{as-at-setup}

-- what the reduction asks of the protocol, for each accepted plan
pub protocol : (p : Plan) (a : Accepted p) → Protocol p (Good p a)
protocol p a = record {
  start = good_start p a;
  keeps = λ kind number s i g. (step-fine p a s i g kind number).good;
  unrefused = λ kind number s i g. ((step-fine p a s i g kind number).no32, (step-fine p a s i g kind number).no33);
  stuck = λ s i g. stuck-none p a s g i;
  branches = λ s i g. branch-tree p a s g;
  agreed = λ s i g. agreed p a s g;
  asleep = λ lent s i g. as-at-setup p a s g i lent;
}

-- THE THEOREM
pub demand3 : Demand3
demand3 = demand3-from (λ p a. (Good p a, protocol p a))
