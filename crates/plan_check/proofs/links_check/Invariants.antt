-- plan_check::links_check: the refusal of all links is that of the links from k on (`links-go`).
use Rattle.std.proofs.Common.{◌≡◌, ◌-◌}
use Rattle.plan.specs.Links.{links_of}
use Rattle.plan.specs.Refusal.{links_refusal}
use Rattle.plan_check.proofs.links_check.Given as goal

abbrev pub invariant-loop-k : goal.invariant-loop-k
invariant-loop-k l = links_refusal l.p (links_of l.p) 0 ≡ links_refusal l.p (links_of l.p - l.k) l.k
