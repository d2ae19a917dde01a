-- node_edges::Edges::earliest_that: a loop; best is the `earliest` among the first k edges.
use Rattle.std.proofs.Common.{◌≡◌, ℕ, Bool, ◌<◌, IfSome}
use Rattle.base.specs.Limits.{max_links}
use Rattle.node.specs.Work.{earliest}
use Rattle.node_edges.specs.Edges.{as_own}
use Rattle.node_edges.specs.Own.{as_edge, Computes}
use Rattle.node_edges.proofs.Edges.earliest_that.Given as goal

abbrev pub invariant-loop-k : goal.invariant-loop-k
invariant-loop-k g l = record {
  edge : IfSome l.best (λ b. b < max_links);
  found : (f : ℕ → Bool) → Computes ((as_own l.self).own) (goal.F-post g l.test) f → as_edge l.best ≡ earliest (as_own l.self) f l.k;
}
