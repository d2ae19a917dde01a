-- The marks of request 07: they are of the modules within that many branches (`near-holds`).
use Rattle.std.specs.Prelude.{ℕ, ◌≤◌, ◌<◌, ◌≡◌, ◌&&◌, List, ◌++◌, get_or, drop, leb}
use Rattle.std.proofs.Common.{arith, ap₂, ◌∙◌, drop_at}
use Rattle.std.proofs.Math.Path.{ap}
use Rattle.std.proofs.Math.ListN.{length, length-append, length-drop, get_or-append}
use Rattle.base.specs.Cond.{bit}
use Rattle.base.proofs.laws.Table.{length-tabulate, get_d_tabulate}
use Rattle.graph.proofs.laws.Ways.{wider}
use Rattle.graph.proofs.laws.Parts.{part-together, apart-together}
use Rattle.plan.specs.Links.{graph_of, Plan, modules_of}
use Rattle.plan_tree.proofs.laws.Paths.{tree-path}
use Rattle.path.specs.Between.{tree_path}
use Rattle.path.specs.Near.{within_branches, near_bytes}
use Rattle.path.specs.Claims.{NearHolds}
use Rattle.path.proofs.laws.Steps.{path-is}

pub near-holds : (p : Plan) (m h : ℕ) (lent : List ℕ) → modules_of p ≤ length lent
    → NearHolds p m h lent (near_bytes p m h ++ drop (modules_of p) lent)
unfolding near_bytes
near-holds p m h lent fits = record {
  paths = λ v l s. tree-path p s;
  apart = λ v l d. byte v l ∙ ap (λ t. bit (t && leb (length (tree_path p m v)) h)) (apart-together (graph_of p) m v d);
  marks = λ v l q. byte v l ∙ ap₂ (λ t r. bit (t && leb (length r) h)) (part-together (graph_of p) m v (wider (λ k x y. tt) q.way)) (path-is p q);
  rest = drop_at bytes left n size;
  size = omega (arith, size, length-append bytes left, length-drop n lent);
}
  where
    n : ℕ
    n = modules_of p

    bytes : List ℕ
    bytes = near_bytes p m h

    left : List ℕ
    left = drop n lent

    size : length bytes ≡ n
    size = length-tabulate n (λ w. bit (within_branches p m h w))

    byte : (v : ℕ) → v < n → get_or (bytes ++ left) v 0 ≡ bit (within_branches p m h v)
    byte v l = get_or-append bytes left 0 v (omega (arith, size)) ∙ get_d_tabulate n (λ w. bit (within_branches p m h w)) v l
