-- What the calls answer, by what was found: a path (`told-path`), marks (`marks-told`).
use Prim.Native.Nat.{ℕ, ◌≤◌, ◌<◌, ◌-◌, min}
use native.Mathlib.Omega.{arith}
use mathlib.Core.Path.{◌≡◌, ap, subst, ◌∙◌}
use mathlib.Core.List.{List, ◌++◌}
use lib.ListN.{length, drop}
use Rattle.base.specs.Loop.{After}
use Rattle.base.specs.Table.{tabulate}
use Rattle.graph.specs.Parts.{SamePart}
use Rattle.plan.specs.Links.{graph_of, Plan, modules_of}
use Rattle.plan.specs.Refusal.{plan_refusal}
use Rattle.plan.proofs.laws.Accepted.{accepted}
use Rattle.path.specs.Between.{tree_path, worst_on, path_between}
use Rattle.path.specs.Near.{mark_near}
use Rattle.path.proofs.laws.Outcomes.{path-taken, near-taken}
use Rattle.path_search.specs.Spread.{hops_to, KnownWithin}
use Rattle.host_path.proofs.Known.{known_at, known-marks}

-- a path that was found and written
module _ (p : Plan) (u v : ℕ) (buffer : List ℕ) (ok : plan_refusal p ≡ 0) (lu : u < modules_of p) (lv : v < modules_of p) (s : SamePart (graph_of p) u v) where
  pub told-path : (n worst : ℕ) (out : List ℕ) → n ≡ hops_to p v u → n ≤ length buffer
      → (worst ≡ worst_on p (tree_path p u v)) × (out ≡ tree_path p u v ++ drop (hops_to p v u) buffer)
      → record { answer = record { refusal = 0; way = 1; length = n; worst = worst }; buffer = out } ≡ path_between p u v buffer
  told-path n worst out en fits w = rw (en, w.0, w.1) (path-taken p u v buffer ok lu lv s (omega arith))

-- marks that were written
pub marks-told : (p : Plan) (m h n most : ℕ) (hops buffer out : List ℕ) → plan_refusal p ≡ 0 → n ≡ modules_of p → m < n → n ≤ length buffer → most ≡ min h (n - 1)
    → KnownWithin p m most hops → out ≡ tabulate n (known_at hops) ++ drop n buffer
    → ◌≡◌ {A = After (List ℕ)} (record { refusal = 0; state = out }) (mark_near p m h buffer)
marks-told p m h n most hops buffer out ok en l fits e k q =
    let low : m < modules_of p = omega arith in
    let known = subst (λ x. KnownWithin p m x hops) (e ∙ ap (λ x. min h (x - 1)) en) k in
    rw (q, en, known-marks p (accepted p ok) m h hops known) (near-taken p m h buffer ok low (omega arith))
