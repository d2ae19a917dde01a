-- The links that the bytes of the whole tree mark are its branches (`marked-branches`).
use Prim.Native.Nat.{ℕ, ◌≤◌, ◌<◌}
use native.Mathlib.Omega.{arith}
use mathlib.Core.Path.{◌≡◌, sym, ap, ◌∙◌}
use mathlib.Core.Bool.{true}
use mathlib.Core.List.{List}
use lib.ListN.{length, get_or}
use Rattle.base.proofs.laws.Cond.{bool_cases}
use Rattle.base.specs.Cond.{bit}
use Rattle.base.specs.Limits.{max_links}
use Rattle.base.proofs.laws.Table.{get_d_tabulate, length-tabulate}
use Rattle.plan.specs.Links.{Plan, links_of}
use Rattle.plan_tree.specs.Tree.{tree_link, tree_bytes}
use Rattle.path_search.specs.Spread.{Branches, ListsTree}

-- the bytes of a plan's tree
pub marked-branches : (p : Plan) (tree list : List ℕ) (n : ℕ) → links_of p ≤ max_links → tree ≡ tree_bytes p → ListsTree tree (length tree) list n → Branches p list n
unfolding tree_bytes
marked-branches p tree list n few e m = record {
  size = m.size;
  few = omega (arith, m.few, size);
  tree = λ i l. let b = m.marked i l in let below : get_or list i 0 < links_of p = omega (arith, b.0, size) in (below, is-tree (get_or list i 0) below b.1);
  all = λ k l t. m.all k (omega (arith, size)) (byte k l ∙ ap bit t);
}
  where
    size : length tree ≡ links_of p
    size = ap length e ∙ length-tabulate (links_of p) (λ k. bit (tree_link p k))

    byte : (k : ℕ) → k < links_of p → get_or tree k 0 ≡ bit (tree_link p k)
    byte k l = ap (λ s. get_or s k 0) e ∙ get_d_tabulate (links_of p) (λ k. bit (tree_link p k)) k l

    is-tree : (k : ℕ) → k < links_of p → get_or tree k 0 ≡ 1 → tree_link p k ≡ true
    is-tree k l o = bool_cases (tree_link p k) (λ t. t) (λ f. absurd (omega (arith, sym o ∙ byte k l ∙ ap bit f)))
