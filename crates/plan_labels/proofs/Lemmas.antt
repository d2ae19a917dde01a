-- Laws of the labels, as the code keeps them (`rename-same`, `merge-turn`).
use Prim.Native.Nat.{ℕ, suc, ◌<◌}
use mathlib.Core.Path.{◌≡◌, refl, ◌∙◌}
use mathlib.Core.Bool.{Bool, true}
use mathlib.Core.List.{List}
use lib.ListN.{length, get_or}
use Rattle.base.specs.Table.{tabulate}
use Rattle.base.proofs.laws.Table.{tabulated, tabulate-ext, get_d_tabulate}
use Rattle.graph.specs.Graph.{Graph}
use Rattle.graph.specs.Labels.{rename}
use Rattle.graph.proofs.laws.Labels.{rename-elim}
use Rattle.graph.specs.Decide.{label}

-- a part that joins itself
pub rename-same : (a b : ℕ) (n : ℕ) (s : List ℕ) → length s ≡ n → a ≡ b → s ≡ tabulate n (λ v. rename a b (get_or s v 0))
rename-same a b n s e q = tabulated n (λ v. rename a b (get_or s v 0)) s e (λ k l. rename-elim (λ x. get_or s k 0 ≡ x) a b (get_or s k 0) (λ h. h ∙ q) (λ h. refl))

-- all edges
abbrev pub all : ℕ → Bool
all k = true

-- edge k, of ends u and v, is added to the labels
pub merge-turn : (g : Graph) (k n u v : ℕ) (s : List ℕ) → s ≡ tabulate n (label g all k) → u ≡ g.lo k → v ≡ g.hi k → u < n → v < n
    → tabulate n (λ w. rename (get_or s u 0) (get_or s v 0) (get_or s w 0)) ≡ tabulate n (label g all (suc k))
unfolding label
merge-turn g k n u v s e p q lo hi = tabulate-ext n (λ w. rename (get_or s u 0) (get_or s v 0) (get_or s w 0)) (label g all (suc k))
    (λ w l. rw (at u lo, at v hi, at w l, p, q))
  where
    at : (w : ℕ) → w < n → get_or s w 0 ≡ label g all k w
    at w l = rw e (get_d_tabulate n (label g all k) w l)
