-- A node's values by their number: `values` and `node_by` are inverse (`node-by`, `values-by`), and nodes of equal values are equal (`node-values`). Laws for any width.
use Rattle.std.specs.Prelude.{ℕ, zero, suc, ◌+◌, ◌<◌, ◌≡◌, refl, List, [], ◌∷◌, get_or}
use Rattle.std.proofs.Common.{not-suc-le-zero, add-zero, arith, sym, ap, ap₂, ◌∙◌}
use Rattle.node.specs.declared.Node.{Node}
use Rattle.node.specs.Work.{WIDTH, values, node_by}

-- n entries of a table, from entry k on
abbrev pub tabled : (ℕ → ℕ) → ℕ → ℕ → List ℕ
tabled f k zero = []
tabled f k (suc n) = f k ∷ tabled f (suc k) n

tabled-same : (f g : ℕ → ℕ) (n k : ℕ) → ((j : ℕ) → j < k + n → f j ≡ g j) → tabled f k n ≡ tabled g k n
tabled-same f g zero k h = refl
tabled-same f g (suc n) k h = ap₂ (λ a l. a ∷ l) (h k (omega arith)) (tabled-same f g n (suc k) (λ j l. h j (omega arith)))

tabled-at : (f : ℕ → ℕ) (n k j : ℕ) → j < n → get_or (tabled f k n) j 0 ≡ f (k + j)
tabled-at f zero k j l = absurd (not-suc-le-zero l)
tabled-at f (suc n) k zero l = ap f (sym (add-zero k))
tabled-at f (suc n) k (suc j) l = tabled-at f n (suc k) j (omega arith) ∙ ap f (omega arith)

pub node-by : (f g : ℕ → ℕ) → ((j : ℕ) → j < WIDTH → f j ≡ g j) → node_by f ≡ node_by g
node-by f g h = ap (λ l. node_by (λ j. get_or l j 0)) (tabled-same f g WIDTH 0 h)

pub node-values : (n : Node) → node_by (λ j. get_or (values n) j 0) ≡ n
node-values n = refl

pub values-by : (f : ℕ → ℕ) (j : ℕ) → j < WIDTH → get_or (values (node_by f)) j 0 ≡ f j
values-by f j l = tabled-at f WIDTH 0 j l ∙ ap f (omega arith)
