-- Borůvka's algorithm, as laws of two tables: lab v is the part (fragment) of node v, t k is 1 where edge k is marked. An edge joined keeps the forest
-- (`joined-forest`), and a forest with no edge left between parts is the tree (`finished`). Nodes are the numbers below the limit of modules; nothing here
-- needs a connected graph.
use Rattle.std.specs.Prelude.{ℕ, ◌≤◌, ◌<◌, ◌≡◌, refl, ◌≢◌, Bool}
use Rattle.std.proofs.Common.{arith, sym, ap, subst, ◌∙◌, inl, inr}
use Rattle.base.proofs.laws.Cond.{by-eq}
use Rattle.base.specs.Limits.{max_modules}
use Rattle.graph.specs.Graph.{Graph, Joins, up, down}
use Rattle.graph.specs.Order.{Order, InTree}
use Rattle.graph.specs.Labels.{rename}
use Rattle.graph.proofs.laws.Labels.{Labels, With, rename-elim, rename-from, rename-to, labels-add, labels-same, labels-none}
use Rattle.graph.proofs.laws.Cycle.{needed}

-- the ends of each edge are nodes
abbrev pub Ends : Graph → Type 0
Ends g = (k : ℕ) → k < g.L → (g.lo k < max_modules) × (g.hi k < max_modules)

abbrev pub IsNode : ℕ → Type 0
IsNode v = v < max_modules

abbrev pub Marked : (ℕ → ℕ) → ℕ → Type 0
Marked t k = t k ≡ 1

-- both ends of edge k are in one part
abbrev pub Inside : Graph → (ℕ → ℕ) → ℕ → Type 0
Inside g lab k = lab (g.lo k) ≡ lab (g.hi k)

-- the parts are those that the marked edges make, and the marked edges are tree edges
pub record Forest (g : Graph) (earlier : ℕ → ℕ → Bool) (lab t : ℕ → ℕ) : Type 0 where
  pub parts : Labels g IsNode (Marked t) lab
  pub tree : (k : ℕ) → k < g.L → t k ≡ 1 → InTree g earlier k
  pub byte : (k : ℕ) → k < g.L → t k ≤ 1

ends-node : {g : Graph} {e u v : ℕ} → Ends g → Joins g e u v → (u < max_modules) × (v < max_modules)
ends-node {g} {e} ends (up l p q) = (omega (arith, (ends e l).0), omega (arith, (ends e l).1))
ends-node {g} {e} ends (down l p q) = (omega (arith, (ends e l).1), omega (arith, (ends e l).0))

-- the same labels of the nodes
labels-ext : {g : Graph} {S : ℕ → Type 0} {lab lab' : ℕ → ℕ} → Ends g → ((v : ℕ) → v < max_modules → lab' v ≡ lab v) → Labels g IsNode S lab → Labels g IsNode S lab'
labels-ext ends same l = record {
  sound = λ u v du dv e. l.sound u v du dv (sym (same u du) ∙ e ∙ same v dv);
  whole = λ e u v j s. let n = ends-node ends j in same u n.0 ∙ l.whole e u v j s ∙ sym (same v n.1);
}

-- THE START: each node a part, no edge marked
pub forest-start : (g : Graph) (earlier : ℕ → ℕ → Bool) (lab t : ℕ → ℕ) → Ends g → ((v : ℕ) → v < max_modules → lab v ≡ v) → ((k : ℕ) → k < g.L → t k ≡ 0)
    → Forest g earlier lab t
forest-start g earlier lab t ends own clear = record {
  parts = labels-same (λ e l s. absurd s) (λ e l s. omega (arith, clear e l)) (labels-ext ends own (labels-none g IsNode));
  tree = λ k l m. absurd (omega (arith, clear k l));
  byte = λ k l. omega (arith, clear k l);
}

-- ONE JOIN: edge k is marked, and the part of its lower end becomes the part of its higher end
pub record Joined (g : Graph) (k : ℕ) (lab t lab' t' : ℕ → ℕ) : Type 0 where
  pub labels : (v : ℕ) → v < max_modules → lab' v ≡ rename (lab (g.lo k)) (lab (g.hi k)) (lab v)
  pub marked : t' k ≡ 1
  pub others : (j : ℕ) → k ≢ j → t' j ≡ t j

-- nodes of one part stay together
abbrev pub Coarser : (ℕ → ℕ) → (ℕ → ℕ) → Type 0
Coarser lab lab' = (u v : ℕ) → u < max_modules → v < max_modules → lab u ≡ lab v → lab' u ≡ lab' v

module _ {g : Graph} {k : ℕ} {lab t lab' t' : ℕ → ℕ} (j : Joined g k lab t lab' t') where
  pub joined-coarser : Coarser lab lab'
  joined-coarser u v lu lv e = j.labels u lu ∙ ap (rename (lab (g.lo k)) (lab (g.hi k))) e ∙ sym (j.labels v lv)

  pub joined-inside : g.lo k < max_modules → g.hi k < max_modules → Inside g lab' k
  joined-inside lx ly = j.labels (g.lo k) lx ∙ rename-from (lab (g.lo k)) (lab (g.hi k)) ∙ sym (rename-to (lab (g.lo k)) (lab (g.hi k))) ∙ sym (j.labels (g.hi k) ly)

  pub joined-range : g.hi k < max_modules → ((v : ℕ) → v < max_modules → lab v < max_modules) → (v : ℕ) → v < max_modules → lab' v < max_modules
  joined-range ly small v l = rw (j.labels v l) (rename-elim (λ z. z < max_modules) (lab (g.lo k)) (lab (g.hi k)) (lab v) (λ e. small (g.hi k) ly) (λ n. small v l))

-- marking a tree edge keeps the forest
pub joined-forest : (g : Graph) (earlier : ℕ → ℕ → Bool) (k : ℕ) {lab t lab' t' : ℕ → ℕ} → Joined g k lab t lab' t'
    → Ends g → k < g.L → InTree g earlier k → Forest g earlier lab t → Forest g earlier lab' t'
joined-forest g earlier k {lab} {t} {lab'} {t'} j ends l tree f = record {
  parts = labels-ext ends (j.labels) (labels-same grown known (labels-add k (g.lo k) (g.hi k) (ends k l).0 (ends k l).1 (up l refl refl) (f.parts)));
  tree = λ e le m. by-eq k e (λ q. subst (InTree g earlier) q tree) (λ n. f.tree e le (sym (j.others e n) ∙ m));
  byte = λ e le. by-eq k e (λ q. omega (arith, j.marked, ap t' q)) (λ n. omega (arith, j.others e n, f.byte e le));
}
  where
    grown : (e : ℕ) → e < g.L → With (Marked t) k e → Marked t' e
    grown e le (inl m) = by-eq k e (λ q. sym (ap t' q) ∙ j.marked) (λ n. j.others e n ∙ m)
    grown e le (inr q) = sym (ap t' q) ∙ j.marked

    known : (e : ℕ) → e < g.L → Marked t' e → With (Marked t) k e
    known e le m = by-eq k e (λ q. inr q) (λ n. inl (sym (j.others e n) ∙ m))

-- MANY JOINS, by edges of which P says that they are tree edges of the order
pub record Grows (g : Graph) (P : (ℕ → ℕ → Bool) → Type 0) (lab t lab' t' : ℕ → ℕ) : Type 0 where
  pub forest : (earlier : ℕ → ℕ → Bool) → P earlier → Forest g earlier lab t → Forest g earlier lab' t'
  pub coarser : Coarser lab lab'

pub grows_none : {g : Graph} {P : (ℕ → ℕ → Bool) → Type 0} {lab t : ℕ → ℕ} → Grows g P lab t lab t
grows_none = record { forest = λ e p f. f; coarser = λ u v lu lv q. q }

pub grows_then : {g : Graph} {P Q : (ℕ → ℕ → Bool) → Type 0} {lab t lab' t' lab'' t'' : ℕ → ℕ}
    → Grows g P lab t lab' t' → ((e : ℕ → ℕ → Bool) → P e → Q e) → Grows g Q lab' t' lab'' t'' → Grows g P lab t lab'' t''
grows_then a pq b = record {
  forest = λ e p f. b.forest e (pq e p) (a.forest e p f);
  coarser = λ u v lu lv q. b.coarser u v lu lv (a.coarser u v lu lv q);
}

-- AT THE END no edge joins different parts: the marked edges are the tree
pub record Exact (g : Graph) (earlier : ℕ → ℕ → Bool) (t : ℕ → ℕ) : Type 0 where
  pub byte : (k : ℕ) → k < g.L → t k ≤ 1
  pub tree : (k : ℕ) → k < g.L → t k ≡ 1 → InTree g earlier k
  pub all : (k : ℕ) → k < g.L → InTree g earlier k → t k ≡ 1

pub finished : (g : Graph) (o : Order (g.L)) (lab t : ℕ → ℕ) → Ends g → Forest g (o.earlier) lab t → ((k : ℕ) → k < g.L → Inside g lab k) → Exact g (o.earlier) t
finished g o lab t ends f inside = record {
  byte = f.byte;
  tree = f.tree;
  all = λ k l i. needed g o k l i (Marked t) (f.tree) ((f.parts).sound (g.lo k) (g.hi k) (ends k l).0 (ends k l).1 (inside k l));
}
