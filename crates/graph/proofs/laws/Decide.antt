-- The tests decide: ways (`way?`) and the path rule (`in_tree?`).
use Rattle.std.specs.Prelude.{ℕ, zero, suc, ◌<◌, ◌≤◌, ◌≡◌, refl, ◌⊎◌, Bool, true, false, not, cond}
use Rattle.std.proofs.Common.{arith, not-suc-le-zero, sym, ap, ◌∙◌, inl, inr, true≢false}
use Rattle.base.proofs.laws.Cond.{eqb-cases, eqb_same, bool_cases}
use Rattle.base.proofs.laws.Test.{decides, decided-yes, yes-decided, dec-test}
use Rattle.base.proofs.laws.Search.{lt-suc-cases}
use Rattle.graph.specs.Graph.{Graph, up, Way}
use Rattle.graph.specs.Order.{Earlier, InTree}
use Rattle.graph.proofs.laws.Ways.{wider}
use Rattle.graph.specs.Labels.{rename}
use Rattle.graph.proofs.laws.Labels.{Labels, With, labels-way, labels-same, labels-add, labels-none}
use Rattle.graph.specs.Decide.{Set, label, joined_over, in_tree}

-- the edges of s below k
abbrev pub Upto : (ℕ → Bool) → ℕ → ℕ → Type 0
Upto s k e = (s e ≡ true) × (e < k)

pub labels : (g : Graph) (s : ℕ → Bool) (k : ℕ) → k ≤ g.L → Labels g (λ w. Unit {0}) (Upto s k) (label g s k)
unfolding label
labels g s zero l = labels-same (λ e le n. absurd n) (λ e le t. absurd (not-suc-le-zero t.1)) (labels-none g (λ w. Unit {0}))
labels g s (suc k) l = next (s k) refl (labels g s k (omega arith))
  where
    add : s k ≡ true → (e : ℕ) → e < g.L → With (Upto s k) k e → Upto s (suc k) e
    add y e le (inl t) = (t.0, omega (arith, t.1))
    add y e le (inr q) = (rw q at y, omega arith)

    cut : s k ≡ true → (e : ℕ) → e < g.L → Upto s (suc k) e → With (Upto s k) k e
    cut y e le t = lt-suc-cases e k t.1 (λ q. inr (sym q)) (λ lt. inl (t.0, lt))

    keep : s k ≡ false → (e : ℕ) → e < g.L → Upto s (suc k) e → Upto s k e
    keep n e le t = lt-suc-cases e k t.1 (λ q. absurd (true≢false (sym t.0 ∙ ap s q ∙ n))) (λ lt. (t.0, lt))

    next : (b : Bool) → s k ≡ b → Labels g (λ w. Unit {0}) (Upto s k) (label g s k)
        → Labels g (λ w. Unit {0}) (Upto s (suc k)) (λ w. cond b (rename (label g s k (g.lo k)) (label g s k (g.hi k)) (label g s k w)) (label g s k w))
    next true y h = labels-same (add y) (cut y) (labels-add k (g.lo k) (g.hi k) tt tt (up (omega arith) refl refl) h)
    next false n h = labels-same (λ e le t. (t.0, omega (arith, t.1))) (keep n) h

pub joined-way : (g : Graph) (s : ℕ → Bool) (u v : ℕ) → joined_over g s u v ≡ true → Way g (Set s) u v
unfolding joined_over
joined-way g s u v = eqb-cases (label g s (g.L) u) (label g s (g.L) v) (λ b. b ≡ true → Way g (Set s) u v)
    (λ e y. wider (λ f l t. t.0) ((labels g s (g.L) (omega arith)).sound u v tt tt e))
    (λ n y. absurd (true≢false (sym y)))

pub way-joined : (g : Graph) (s : ℕ → Bool) (u v : ℕ) → Way g (Set s) u v → joined_over g s u v ≡ true
unfolding joined_over
way-joined g s u v w = let e = labels-way (labels g s (g.L) (omega arith)) (wider (λ f l t. (t, l)) w) in rw e (eqb_same (label g s (g.L) v))

unfoldable pub way? : (g : Graph) (S : ℕ → Type 0) → ((e : ℕ) → Dec (S e)) → (u v : ℕ) → Dec (Way g S u v)
unfolding joined_over decides dec-test
way? g S dec u v = dec-test (joined_over g (λ e. decides (dec e)) u v)
    (λ y. wider (λ e l s. decided-yes (dec e) s) (joined-way g (λ e. decides (dec e)) u v y))
    (λ w. way-joined g (λ e. decides (dec e)) u v (wider (λ e l s. yes-decided (dec e) s) w))

pub in_tree-tree : (g : Graph) (earlier : ℕ → ℕ → Bool) (e : ℕ) → in_tree g earlier e ≡ true → InTree g earlier e
unfolding in_tree
in_tree-tree g earlier e h w = true≢false (sym h ∙ ap not (way-joined g (λ f. earlier f e) (g.lo e) (g.hi e) w))

pub tree-in_tree : (g : Graph) (earlier : ℕ → ℕ → Bool) (e : ℕ) → InTree g earlier e → in_tree g earlier e ≡ true
unfolding in_tree
tree-in_tree g earlier e t = bool_cases (joined_over g (λ f. earlier f e) (g.lo e) (g.hi e))
    (λ y. absurd (t (joined-way g (λ f. earlier f e) (g.lo e) (g.hi e) y)))
    (λ n. ap not n)

-- an edge that is not in the tree has another way between its ends
pub way-or-tree : (g : Graph) (earlier : ℕ → ℕ → Bool) (e : ℕ) → Way g (Earlier earlier e) (g.lo e) (g.hi e) ⊎ InTree g earlier e
way-or-tree g earlier e = bool_cases (joined_over g (λ f. earlier f e) (g.lo e) (g.hi e))
    (λ y. inl (joined-way g (λ f. earlier f e) (g.lo e) (g.hi e) y))
    (λ n. inr (λ w. true≢false (sym (way-joined g (λ f. earlier f e) (g.lo e) (g.hi e) w) ∙ n)))

unfoldable pub in_tree? : (g : Graph) (earlier : ℕ → ℕ → Bool) (e : ℕ) → Dec (InTree g earlier e)
unfolding in_tree dec-test
in_tree? g earlier e = dec-test (in_tree g earlier e) (in_tree-tree g earlier e) (tree-in_tree g earlier e)
