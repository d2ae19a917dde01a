-- What joining picks does to the labels and the marks: an edge (`joined`, `takes`), one pick more (`takes-next`), a whole phase (`phased`).
use Prim.Native.Nat.{ℕ, ◌+◌, ◌≤◌, ◌<◌}
use native.Mathlib.Omega.{arith}
use mathlib.Core.Path.{◌≡◌, sym, ap, ◌∙◌}
use mathlib.Core.Logic.{◌≢◌, ◌⊎◌, ⊎_elim}
use mathlib.Core.Bool.{Bool}
use mathlib.Core.List.{List}
use lib.ListN.{length, set}
use lib.Seq.{get_or-set_same, get_or-set_other}
use Rattle.base.proofs.laws.Cond.{by-eq}
use Rattle.base.specs.None.{none}
use Rattle.base.specs.Limits.{max_modules, max_links}
use Rattle.base.specs.Table.{tabulate}
use Rattle.base.proofs.laws.Table.{length-tabulate, get_d_tabulate}
use Rattle.graph.specs.Graph.{Graph}
use Rattle.graph.specs.Labels.{rename}
use Rattle.plan_tree.specs.laws.Forest.{Ends, Forest, Joined, joined-coarser, joined-inside, joined-range, joined-forest, grows_then}
use Rattle.plan_tree.specs.laws.Phase.{Leaves, First, first-pick, first_some, apart, apart_none, apart_some, apart-falls}
use Rattle.plan_tree.specs.Lent.{at, LabelsFit, Takes, TakesTo, Phased}

-- each node a part of its own
pub own-label : (s : List ℕ) → s ≡ tabulate max_modules (λ v. v) → (v : ℕ) → v < max_modules → at s v ≡ v
own-label s e v l = rw e (get_d_tabulate max_modules (λ i. i) v l)

pub own-parts : (s : List ℕ) → s ≡ tabulate max_modules (λ v. v) → LabelsFit s
own-parts s e = record { size = rw e (length-tabulate max_modules (λ i. i)); range = λ v l. omega (arith, own-label s e v l) }

-- edge k, of ends u and v: the labels are renamed, the byte is set
pub set-joined : (g : Graph) (label label' out : List ℕ) (u v k : ℕ) → u ≡ g.lo k → v ≡ g.hi k → k < length out
    → label' ≡ tabulate max_modules (λ w. rename (at label u) (at label v) (at label w)) → Joined g k (at label) (at out) (at label') (at (set out k 1))
set-joined g label label' out u v k p q l e = record {
  labels = λ w lw. rw (← p, ← q, e) (get_d_tabulate max_modules (λ i. rename (at label u) (at label v) (at label i)) w lw);
  marked = get_or-set_same out k 1 0 l;
  others = λ j n. get_or-set_other out k j 1 0 (λ e. n (sym e));
}

-- none is out of range
pub not_none : {k l : ℕ} → k ≢ none → (k ≡ none) ⊎ (k < l) → k < l
not_none n s = ⊎_elim (λ e. absurd (n e)) (λ h. h) s

pub takes : (g : Graph) (k : ℕ) (label out label' out' : List ℕ) → k ≢ none → k < g.L → Ends g → LabelsFit label → length label' ≡ max_modules
    → Joined g k (at label) (at out) (at label') (at out') → Takes g k label out label' out'
takes g k label out label' out' n l ends parts size j = record {
  parts = record { size = size; range = joined-range j (ends k l).1 (parts.range) };
  grows = record { forest = λ earlier p f. joined-forest g earlier k j ends l (⊎_elim (λ q. absurd (n q)) (λ q. q.1) p) f; coarser = joined-coarser j };
  closes = λ m. joined-inside j (ends k l).0 (ends k l).1;
}

-- the picks of the parts below a, and one more
pub takes-next : (g : Graph) (best label₀ out₀ label out label' out' : List ℕ) (a : ℕ) → Ends g → ((b : ℕ) → b < max_modules → (at best b ≡ none) ⊎ (at best b < g.L)) → a < max_modules
    → TakesTo a g best label₀ out₀ label out → Takes g (at best a) label out label' out' → TakesTo (a + 1) g best label₀ out₀ label' out'
takes-next g best label₀ out₀ label out label' out' a ends bounds l before t = record {
  parts = t.parts;
  grows = grows_then (before.grows) (λ e p. p a l) (t.grows);
  closes = λ b lb n. by-eq a b (λ q. rw (← q) (t.closes (λ z. n (sym (ap (at best) q) ∙ z))))
      (λ d. let lk = not_none n (bounds b (omega arith)) in
      (t.grows).coarser (g.lo (at best b)) (g.hi (at best b)) (ends (at best b) lk).0 (ends (at best b) lk).1 (before.closes b (omega arith) n));
}

-- THE WHOLE PHASE: the picks are the earliest edges that leave the parts
pub phased : (g : Graph) (earlier : ℕ → ℕ → Bool) (best label out label' out' : List ℕ) (r : ℕ) → g.L ≤ max_links → Ends g → LabelsFit label
    → Forest g earlier (at label) (at out) → r ≡ apart g (at label) → ((a : ℕ) → a < max_modules → First (Leaves g (at label) a) earlier (g.L) (at best a))
    → TakesTo max_modules g best label out label' out' → Phased g earlier label label' out' r
phased g earlier best label out label' out' r few ends parts f e firsts t = record {
  parts = t.parts;
  forest = (t.grows).forest earlier (λ a l. first-pick g earlier (at label) a (at best a) (firsts a l)) f;
  over = λ z k l. (t.grows).coarser (g.lo k) (g.hi k) (ends k l).0 (ends k l).1 (apart_none g (at label) (sym e ∙ z) k l);
  fewer = λ n. falls (apart_some g (at label) (g.L) (λ z. n (e ∙ z)));
}
  where
    -- an edge between two parts, and with it the pick of one of them
    falls : (k : ℕ) × (k < g.L) × (at label (g.lo k) ≢ at label (g.hi k)) → apart g (at label') < apart g (at label)
    falls k =
        let a = at label (g.lo k.0) in
        let la = parts.range (g.lo k.0) (ends k.0 k.1).0 in
        let b = first_some g earlier (at label) k.0 (at best a) k.1 k.2 (firsts a la) in
        apart-falls g (at label) (at label') (at best a) ends (t.grows).coarser b.0 b.1 (t.closes a la (λ q. omega (arith, b.0)))
