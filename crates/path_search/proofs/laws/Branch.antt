-- One branch of a pass (`branch-first`, `branch-second`): of its two ends one is nearer, and by it the other becomes known when the level is there.
use Rattle.std.specs.Prelude.{ℕ, suc, ◌+◌, ◌≤◌, ◌<◌, ◌≡◌, refl, ◌≢◌, Bool, true, false, List, ◌∷◌, length, get_or, set}
use Rattle.std.proofs.Common.{arith, sym, ap, subst, ◌∙◌, ⊎_elim, true≢false, length-set, get_or-set_same, get_or-set_other}
use Rattle.base.proofs.laws.Cond.{bool_cases, by-eq}
use Rattle.base.proofs.laws.Search.{lt-suc-cases}
use Rattle.base.specs.None.{none}
use Rattle.base.specs.Limits.{max_modules}
use Rattle.graph.specs.Graph.{Joins, go}
use Rattle.graph.specs.Parts.{SamePart}
use Rattle.graph.proofs.laws.Ways.{flip}
use Rattle.plan.specs.Links.{Plan, modules_of, graph_of}
use Rattle.plan_tree.specs.Tree.{tree_link}
use Rattle.path.specs.Between.{tree_path}
use Rattle.path.proofs.laws.Steps.{PathSteps}
use Rattle.path_search.specs.Spread.{far, hops_to, head_or, BothSized, BeyondHops, Passing, known, unknown, Pass, reaches, Reached, BranchDone}
use Rattle.path_search.proofs.laws.Reach.{reaches-both, reaches-yes, unreached}
use Rattle.path_search.proofs.laws.FirstLinks.{AtHops, first-link}

-- tree link k, from a to b
pub record BranchFrom (p : Plan) (k a b : ℕ) : Type 0 where
  pub joins : Joins (graph_of p) k a b
  pub tree : tree_link p k ≡ true
  pub inside : a < modules_of p
  pub beside : b < modules_of p

turned : {p : Plan} {k a b : ℕ} → BranchFrom p k a b → BranchFrom p k b a
turned r = record { joins = flip (r.joins); tree = r.tree; inside = r.beside; beside = r.inside }

-- w has no first link among the branches that are done: k is none, so there is one more
done_next : (list : List ℕ) (i k m : ℕ) → get_or list i 0 ≡ k → k ≢ m → ((j : ℕ) → j < i → get_or list j 0 ≢ m) → (j : ℕ) → j < suc i → get_or list j 0 ≢ m
done_next list i k m e n f j l = lt-suc-cases j i l (λ q z. n (sym e ∙ sym (ap (λ x. get_or list x 0) q) ∙ z)) (λ lt. f j lt)

module _ (p : Plan) (v : ℕ) {list : List ℕ} {h i w hop link : ℕ} where
  -- the entry of a node says how far it is
  at_level : Passing p v list h i w hop link → hop ≡ h → h < far → AtHops p v h w
  at_level (known d e f) q l = (d.part, sym e ∙ q)
  at_level (unknown d f e) q l = absurd (omega arith)

  level-at : Passing p v list h i w hop link → AtHops p v h w → hop ≡ h
  level-at (known d e f) q = e ∙ q.1
  level-at (unknown d f e) q = absurd (omega (arith, d q.0, q.1))

  not_known : Passing p v list h i w hop link → hop ≡ far → suc h < far → BeyondHops p v h w
  not_known (known d e f) q l = absurd (omega (arith, d.near))
  not_known (unknown d f e) q l = d

module _ {p : Plan} {k a b : ℕ} (branch : BranchFrom p k a b) (v : ℕ) (steps : PathSteps p v) (few : modules_of p ≤ max_modules) (h : ℕ) (deep : suc h < modules_of p)
    (list : List ℕ) (i : ℕ) (next : get_or list i 0 ≡ k) (hops by : List ℕ) (before : Pass p v list h i hops by) where
  -- a is known at h hops, and b is in its part
  near-end : reaches hops a b h ≡ true → AtHops p v h a
  near-end r = at_level p v (before.each a (branch.inside)) (reaches-both hops a b h r).0 (omega arith)

  far-part : reaches hops a b h ≡ true → SamePart (graph_of p) b v
  far-part r = go k (flip (branch.joins)) tt (near-end r).0

  -- b is one hop further than a, by link k
  further : reaches hops a b h ≡ true → tree_path p b v ≡ k ∷ tree_path p a v
  further r =
      let da = near-end r in
      let db = not_known p v (before.each b (branch.beside)) (reaches-both hops a b h r).1 (omega arith) (far-part r) in
      ⊎_elim (λ e. e) (λ e. absurd (omega (arith, ap length e, da.1, db))) (steps.beside k a b da.0 (branch.joins) (branch.tree))

  -- b becomes known
  reached : reaches hops a b h ≡ true → Pass p v list h (suc i) (set hops b (h + 1)) (set by b k)
  reached r = record {
    sized = record { hops_size = length-set hops b (h + 1) ∙ (before.sized).hops_size; by_size = length-set by b k ∙ (before.sized).by_size };
    each = λ w l. by-eq w b (λ q. subst (λ x. Passing p v list h (suc i) x (get_or (set hops b (h + 1)) x 0) (get_or (set by b k) x 0)) (sym q) new)
        (λ n. rw (get_or-set_other hops b w (h + 1) 0 n, get_or-set_other by b w k 0 n) (old w n (before.each w l)));
  }
    where
      da : hops_to p v a ≡ h
      da = (near-end r).1

      new : Passing p v list h (suc i) b (get_or (set hops b (h + 1)) b 0) (get_or (set by b k) b 0)
      new =
          let e = further r in
          let d : hops_to p v b ≡ suc h = omega (arith, ap length e, da) in
          rw (get_or-set_same hops b (h + 1) 0 (omega (arith, (before.sized).hops_size, branch.beside)), get_or-set_same by b k 0 (omega (arith, (before.sized).by_size, branch.beside)))
          (known (record { part = far-part r; near = omega arith }) (omega arith) (sym (ap (head_or none) e)))

      old : (w : ℕ) → w ≢ b → Passing p v list h i w (get_or hops w 0) (get_or by w 0) → Passing p v list h (suc i) w (get_or hops w 0) (get_or by w 0)
      old w n (known d e f) = known d e f
      old w n (unknown d f e) = unknown d (λ part s. done_next list i k _ next (λ q. ⊎_elim
          (λ x. omega (arith, da, ap (hops_to p v) x.0))
          (λ x. n x.0)
          (first-link p v steps k a b w h (branch.joins) part s q)) (f part s)) e

  -- nobody becomes known
  skipped : reaches hops a b h ≡ false → reaches hops b a h ≡ false → Pass p v list h (suc i) hops by
  skipped x y = record { sized = before.sized; each = λ w l. old w (before.each w l) }
    where
      old : (w : ℕ) → Passing p v list h i w (get_or hops w 0) (get_or by w 0) → Passing p v list h (suc i) w (get_or hops w 0) (get_or by w 0)
      old w (known d e f) = known d e f
      old w (unknown d f e) = unknown d (λ part s. done_next list i k _ next (λ q. ⊎_elim
          (λ z. true≢false (sym (reaches-yes hops b a h (level-at p v (before.each b (branch.beside)) z.1) (sym (ap (λ n. get_or hops n 0) z.0) ∙ e)) ∙ y))
          (λ z. true≢false (sym (reaches-yes hops a b h (level-at p v (before.each a (branch.inside)) z.1) (sym (ap (λ n. get_or hops n 0) z.0) ∙ e)) ∙ x))
          (first-link p v steps k a b w h (branch.joins) part s q)) (f part s)) e

-- for any goal: from end a to end b, or if not, the other way or not at all
module _ {p : Plan} {k a b : ℕ} (branch : BranchFrom p k a b) (steps : (v : ℕ) → PathSteps p v) (few : modules_of p ≤ max_modules)
    (h : ℕ) (deep : suc h < modules_of p) (hops by : List ℕ) (s : BothSized hops by) where
  -- from a to b
  pub branch-first : {hops' by' : List ℕ} {r : Bool} → Reached hops by a b k h hops' by' r → r ≡ true → BranchDone p k h hops by hops' by' true
  branch-first x t = rw (x.1, x.2, t) (record {
    done = λ v list i e q. reached branch v (steps v) few h deep list i e hops by q (sym x.0 ∙ t);
    none-new = λ e. absurd (true≢false e);
    sized = record { hops_size = length-set hops b (h + 1) ∙ s.hops_size; by_size = length-set by b k ∙ s.by_size };
  })

  -- neither way
  branch-neither : reaches hops a b h ≡ false → reaches hops b a h ≡ false → BranchDone p k h hops by hops by false
  branch-neither x y = record {
    done = λ v list i e q. skipped branch v (steps v) few h deep list i e hops by q x y;
    none-new = λ e. refl;
    sized = s;
  }

-- not from a to b: from b to a, or not at all
pub branch-second : {p : Plan} {k a b : ℕ} → BranchFrom p k a b → ((v : ℕ) → PathSteps p v) → modules_of p ≤ max_modules → (h : ℕ) → suc h < modules_of p
    → (hops by : List ℕ) → BothSized hops by → {hops' by' hops'' by'' : List ℕ} {r t : Bool} → Reached hops by a b k h hops' by' r → r ≡ false
    → Reached hops' by' b a k h hops'' by'' t → BranchDone p k h hops by hops'' by'' t
branch-second {p} {k} {a} {b} branch steps few h deep hops by s {hops'} {by'} {hops''} {by''} {r} {t} x f y = bool_cases t
    (λ e. rw e (branch-first (turned branch) steps few h deep hops by s z e))
    (λ e. rw (z.1, z.2, e) (branch-neither branch steps few h deep hops by s (sym x.0 ∙ f) (sym z.0 ∙ e)))
  where
    z : Reached hops by b a k h hops'' by'' t
    z =
        let u = unreached hops by a b k h x f in
        subst (λ l. Reached l by b a k h hops'' by'' t) u.0 (subst (λ l. Reached hops' l b a k h hops'' by'' t) u.1 y)
