-- A response placed in the field: what is read there afterwards (`node-same`, `node-other`, `mark-same`, `mark-other`). And the numbers of directed links
-- (`link-over`, `from-over`, `over-from`).
use Prim.Native.Nat.{ℕ, zero, suc, ◌+◌, ◌-◌, ◌*◌, ◌%◌, ◌≤◌, ◌<◌}
use Rattle.std.proofs.Common.{not-suc-le-zero, add-zero, arith, sym, subst, ◌∙◌, inl, inr, length-set, get_or-set_same, get_or-set_other, ext_get_or}
use Rattle.std.specs.Prelude.{◌≡◌, ◌≢◌, ◌⊎◌, true, cond, ◌&&◌, length, get_or, set, eqb, ltb}
use Rattle.std.proofs.Math.Path.{refl, ap}
use Rattle.std.proofs.Math.Bool.{and-eq-true_iff}
use mathlib.Core.List.{List, [], ◌∷◌}
use Rattle.std.proofs.lemmas.List.Edits.{sets}
use Rattle.std.proofs.Math.Seq.{length-sets}
use borrow.Author.Tests.{ltb-true, eqb-true, eq-eqb, ne_eqb, lt-ltb}
use Rattle.base.proofs.laws.Cond.{bool_cases, eqb-cases, ltb-cases, by-eq}
use Rattle.node.specs.declared.Node.{Node}
use Rattle.field.specs.Edges.{is_own, link_of, from, dest, end_of, marks_in}
use Rattle.node.proofs.laws.Values.{node-by, values-by}
use Rattle.field.specs.State.{WIDTH, values, cell_of, node_in, put_node, new_mark, new_marks, put_marks}
use Rattle.plan.proofs.laws.Accepted.{Accepted}
use Rattle.plan.specs.Links.{Plan, modules_of, links_of, lower_of, higher_of}
use Rattle.field.proofs.laws.Edges.{own-lower, own-higher, mark-own, mark-not, end-lower, end-higher}

-- ---- a run of stores

module _ (d : ℕ) where
  pub sets-out : (vs l : List ℕ) (i k : ℕ) → (k < i) ⊎ (i + length vs ≤ k) → get_or (sets l i vs) k d ≡ get_or l k d
  sets-out [] l i k h = refl
  sets-out (a ∷ vs) l i k h = sets-out vs (set l i a) (suc i) k (on h) ∙ get_or-set_other l i k a d (apart h)
    where
      on : (k < i) ⊎ (i + suc (length vs) ≤ k) → (k < suc i) ⊎ (suc i + length vs ≤ k)
      on (inl x) = inl (omega arith)
      on (inr x) = inr (omega arith)

      apart : (k < i) ⊎ (i + suc (length vs) ≤ k) → k ≢ i
      apart (inl x) = λ e. omega arith
      apart (inr x) = λ e. omega arith

  sets-in : (vs l : List ℕ) (i j : ℕ) → j < length vs → i + length vs ≤ length l → get_or (sets l i vs) (i + j) d ≡ get_or vs j d
  sets-in [] l i j h r = absurd (not-suc-le-zero h)
  sets-in (a ∷ vs) l i zero h r =
      sets-out vs (set l i a) (suc i) (i + 0) (inl (omega arith)) ∙ ap (λ k. get_or (set l i a) k d) (add-zero i) ∙ get_or-set_same l i a d (omega arith)
  sets-in (a ∷ vs) l i (suc j) h r =
      ap (λ k. get_or (sets (set l i a) (suc i) vs) k d) (omega arith) ∙ sets-in vs (set l i a) (suc i) j (omega arith) (omega (arith, length-set l i a))

-- ---- a node's cells

module _ (cells : List ℕ) (v : ℕ) (n : Node) where
  pub length-put : length (put_node cells v n) ≡ length cells
  length-put = length-sets cells (v * WIDTH) (values n)

  put-at : v * WIDTH + WIDTH ≤ length cells → (j : ℕ) → j < WIDTH → get_or (put_node cells v n) (cell_of v j) 0 ≡ get_or (values n) j 0
  put-at h j l = sets-in 0 (values n) cells (v * WIDTH) j l h

  pub node-same : v * WIDTH + WIDTH ≤ length cells → node_in (put_node cells v n) v ≡ n
  node-same h = node-by (λ j. get_or (put_node cells v n) (cell_of v j) 0) (λ j. get_or (values n) j 0) (put-at h)

  pub node-other : (u : ℕ) → u ≢ v → node_in (put_node cells v n) u ≡ node_in cells u
  node-other u d = node-by (λ j. get_or (put_node cells v n) (cell_of u j) 0) (λ j. get_or cells (cell_of u j) 0) (λ j l. sets-out 0 (values n) cells (v * WIDTH) (cell_of u j) (side j l))
    where
      side : (j : ℕ) → j < WIDTH → (cell_of u j < v * WIDTH) ⊎ (v * WIDTH + WIDTH ≤ cell_of u j)
      side j l = ltb-cases u v (λ b. (cell_of u j < v * WIDTH) ⊎ (v * WIDTH + WIDTH ≤ cell_of u j)) (λ h. inl (omega arith)) (λ h. inr (omega (arith, d)))

-- ---- directed links

module _ (p : Plan) (v k : ℕ) where
  pub link-over : link_of (end_of p v k) ≡ k
  link-over = by-eq (lower_of p k) v
      (λ e. rw (end-lower p v k e) (omega arith))
      (λ n. rw (end-higher p v k n) (omega arith))

  module _ (o : is_own p v k ≡ true) where
    pub own-link-below : k < links_of p
    unfolding is_own
    own-link-below = ltb-true k (links_of p) ((and-eq-true_iff (ltb k (links_of p)) _).0 o).0

    -- v is its lower or its higher end
    pub own-end : (lower_of p k ≡ v) ⊎ ((lower_of p k ≢ v) × (higher_of p k ≡ v))
    own-end = by-eq (lower_of p k) v (λ e. inl e) (λ n. inr (n, eqb-true (higher_of p k) v (sym (own-higher p v k own-link-below n) ∙ o)))

    pub over_below : end_of p v k < 2 * links_of p
    over_below = by-eq (lower_of p k) v
        (λ e. rw (end-lower p v k e) (omega (arith, own-link-below)))
        (λ n. rw (end-higher p v k n) (omega (arith, own-link-below)))

    -- it runs from v
    pub from-over : from p (end_of p v k) ≡ v
    from-over = go own-end
      where
        even : (d : ℕ) → d ≡ 2 * k → from p d ≡ lower_of p k
        even d e = rw (eq-eqb (d % 2) 0 (omega arith)) (ap (lower_of p) (omega arith))

        odd : (d : ℕ) → d ≡ 2 * k + 1 → from p d ≡ higher_of p k
        odd d e = rw (ne_eqb (d % 2) 0 (λ q. omega arith)) (ap (higher_of p) (omega arith))

        go : (lower_of p k ≡ v) ⊎ ((lower_of p k ≢ v) × (higher_of p k ≡ v)) → from p (end_of p v k) ≡ v
        go (inl e) = even (end_of p v k) (end-lower p v k e) ∙ e
        go (inr h) = odd (end_of p v k) (end-higher p v k h.0) ∙ h.1

-- a directed link of an accepted plan joins two modules, and is the one from its first end
module _ (p : Plan) (a : Accepted p) (d : ℕ) (l : d < 2 * links_of p) where
  link-below : link_of d < links_of p
  link-below = omega arith

  pub from-own : is_own p (from p d) (link_of d) ≡ true
  from-own = eqb-cases (d % 2) 0 (λ b. is_own p (cond b (lower_of p (link_of d)) (higher_of p (link_of d))) (link_of d) ≡ true)
      (λ e. own-lower p _ (link_of d) link-below refl)
      (λ n. own-higher p _ (link_of d) link-below (λ q. omega (arith, (a.each (link_of d) link-below).ordered)) ∙ eq-eqb (higher_of p (link_of d)) (higher_of p (link_of d)) refl)

  pub dest-own : is_own p (dest p d) (link_of d) ≡ true
  dest-own = eqb-cases (d % 2) 0 (λ b. is_own p (cond b (higher_of p (link_of d)) (lower_of p (link_of d))) (link_of d) ≡ true)
      (λ e. own-higher p _ (link_of d) link-below (λ q. omega (arith, (a.each (link_of d) link-below).ordered)) ∙ eq-eqb (higher_of p (link_of d)) (higher_of p (link_of d)) refl)
      (λ n. own-lower p _ (link_of d) link-below refl)

  pub over-from : end_of p (from p d) (link_of d) ≡ d
  over-from = eqb-cases (d % 2) 0 (λ b. end_of p (cond b (lower_of p (link_of d)) (higher_of p (link_of d))) (link_of d) ≡ d)
      (λ e. end-lower p _ (link_of d) refl ∙ omega arith)
      (λ n. end-higher p _ (link_of d) (λ q. omega (arith, (a.each (link_of d) link-below).ordered)) ∙ omega (arith, n))

  pub from-below : from p d < modules_of p
  from-below = eqb-cases (d % 2) 0 (λ b. cond b (lower_of p (link_of d)) (higher_of p (link_of d)) < modules_of p)
      (λ e. omega (arith, (a.each (link_of d) link-below).ordered, (a.each (link_of d) link-below).inside))
      (λ n. (a.each (link_of d) link-below).inside)

  pub dest-below : dest p d < modules_of p
  dest-below = eqb-cases (d % 2) 0 (λ b. cond b (higher_of p (link_of d)) (lower_of p (link_of d)) < modules_of p)
      (λ e. (a.each (link_of d) link-below).inside)
      (λ n. omega (arith, (a.each (link_of d) link-below).ordered, (a.each (link_of d) link-below).inside))

  -- its two ends differ, so nothing that a module sends comes back to it
  pub ends-apart : from p d ≢ dest p d
  ends-apart = eqb-cases (d % 2) 0 (λ b. cond b (lower_of p (link_of d)) (higher_of p (link_of d)) ≢ cond b (higher_of p (link_of d)) (lower_of p (link_of d)))
      (λ e q. omega (arith, (a.each (link_of d) link-below).ordered))
      (λ n q. omega (arith, (a.each (link_of d) link-below).ordered))

-- ---- the marks

module _ (p : Plan) (v : ℕ) (m : ℕ → ℕ) where
  pub length-new : (d : ℕ) (l : List ℕ) → length (new_marks p v m d l) ≡ length l
  unfolding new_marks
  length-new d [] = refl
  length-new d (x ∷ l) = ap suc (length-new (suc d) l)

  new-at : (l : List ℕ) (d j : ℕ) → j < length l → get_or (new_marks p v m d l) j 0 ≡ new_mark p v m (d + j) (get_or l j 0)
  unfolding new_marks
  new-at [] d j h = absurd (not-suc-le-zero h)
  new-at (x ∷ l) d zero h = ap (λ i. new_mark p v m i x) (sym (add-zero d))
  new-at (x ∷ l) d (suc j) h = new-at l (suc d) j (omega arith) ∙ ap (λ i. new_mark p v m i (get_or l j 0)) (omega arith)

  pub put_marks-at : (marks : List ℕ) (d : ℕ) → d < length marks → get_or (put_marks p marks v m) d 0 ≡ new_mark p v m d (get_or marks d 0)
  put_marks-at marks d h = new-at marks 0 d h ∙ ap (λ i. new_mark p v m i (get_or marks d 0)) (omega arith)

  module _ (marks : List ℕ) (sized : 2 * links_of p ≤ length marks) where
    own_read : (u k : ℕ) → is_own p u k ≡ true → marks_in p (put_marks p marks v m) u k ≡ new_mark p v m (end_of p u k) (get_or marks (end_of p u k) 0)
    own_read u k o = mark-own p u k (put_marks p marks v m) o ∙ put_marks-at marks (end_of p u k) (omega (arith, over_below p u k o))

    -- v's marks are m's ..
    pub mark-same : (k : ℕ) → is_own p v k ≡ true → marks_in p (put_marks p marks v m) v k ≡ m k
    mark-same k o = own_read v k o
        ∙ rw (lt-ltb (end_of p v k) (2 * links_of p) (over_below p v k o), eq-eqb (from p (end_of p v k)) v (from-over p v k o)) (ap m (link-over p v k))

    -- .. and another module's are as they were
    pub mark-other : (u k : ℕ) → u ≢ v → marks_in p (put_marks p marks v m) u k ≡ marks_in p marks u k
    mark-other u k d = bool_cases (is_own p u k)
        (λ o. own_read u k o
        ∙ rw (lt-ltb (end_of p u k) (2 * links_of p) (over_below p u k o), ne_eqb (from p (end_of p u k)) v (λ q. d (sym (from-over p u k o) ∙ q)))
        (sym (mark-own p u k marks o)))
        (λ o. mark-not p u k (put_marks p marks v m) o ∙ sym (mark-not p u k marks o))

-- ---- nothing changed: what was read, put back, is what was there

module _ (cells : List ℕ) (v : ℕ) where
  pub node-back : v * WIDTH + WIDTH ≤ length cells → put_node cells v (node_in cells v) ≡ cells
  node-back h = ext_get_or 0 (put_node cells v n) cells (length-put cells v n) at
    where
      n : Node
      n = node_in cells v

      at : (k : ℕ) → k < length (put_node cells v n) → get_or (put_node cells v n) k 0 ≡ get_or cells k 0
      at k l = ltb-cases k (v * WIDTH) (λ b. get_or (put_node cells v n) k 0 ≡ get_or cells k 0)
          (λ a. sets-out 0 (values n) cells (v * WIDTH) k (inl a))
          (λ a. ltb-cases k (v * WIDTH + WIDTH) (λ b. get_or (put_node cells v n) k 0 ≡ get_or cells k 0)
          (λ b. let j : ℕ = k - v * WIDTH in
          let e : cell_of v j ≡ k = omega arith in
          ap (λ i. get_or (put_node cells v n) i 0) (sym e) ∙ put-at cells v n h j (omega arith) ∙ values-by (λ i. get_or cells (cell_of v i) 0) j (omega arith) ∙ ap (λ i. get_or cells i 0) e)
          (λ b. sets-out 0 (values n) cells (v * WIDTH) k (inr b)))

module _ (p : Plan) (a : Accepted p) (v : ℕ) (marks : List ℕ) (sized : 2 * links_of p ≤ length marks) where
  abbrev read : ℕ → ℕ
  read k = marks_in p marks v k

  pub marks-back : put_marks p marks v read ≡ marks
  marks-back = ext_get_or 0 (put_marks p marks v read) marks (length-new p v read 0 marks)
      (λ d l. put_marks-at p v read marks d (omega (arith, length-new p v read 0 marks)) ∙ at d)
    where
      at : (d : ℕ) → new_mark p v read d (get_or marks d 0) ≡ get_or marks d 0
      at d = bool_cases (ltb d (2 * links_of p) && eqb (from p d) v)
          (λ t. let h = (and-eq-true_iff (ltb d (2 * links_of p)) (eqb (from p d) v)).0 t in
          let l = ltb-true d (2 * links_of p) h.0 in
          let f = eqb-true (from p d) v h.1 in
          rw t (mark-own p v (link_of d) marks (subst (λ u. is_own p u (link_of d) ≡ true) f (from-own p a d l))
          ∙ ap (λ i. get_or marks i 0) (subst (λ u. end_of p u (link_of d) ≡ d) f (over-from p a d l))))
          (λ t. rw t refl)
