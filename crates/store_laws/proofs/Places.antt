-- The places of a field's numbers in a record, for an accepted plan: how many (`places-length`), none twice (`places-apart`), and exactly the cells of its
-- modules and the marks of its links (`places-inside`, `cell-among`, `mark-among`). A link ends at two modules (`link-bits`).
use Prim.Native.Nat.{ℕ, zero, suc, ◌+◌, ◌-◌, ◌*◌, ◌/◌, ◌%◌, ◌≤◌, ◌<◌}
use native.Mathlib.Omega.{arith}
use Rattle.std.specs.Prelude.{◌≡◌, ◌⊎◌, true, cond, List, [], ◌∷◌, ◌++◌, length, eqb, ltb}
use Rattle.std.proofs.Math.Path.{refl}
use Rattle.std.proofs.Common.{ap, ap₂, subst, ◌∙◌, inr, ⊎_elim, lt-ltb, le-ltb, eq-eqb, ne_eqb}
use Rattle.std.proofs.Math.Logic.{inl}
use Rattle.std.proofs.Math.ListN.{length-append}
use Rattle.base.specs.Cond.{bit}
use Rattle.base.proofs.laws.Cond.{bool_cases, ltb-cases, by-eq}
use Rattle.base.specs.Limits.{max_modules, max_ends}
use Rattle.base.specs.Pool.{All, nil, con}
use Rattle.base.proofs.laws.Pool.{All-map, All-app, All-one}
use Rattle.base.specs.Sum.{sum}
use Rattle.base.proofs.laws.Sum.{sum-eq, sum-add, sum-const, sum-swap, sum_one}
use Rattle.base.specs.Table.{tabulate}
use Rattle.base.proofs.laws.Table.{length-tabulate}
use Rattle.base.specs.Twice.{NoTwice, nobody, another}
use Rattle.plan.specs.Links.{Plan, modules_of, links_of, lower_of, higher_of}
use Rattle.plan.proofs.laws.Accepted.{Accepted}
use Rattle.field.specs.Edges.{is_own, end_of, link_of, from}
use Rattle.plan_file.proofs.laws.Numbers.{All-tabulate}
use Rattle.field.proofs.laws.Edges.{own-lower, own-higher}
use Rattle.field.specs.State.{WIDTH, CELLS, cell_of}
use Rattle.field_laws.proofs.Places.{link-over, over_below, from-over, from-own, over-from, from-below}
use Rattle.store.specs.Layout.{mark_place, value_places, mark_places, module_places, places_below, places}
use Rattle.store_laws.proofs.Pour.{Among, foremost, among-left, among-right, among-tabulate}

-- ---- lists whose ranks rise from a on and stay below b

module _ (rank : ℕ → ℕ) where
  data Rising : ℕ → List ℕ → ℕ → Type 0 where
    ended : {a b : ℕ} → a ≤ b → Rising a [] b
    raised : {a b x : ℕ} {l : List ℕ} → a ≤ rank x → Rising (suc (rank x)) l b → Rising a (x ∷ l) b

  rising-from : {a b c : ℕ} {l : List ℕ} → a ≤ b → Rising b l c → Rising a l c
  rising-from {a} {b} {c} h (ended k) = let w : a ≤ c = omega arith in ended w
  rising-from {a} h (raised {x = x} k r) = let w : a ≤ rank x = omega arith in raised w r

  rising-to : {a b c : ℕ} {l : List ℕ} → Rising a l b → b ≤ c → Rising a l c
  rising-to {a} {b} {c} (ended k) h = let w : a ≤ c = omega arith in ended w
  rising-to (raised k r) h = raised k (rising-to r h)

  rising-app : {a b c : ℕ} {l m : List ℕ} → Rising a l b → Rising b m c → Rising a (l ++ m) c
  rising-app (ended k) r = rising-from k r
  rising-app (raised k t) r = raised k (rising-app t r)

  rising-above : {a b : ℕ} {l : List ℕ} → Rising a l b → All (λ y. a ≤ rank y) l
  rising-above (ended k) = nil
  rising-above (raised k r) = con k (All-map (λ y h. omega arith) (rising-above r))

  rising-apart : {a b : ℕ} {l : List ℕ} → Rising a l b → NoTwice l
  rising-apart (ended k) = nobody
  rising-apart (raised {x = x} k r) = another {x = x} (All-map (λ y h e. omega (arith, ap rank e)) (rising-above r)) (rising-apart r)

  rising-tabulate : (n a b : ℕ) (f : ℕ → ℕ) → ((j : ℕ) → j < n → rank (f j) ≡ a + j) → a + n ≤ b → Rising a (tabulate n f) b
  unfolding tabulate
  rising-tabulate zero a b f h l = let w : a ≤ b = omega arith in ended w
  rising-tabulate (suc n) a b f h l =
      let z = h zero (omega arith) in
      let w : a ≤ rank (f zero) = omega arith in
      let v : suc (rank (f zero)) ≤ suc a = omega arith in
      raised w (rising-from v (rising-tabulate n (suc a) b (λ j. f (suc j)) (λ j m. h (suc j) (omega arith) ∙ omega arith) (omega arith)))

-- ---- the rank of a place: by module, then the values, then the marks by link

unfoldable rank : Plan → ℕ → ℕ
rank p i = cond (ltb i CELLS) (i / WIDTH * 1000 + i % WIDTH) (from p (i - CELLS) * 1000 + (WIDTH + link_of (i - CELLS)))

rank-cell : (p : Plan) (v j : ℕ) → v < max_modules → j < WIDTH → rank p (cell_of v j) ≡ v * 1000 + j
unfolding rank
rank-cell p v j l m = rw (lt-ltb (cell_of v j) CELLS (omega arith)) (omega arith)

rank-end : (p : Plan) (d : ℕ) → rank p (mark_place d) ≡ from p d * 1000 + (WIDTH + link_of d)
unfolding rank
rank-end p d = rw (le-ltb (CELLS + d) CELLS (omega arith)) (ap (λ x. from p x * 1000 + (WIDTH + link_of x)) (let e : CELLS + d - CELLS ≡ d = omega arith in e))

rank-mark : (p : Plan) (v k : ℕ) → is_own p v k ≡ true → rank p (mark_place (end_of p v k)) ≡ v * 1000 + (WIDTH + k)
rank-mark p v k o = rank-end p (end_of p v k) ∙ ap₂ (λ a b. a * 1000 + (WIDTH + b)) (from-over p v k o) (link-over p v k)

module _ (p : Plan) where
  rising-marks : (v k : ℕ) → Rising (rank p) (v * 1000 + WIDTH) (mark_places p v k) (v * 1000 + (WIDTH + k))
  unfolding mark_places
  rising-marks v zero = let w : v * 1000 + WIDTH ≤ v * 1000 + (WIDTH + 0) = omega arith in ended w
  rising-marks v (suc k) = rising-app (rank p) (rising-marks v k) (bool_cases (is_own p v k)
      (λ o. let e = rank-mark p v k o in
      let w : v * 1000 + (WIDTH + k) ≤ rank p (mark_place (end_of p v k)) = omega arith in
      let u : suc (rank p (mark_place (end_of p v k))) ≤ v * 1000 + (WIDTH + suc k) = omega arith in
      rw o (raised w (ended u)))
      (λ o. let w : v * 1000 + (WIDTH + k) ≤ v * 1000 + (WIDTH + suc k) = omega arith in rw o (ended w)))

  module _ (a : Accepted p) where
    rising-places : (n : ℕ) → n ≤ max_modules → Rising (rank p) 0 (places_below p n) (n * 1000)
    unfolding places_below
    rising-places zero l = let w : 0 ≤ 0 * 1000 = omega arith in ended w
    rising-places (suc n) l =
        let w : n * 1000 + (WIDTH + links_of p) ≤ suc n * 1000 = omega (arith, a.links_ok) in
        rising-app (rank p) (rising-places n (omega arith))
        (rising-app (rank p) (rising-tabulate (rank p) WIDTH (n * 1000) (n * 1000 + WIDTH) (cell_of n) (λ j m. rank-cell p n j l m) (omega arith))
        (rising-to (rank p) (rising-marks n (links_of p)) w))

    -- no place twice
    pub places-apart : NoTwice (places p)
    places-apart = rising-apart (rank p) (rising-places (modules_of p) a.modules_ok)

-- ---- which places they are

-- a cell of the plan's modules, or the mark of an end of its links
abbrev pub IsPlace : Plan → ℕ → Type 0
IsPlace p i = (i < modules_of p * WIDTH) ⊎ ((CELLS ≤ i) × (i < CELLS + 2 * links_of p))

module _ (p : Plan) where
  marks-inside : (v k : ℕ) → All (IsPlace p) (mark_places p v k)
  unfolding mark_places
  marks-inside v zero = nil
  marks-inside v (suc k) = All-app (marks-inside v k) (bool_cases (is_own p v k)
      (λ o. let w : CELLS ≤ mark_place (end_of p v k) = omega arith in
      let u : mark_place (end_of p v k) < CELLS + 2 * links_of p = omega (arith, over_below p v k o) in
      rw o (All-one (inr (w, u))))
      (λ o. rw o nil))

  below-inside : (n : ℕ) → n ≤ modules_of p → All (IsPlace p) (places_below p n)
  unfolding places_below
  below-inside zero l = nil
  below-inside (suc n) l = All-app (below-inside n (omega arith)) (All-app (All-tabulate WIDTH (cell_of n) (λ j m. inl (omega arith))) (marks-inside n (links_of p)))

  pub places-inside : All (IsPlace p) (places p)
  places-inside = below-inside (modules_of p) (omega arith)

  cell_below : (i n : ℕ) → i < n * WIDTH → Among i (places_below p n)
  unfolding places_below
  cell_below i zero l = absurd (omega arith)
  cell_below i (suc n) l = ltb-cases i (n * WIDTH) (λ b. Among i (places_below p n ++ module_places p n))
      (λ m. among-left (module_places p n) (cell_below i n m))
      (λ m. among-right (places_below p n) (among-left (mark_places p n (links_of p))
      (subst (λ k. Among k (value_places n)) (let e : cell_of n (i - n * WIDTH) ≡ i = omega arith in e) (among-tabulate WIDTH (cell_of n) (i - n * WIDTH) (omega arith)))))

  pub cell-among : (i : ℕ) → i < modules_of p * WIDTH → Among i (places p)
  cell-among i l = cell_below i (modules_of p) l

  mark-below : (v k n : ℕ) → is_own p v k ≡ true → k < n → Among (mark_place (end_of p v k)) (mark_places p v n)
  unfolding mark_places
  mark-below v k zero o l = absurd (omega arith)
  mark-below v k (suc n) o l = by-eq k n
      (λ e. among-right (mark_places p v n) (subst (λ j. Among (mark_place (end_of p v k)) (cond (is_own p v j) (mark_place (end_of p v j) ∷ []) [])) e (rw o foremost)))
      (λ d. among-left (cond (is_own p v n) (mark_place (end_of p v n) ∷ []) []) (mark-below v k n o (omega arith)))

  module-below : (v n i : ℕ) → v < n → Among i (module_places p v) → Among i (places_below p n)
  unfolding places_below
  module-below v zero i l m = absurd (omega arith)
  module-below v (suc n) i l m = by-eq v n
      (λ e. among-right (places_below p n) (subst (λ u. Among i (module_places p u)) e m))
      (λ d. among-left (module_places p n) (module-below v n i (omega arith) m))

  pub mark-among : Accepted p → (d : ℕ) → d < 2 * links_of p → Among (mark_place d) (places p)
  mark-among a d l =
      let v = from p d in
      module-below v (modules_of p) (mark_place d) (from-below p a d l) (among-right (value_places v)
      (subst (λ x. Among (mark_place x) (mark_places p v (links_of p))) (over-from p a d l) (mark-below v (link_of d) (links_of p) (from-own p a d l) (omega arith))))

-- ---- how many

module _ (p : Plan) where
  marks-length : (v k : ℕ) → length (mark_places p v k) ≡ sum k (λ j. bit (is_own p v j))
  unfolding mark_places
  marks-length v zero = refl
  marks-length v (suc k) =
      length-append (mark_places p v k) (cond (is_own p v k) (mark_place (end_of p v k) ∷ []) [])
      ∙ bool_cases (is_own p v k) (λ o. rw o (omega (arith, marks-length v k))) (λ o. rw o (omega (arith, marks-length v k)))

  -- the own links of a module
  abbrev owns : ℕ → ℕ
  owns v = sum (links_of p) (λ k. bit (is_own p v k))

  below_length : (n : ℕ) → length (places_below p n) ≡ n * WIDTH + sum n owns
  unfolding places_below
  below_length zero = refl
  below_length (suc n) =
      omega (
        arith,
        length-append (places_below p n) (module_places p n),
        length-append (value_places n) (mark_places p n (links_of p)),
        length-tabulate WIDTH (cell_of n),
        marks-length n (links_of p),
        below_length n,
      )

  module _ (a : Accepted p) where
    -- a link has two ends
    pub link-bits : (k : ℕ) → k < links_of p → (v : ℕ) → bit (is_own p v k) ≡ bit (eqb (lower_of p k) v) + bit (eqb (higher_of p k) v)
    link-bits k l v = by-eq (lower_of p k) v
        (λ e. rw (own-lower p v k l e, eq-eqb (lower_of p k) v e, ne_eqb (higher_of p k) v (λ q. omega (arith, (a.each k l).ordered))))
        (λ n. rw (own-higher p v k l n, ne_eqb (lower_of p k) v n) (omega arith))

    two_ends : (k : ℕ) → k < links_of p → sum (modules_of p) (λ v. bit (is_own p v k)) ≡ 2
    two_ends k l =
        let o = a.each k l in
        let lo = lower_of p k in
        let hi = higher_of p k in
        omega (
          arith,
          sum-eq (modules_of p) (λ v. bit (is_own p v k)) (λ v. bit (eqb lo v) + bit (eqb hi v)) (λ v m. link-bits k l v),
          sum-add (modules_of p) (λ v. bit (eqb lo v)) (λ v. bit (eqb hi v)),
          sum_one (modules_of p) lo (omega (arith, o.ordered, o.inside)),
          sum_one (modules_of p) hi o.inside,
        )

    pub places-length : length (places p) ≡ modules_of p * WIDTH + 2 * links_of p
    places-length =
        omega (
          arith,
          below_length (modules_of p),
          sum-swap (modules_of p) (links_of p) (λ v k. bit (is_own p v k)),
          sum-eq (links_of p) (λ k. sum (modules_of p) (λ v. bit (is_own p v k))) (λ k. 2) two_ends,
          sum-const (links_of p) 2,
        )

    -- all within a field's cells and marks
    pub places-below : All (λ i. i < CELLS + max_ends) (places p)
    places-below = All-map (λ i h. ⊎_elim (λ l. omega (arith, a.modules_ok)) (λ l. omega (arith, l.1, a.links_ok)) h) (places-inside p)
