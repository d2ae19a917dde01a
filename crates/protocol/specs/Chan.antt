-- Channels: membership and order in a list (`In`, `Bef`), and what becomes of them when the head is taken (`pop-`), moved back (`rot-`), or a message is sent
-- (`snoc-`).
use Rattle.std.specs.Prelude.{ℕ, ◌+◌, ◌≤◌, ◌≡◌, refl, ◌≢◌, ◌⊎◌, List, [], ◌∷◌, ◌++◌}
use Rattle.std.proofs.Common.{arith, sym, ap, subst, ◌∙◌, inl, inr, ⊎_elim}
use Rattle.base.specs.Cond.{upd2}
use Rattle.base.proofs.laws.Cond.{upd2-elim, by-eq}
use Rattle.base.specs.Pool.{All, sum_l, nil, con}
use Rattle.base.proofs.laws.Pool.{All-app, sum_l-app}

module _ {A : Type 0} where
  -- x is a member
  pub data In (x : A) : List A → Type 0 where
    first : {l : List A} → In x (x ∷ l)
    next : {y : A} {l : List A} → In x l → In x (y ∷ l)

  -- x stands before y
  pub data Bef (x y : A) : List A → Type 0 where
    heads : {l : List A} → In y l → Bef x y (x ∷ l)
    tails : {z : A} {l : List A} → Bef x y l → Bef x y (z ∷ l)

  pub in-nil : {x : A} → In x [] → ⊥
  in-nil = elim [ ]

  pub in-cons : {x y : A} {l : List A} → In x (y ∷ l) → (x ≡ y) ⊎ In x l
  in-cons first = inl refl
  in-cons (next h) = inr h

  pub bef-nil : {x y : A} → Bef x y [] → ⊥
  bef-nil = elim [ ]

  pub bef-before : {x y : A} {l : List A} → Bef x y l → In x l
  bef-before (heads h) = first
  bef-before (tails b) = next (bef-before b)

  pub bef-behind : {x y : A} {l : List A} → Bef x y l → In y l
  bef-behind (heads h) = next h
  bef-behind (tails b) = next (bef-behind b)

  -- ---- on lists

  pub in_left : {x : A} {l : List A} (m : List A) → In x l → In x (l ++ m)
  in_left m first = first
  in_left m (next h) = next (in_left m h)

  pub in_right : {x : A} (l : List A) {m : List A} → In x m → In x (l ++ m)
  in_right [] h = h
  in_right (y ∷ l) h = next (in_right l h)

  pub in_app : {x : A} (l m : List A) → In x (l ++ m) → In x l ⊎ In x m
  in_app [] m h = inr h
  in_app (y ∷ l) m first = inl first
  in_app (y ∷ l) m (next h) = ⊎_elim (λ a. inl (next a)) (λ b. inr b) (in_app l m h)

  pub in-snoc : {x : A} (l : List A) {m : A} → In x (l ++ (m ∷ [])) → In x l ⊎ (x ≡ m)
  in-snoc l {m} h = ⊎_elim (λ a. inl a) (λ b. ⊎_elim (λ e. inr e) (λ n. absurd (in-nil n)) (in-cons b)) (in_app l (m ∷ []) h)

  pub bef-snoc : {x y : A} (l : List A) {m : A} → Bef x y (l ++ (m ∷ [])) → Bef x y l ⊎ ((y ≡ m) × In x l)
  bef-snoc [] b = absurd (alone b)
    where
      alone : {x y m : A} → Bef x y (m ∷ []) → ⊥
      alone (heads h) = in-nil h
      alone (tails t) = bef-nil t
  bef-snoc (z ∷ l) (heads h) = ⊎_elim (λ a. inl (heads a)) (λ e. inr (e, first)) (in-snoc l h)
  bef-snoc (z ∷ l) (tails t) = ⊎_elim (λ a. inl (tails a)) (λ e. inr (e.0, next e.1)) (bef-snoc l t)

  -- m from the head to the middle
  pub mid-in : {x : A} (a b : List A) {m : A} → In x (a ++ (m ∷ b)) → In x (m ∷ (a ++ b))
  mid-in [] b h = h
  mid-in (y ∷ a) b first = next first
  mid-in (y ∷ a) b (next h) = swap (mid-in a b h)
    where
      swap : {x y m : A} {l : List A} → In x (m ∷ l) → In x (m ∷ (y ∷ l))
      swap first = first
      swap (next t) = next (next t)

  pub in-mid : {x : A} (a b : List A) {m : A} → In x (m ∷ (a ++ b)) → In x (a ++ (m ∷ b))
  in-mid [] b h = h
  in-mid (y ∷ a) b first = next (in-mid a b first)
  in-mid (y ∷ a) b (next first) = first
  in-mid (y ∷ a) b (next (next h)) = next (in-mid a b (next h))

  -- who stands before whom then: as it was, or m is behind now
  pub mid-bef : {x y : A} (a b : List A) {m : A} → Bef x y (a ++ (m ∷ b)) → Bef x y (m ∷ (a ++ b)) ⊎ ((y ≡ m) × Bef m x (m ∷ (a ++ b)))
  mid-bef [] b h = inl h
  mid-bef (z ∷ a) b (heads h) = ⊎_elim (λ e. inr (e, heads first)) (λ t. inl (tails (heads t))) (in-cons (mid-in a b h))
  mid-bef (z ∷ a) b (tails t) = ⊎_elim (λ e. lift e) (λ e. inr (e.0, deep refl e.1)) (mid-bef a b t)
    where
      lift : {x y m z : A} {l : List A} → Bef x y (m ∷ l) → Bef x y (m ∷ (z ∷ l)) ⊎ ((y ≡ m) × Bef m x (m ∷ (z ∷ l)))
      lift (heads h) = inl (heads (next h))
      lift (tails h) = inl (tails (tails h))

      deep : {x y m z : A} {l : List A} → y ≡ m → Bef y x (m ∷ l) → Bef m x (m ∷ (z ∷ l))
      deep e (heads h) = heads (next h)
      deep {x} {l = l} e (tails h) = tails (tails (subst (λ k. Bef k x l) e h))

  pub sum-mid : (f : A → ℕ) (a b : List A) (m : A) → sum_l f (a ++ (m ∷ b)) ≡ sum_l f (m ∷ (a ++ b))
  sum-mid f [] b m = refl
  sum-mid f (y ∷ a) b m = omega (arith, sum-mid f a b m)

  pub all-mid : {P : A → Type 0} (a b : List A) {m : A} → All P (m ∷ (a ++ b)) → All P (a ++ (m ∷ b))
  all-mid [] b h = h
  all-mid (y ∷ a) b (con h (con g t)) = con g (all-mid a b (con h t))

  -- ---- counts, All and membership

  pub in_sum : (f : A → ℕ) {x : A} {l : List A} → In x l → f x ≤ sum_l f l
  in_sum f (first {l}) = omega arith
  in_sum f (next {y} h) = omega (arith, in_sum f h)

  -- a member that counts
  pub some_of : (f : A → ℕ) (l : List A) → 1 ≤ sum_l f l → (x : A) × In x l × (1 ≤ f x)
  some_of f [] h = absurd (omega arith)
  some_of f (y ∷ l) h = by-eq (f y) 0
      (λ e. let t = some_of f l (omega arith) in (t.0, next t.1, t.2))
      (λ n. (y, first, omega arith))

  -- nobody counts
  pub sum-none : (f : A → ℕ) (l : List A) → ((x : A) → In x l → f x ≡ 0) → sum_l f l ≡ 0
  sum-none f [] h = refl
  sum-none f (y ∷ l) h = omega (arith, h y first, sum-none f l (λ x i. h x (next i)))

  pub all_in : {P : A → Type 0} {x : A} {l : List A} → All P l → In x l → P x
  all_in nil i = elim i [ ]
  all_in (con h t) first = h
  all_in (con h t) (next i) = all_in t i

  pub in_all : {P : A → Type 0} (l : List A) → ((x : A) → In x l → P x) → All P l
  in_all [] h = nil
  in_all (y ∷ l) h = con (h y first) (in_all l (λ x i. h x (next i)))

-- ---- in the table of channels c: two keys, node and edge

-- the read of a table at equal keys
pub at2 : {A : Type 0} (f : ℕ → ℕ → A) {u w k j : ℕ} → u ≡ w → k ≡ j → f u k ≡ f w j
at2 f {u} {j} p q = ap (λ x. f u x) q ∙ ap (λ x. f x j) p

module _ {A : Type 0} (c : ℕ → ℕ → A) (u k : ℕ) (l : A) where
  -- another place is as it was
  pub else_same : (w j : ℕ) → (u ≢ w) ⊎ (k ≢ j) → upd2 c u k l w j ≡ c w j
  else_same w j n = upd2-elim (λ x. x ≡ c w j) c u k l w j (λ a b. absurd (⊎_elim (λ f. f a) (λ f. f b) n)) (λ m. refl)

  pub here-new : upd2 c u k l u k ≡ l
  here-new = upd2-elim (λ x. x ≡ l) c u k l u k (λ a b. refl) (λ n. absurd (⊎_elim (λ f. f refl) (λ f. f refl) n))

-- the head m of the channel from u over k is taken; r is left
module _ {A : Type 0} (c : ℕ → ℕ → List A) (u k : ℕ) {m : A} {r : List A} (q : c u k ≡ m ∷ r) where
  -- at the place itself c w j is m ∷ r
  pub head_at : (w j : ℕ) → u ≡ w → k ≡ j → c w j ≡ m ∷ r
  head_at w j a b = sym (at2 c a b) ∙ q

  pub pop-head : In m (c u k)
  pop-head = subst (λ l. In m l) (sym q) first

  pub pop-in : {x : A} (w j : ℕ) → In x (upd2 c u k r w j) → In x (c w j)
  pop-in {x} w j = upd2-elim (λ l. In x l → In x (c w j)) c u k r w j (λ a b h. subst (λ l. In x l) (sym (head_at w j a b)) (next h)) (λ n h. h)

  pub in-pop : {x : A} (w j : ℕ) → x ≢ m → In x (c w j) → In x (upd2 c u k r w j)
  in-pop {x} w j d h = upd2-elim (λ l. In x l) c u k r w j
      (λ a b. ⊎_elim (λ e. absurd (d e)) (λ t. t) (in-cons (subst (λ l. In x l) (head_at w j a b) h))) (λ n. h)

  pub pop-bef : {x y : A} (w j : ℕ) → Bef x y (upd2 c u k r w j) → Bef x y (c w j)
  pop-bef {x} {y} w j = upd2-elim (λ l. Bef x y l → Bef x y (c w j)) c u k r w j (λ a b h. subst (λ l. Bef x y l) (sym (head_at w j a b)) (tails h)) (λ n h. h)

  -- counts: of another kind, at the place itself, and in general
  pub pop-sum : (f : A → ℕ) → f m ≡ 0 → (w j : ℕ) → sum_l f (upd2 c u k r w j) ≡ sum_l f (c w j)
  pop-sum f z w j = upd2-elim (λ l. sum_l f l ≡ sum_l f (c w j)) c u k r w j (λ a b. omega (arith, ap (sum_l f) (head_at w j a b))) (λ n. refl)

  pub pop-here : (f : A → ℕ) → sum_l f (c u k) ≡ f m + sum_l f (upd2 c u k r u k)
  pop-here f = omega (arith, ap (sum_l f) q, ap (sum_l f) (here-new c u k r))

  pub pop-le : (f : A → ℕ) (w j : ℕ) → sum_l f (upd2 c u k r w j) ≤ sum_l f (c w j)
  pop-le f w j = upd2-elim (λ l. sum_l f l ≤ sum_l f (c w j)) c u k r w j (λ a b. omega (arith, ap (sum_l f) (head_at w j a b))) (λ n. omega arith)

  pub pop-all : {P : A → Type 0} (w j : ℕ) → All P (c w j) → All P (upd2 c u k r w j)
  pop-all {P} w j h = upd2-elim (λ l. All P l) c u k r w j (λ a b. rest (subst (λ l. All P l) (head_at w j a b) h)) (λ n. h)
    where
      rest : {x : A} {l : List A} → All P (x ∷ l) → All P l
      rest (con g t) = t

-- m is sent: it goes to the end of the channel from v over k
module _ {A : Type 0} (c : ℕ → ℕ → List A) (v k : ℕ) (m : A) where
  -- the new table
  abbrev pub snoc : ℕ → ℕ → List A
  snoc = upd2 c v k (c v k ++ (m ∷ []))

  pub snoc-elim {κ} : (P : List A → Type κ) (w j : ℕ) → (v ≡ w → k ≡ j → P (c w j ++ (m ∷ []))) → ((v ≢ w) ⊎ (k ≢ j) → P (c w j)) → P (snoc w j)
  snoc-elim P w j y n = upd2-elim P c v k (c v k ++ (m ∷ [])) w j (λ a b. subst (λ l. P (l ++ (m ∷ []))) (sym (at2 c a b)) (y a b)) n

  pub snoc-in : {x : A} (w j : ℕ) → In x (snoc w j) → In x (c w j) ⊎ ((v ≡ w) × (k ≡ j) × (x ≡ m))
  snoc-in {x} w j = snoc-elim (λ l. In x l → In x (c w j) ⊎ ((v ≡ w) × (k ≡ j) × (x ≡ m))) w j
      (λ a b h. ⊎_elim (λ t. inl t) (λ e. inr (a, b, e)) (in-snoc (c w j) h)) (λ n h. inl h)

  pub snoc_old : {x : A} (w j : ℕ) → x ≢ m → In x (snoc w j) → In x (c w j)
  snoc_old w j d h = ⊎_elim (λ t. t) (λ e. absurd (d e.2)) (snoc-in w j h)

  pub in-snoc2 : {x : A} (w j : ℕ) → In x (c w j) → In x (snoc w j)
  in-snoc2 {x} w j h = snoc-elim (λ l. In x l) w j (λ a b. in_left (m ∷ []) h) (λ n. h)

  pub in-new : In m (snoc v k)
  in-new = snoc-elim (λ l. In m l) v k (λ a b. in_right (c v k) first) (λ n. absurd (⊎_elim (λ f. f refl) (λ f. f refl) n))

  pub snoc-bef : {x y : A} (w j : ℕ) → Bef x y (snoc w j) → Bef x y (c w j) ⊎ ((v ≡ w) × (k ≡ j) × (y ≡ m) × In x (c w j))
  snoc-bef {x} {y} w j = snoc-elim (λ l. Bef x y l → Bef x y (c w j) ⊎ ((v ≡ w) × (k ≡ j) × (y ≡ m) × In x (c w j))) w j
      (λ a b h. ⊎_elim (λ t. inl t) (λ e. inr (a, b, e.0, e.1)) (bef-snoc (c w j) h)) (λ n h. inl h)

  pub snoc-sum : (f : A → ℕ) → f m ≡ 0 → (w j : ℕ) → sum_l f (snoc w j) ≡ sum_l f (c w j)
  snoc-sum f z w j = snoc-elim (λ l. sum_l f l ≡ sum_l f (c w j)) w j (λ a b. omega (arith, sum_l-app f (c w j) (m ∷ []))) (λ n. refl)

  pub snoc-here : (f : A → ℕ) → sum_l f (snoc v k) ≡ sum_l f (c v k) + f m
  snoc-here f = snoc-elim (λ l. sum_l f l ≡ sum_l f (c v k) + f m) v k (λ a b. omega (arith, sum_l-app f (c v k) (m ∷ [])))
      (λ n. absurd (⊎_elim (λ g. g refl) (λ g. g refl) n))

  pub snoc-else : (w j : ℕ) → (v ≢ w) ⊎ (k ≢ j) → snoc w j ≡ c w j
  snoc-else w j n = else_same c v k (c v k ++ (m ∷ [])) w j n

  pub snoc-all : {P : A → Type 0} (w j : ℕ) → (v ≡ w → k ≡ j → P m) → All P (c w j) → All P (snoc w j)
  snoc-all {P} w j h t = snoc-elim (λ l. All P l) w j (λ a b. All-app t (con (h a b) nil)) (λ n. t)

-- the head m is put back to a later place
module _ {A : Type 0} (c : ℕ → ℕ → List A) (u k : ℕ) {m : A} (a b : List A) (q : c u k ≡ m ∷ (a ++ b)) where
  abbrev pub rot : ℕ → ℕ → List A
  rot = upd2 c u k (a ++ (m ∷ b))

  pub rot-in : {x : A} (w j : ℕ) → In x (rot w j) → In x (c w j)
  rot-in {x} w j = upd2-elim (λ l. In x l → In x (c w j)) c u k (a ++ (m ∷ b)) w j
      (λ y z h. subst (λ l. In x l) (sym (head_at c u k q w j y z)) (mid-in a b h)) (λ n h. h)

  pub in-rot : {x : A} (w j : ℕ) → In x (c w j) → In x (rot w j)
  in-rot {x} w j h = upd2-elim (λ l. In x l) c u k (a ++ (m ∷ b)) w j (λ y z. in-mid a b (subst (λ l. In x l) (head_at c u k q w j y z) h)) (λ n. h)

  -- as before, or y is m and x stood behind it
  pub rot-bef : {x y : A} (w j : ℕ) → Bef x y (rot w j) → Bef x y (c w j) ⊎ ((u ≡ w) × (k ≡ j) × (y ≡ m) × Bef m x (c w j))
  rot-bef {x} {y} w j = upd2-elim (λ l. Bef x y l → Bef x y (c w j) ⊎ ((u ≡ w) × (k ≡ j) × (y ≡ m) × Bef m x (c w j))) c u k (a ++ (m ∷ b)) w j
      (λ d e h. ⊎_elim (λ t. inl (subst (λ l. Bef x y l) (sym (head_at c u k q w j d e)) t))
      (λ t. inr (d, e, t.0, subst (λ l. Bef m x l) (sym (head_at c u k q w j d e)) t.1)) (mid-bef a b h)) (λ n h. inl h)

  pub rot-sum : (f : A → ℕ) (w j : ℕ) → sum_l f (rot w j) ≡ sum_l f (c w j)
  rot-sum f w j = upd2-elim (λ l. sum_l f l ≡ sum_l f (c w j)) c u k (a ++ (m ∷ b)) w j
      (λ d e. sum-mid f a b m ∙ ap (sum_l f) (sym (head_at c u k q w j d e))) (λ n. refl)

  pub rot-all : {P : A → Type 0} (w j : ℕ) → All P (c w j) → All P (rot w j)
  rot-all {P} w j h = upd2-elim (λ l. All P l) c u k (a ++ (m ∷ b)) w j (λ d e. all-mid a b (subst (λ l. All P l) (head_at c u k q w j d e) h)) (λ n. h)
