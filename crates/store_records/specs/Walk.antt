-- The records of a store: they are the store's front (`front-is`), each is a record (`all-records`), and records laid out are read back (`laid-back`);
-- what stands at the front (`none-`, `splits-whole`), and its size (`front-`); one turn of a walk over them (`walk-`).
use Rattle.std.specs.Prelude.{ℕ, zero, suc, ◌+◌, ◌-◌, ◌≤◌, ◌<◌, ◌≡◌, refl, ◌≢◌, true, false, cond, List, [], ◌∷◌, ◌++◌, length, get_or, take, drop, replicate, eqb, leb}
use Rattle.std.proofs.Common.{arith, sym, ap, ap₂, ◌∙◌, append_assoc, length-append, length-drop, take-append-drop, length-take-le, get_or-take, take_at, drop_at, drop-drop}
use Rattle.std.proofs.Math.Bool.{and-eq-true_iff}
use Rattle.std.proofs.lemmas.List.{length-replicate}
use Rattle.std.proofs.Math.ListN.{get_or-append}
use borrow.Author.Tests.{eqb-true, leb-true, eq-eqb, ne_eqb, le-leb, lt-leb}
use Rattle.base.specs.Pool.{All, nil, con}
use Rattle.base.proofs.laws.Cond.{bool_cases}
use Rattle.base.proofs.laws.Search.{by-measure}
use Rattle.format_wide.specs.Wide.{at32}
use Rattle.store.specs.Records.{size_at, whole, records_by, records_in, joined, stored}

-- a record by its own length
pub record IsRecord (r : List ℕ) : Type 0 where
  pub version : get_or r 0 0 ≡ 1
  pub sized : size_at r ≡ length r

-- the size of the whole record at the front, 0 where there is none
unfoldable pub front_size : List ℕ → ℕ
front_size s = cond (whole s) (size_at s) 0

-- s is a record at the front and the rest
pub record SplitsOff (s r rest : List ℕ) : Type 0 where
  pub parts : s ≡ r ++ rest
  pub records : records_in s ≡ r ∷ records_in rest
  pub some : 0 < length r

-- A WHOLE RECORD AT THE FRONT

module _ (s : List ℕ) where
  whole-facts : whole s ≡ true → (get_or s 0 0 ≡ 1) × (size_at s ≤ length s)
  unfolding whole
  whole-facts e = let h = (and-eq-true_iff (eqb (get_or s 0 0) 1) (leb (size_at s) (length s))).0 e in (eqb-true _ _ h.0, leb-true _ _ h.1)

  facts-whole : get_or s 0 0 ≡ 1 → size_at s ≤ length s → whole s ≡ true
  unfolding whole
  facts-whole v l = rw (eq-eqb (get_or s 0 0) 1 v) (le-leb (size_at s) (length s) l)

  not-version : get_or s 0 0 ≢ 1 → whole s ≡ false
  unfolding whole
  not-version v = rw (ne_eqb (get_or s 0 0) 1 v)

  not-long : get_or s 0 0 ≡ 1 → length s < size_at s → whole s ≡ false
  unfolding whole
  not-long v l = rw (eq-eqb (get_or s 0 0) 1 v) (lt-leb (size_at s) (length s) l)

not-empty : (s : List ℕ) → length s ≤ 0 → whole s ≡ false
not-empty [] l = not-version [] (λ e. omega arith)
not-empty (x ∷ s) l = absurd (omega arith)

-- THE TURNS: enough are enough

module _ (n : ℕ) (s : List ℕ) where
  by-cons : whole s ≡ true → records_by (suc n) s ≡ take (size_at s) s ∷ records_by n (drop (size_at s) s)
  unfolding records_by
  by-cons e = rw e

  by-none : whole s ≡ false → records_by (suc n) s ≡ []
  unfolding records_by
  by-none e = rw e

enough : (n m : ℕ) (s : List ℕ) → length s ≤ n → length s ≤ m → records_by n s ≡ records_by m s
unfolding records_by
enough zero zero s l k = refl
enough zero (suc m) s l k = sym (by-none m s (not-empty s l))
enough (suc n) zero s l k = by-none n s (not-empty s k)
enough (suc n) (suc m) s l k = bool_cases (whole s)
    (λ e. by-cons n s e ∙ ap (λ r. take (size_at s) s ∷ r)
    (enough n m (drop (size_at s) s) (omega (arith, length-drop (size_at s) s)) (omega (arith, length-drop (size_at s) s))) ∙ sym (by-cons m s e))
    (λ e. by-none n s e ∙ sym (by-none m s e))

module _ (s : List ℕ) where
  pub records-cons : whole s ≡ true → records_in s ≡ take (size_at s) s ∷ records_in (drop (size_at s) s)
  records-cons e = enough (length s) (suc (length s)) s (omega arith) (omega arith) ∙ by-cons (length s) s e
      ∙ ap (λ r. take (size_at s) s ∷ r)
      (enough (length s) (length (drop (size_at s) s)) (drop (size_at s) s) (omega (arith, length-drop (size_at s) s)) (omega arith))

  pub records-none : whole s ≡ false → records_in s ≡ []
  records-none e = enough (length s) (suc (length s)) s (omega arith) (omega arith) ∙ by-none (length s) s e

-- what holds where no record stands at the front, and before a record where it holds behind it, holds of every store
pub by-records : (P : List ℕ → Type 0) → ((s : List ℕ) → whole s ≡ false → P s) → ((s : List ℕ) → whole s ≡ true → P (drop (size_at s) s) → P s)
    → (s : List ℕ) → P s
by-records P ends goes s = by-measure P length (λ t ih. bool_cases (whole t)
    (λ e. goes t e (ih (drop (size_at t) t) (omega (arith, (whole-facts t e).1, length-drop (size_at t) t))))
    (λ e. ends t e)) s

-- THE FRONT

pub length-joined : (r : List ℕ) (rs : List (List ℕ)) → length (joined (r ∷ rs)) ≡ length r + length (joined rs)
unfolding joined
length-joined r rs = length-append r (joined rs)

pub joined-append : (xs ys : List (List ℕ)) → joined (xs ++ ys) ≡ joined xs ++ joined ys
unfolding joined
joined-append [] ys = refl
joined-append (r ∷ xs) ys = ap (λ t. r ++ t) (joined-append xs ys) ∙ sym (append_assoc r (joined xs) (joined ys))

pub front-is : (s : List ℕ) → joined (records_in s) ++ drop (length (joined (records_in s))) s ≡ s
unfolding joined
front-is = by-records (λ s. joined (records_in s) ++ drop (length (joined (records_in s))) s ≡ s)
    (λ s e. rw (records-none s e))
    (λ s e ih.
    let n = size_at s in
    let j = joined (records_in (drop n s)) in
    let l : length (take n s ++ j) ≡ n + length j = length-append (take n s) j ∙ ap (λ k. k + length j) (length-take-le n s (whole-facts s e).1) in
    rw (records-cons s e, l, ← drop-drop (length j) n s)
    (append_assoc (take n s) j (drop (length j) (drop n s)) ∙ ap (λ t. take n s ++ t) ih ∙ take-append-drop n s))

pub used-fits : (s : List ℕ) → length (joined (records_in s)) ≤ length s
used-fits s = omega (arith, ap length (front-is s), length-append (joined (records_in s)) (drop (length (joined (records_in s))) s))

pub stored-length : (n : ℕ) (rs : List (List ℕ)) → length (joined rs) ≤ n → length (stored n rs) ≡ n
stored-length n rs l = omega (arith, length-append (joined rs) zeros, length-replicate {A = ℕ} (n - length (joined rs)) 0)
  where
    zeros : List ℕ
    zeros = replicate (n - length (joined rs)) 0

-- RECORDS

at32-take : (n : ℕ) (s : List ℕ) → 5 ≤ n → at32 (take n s) 1 ≡ at32 s 1
at32-take n s l = rw (get_or-take n s 1 0 (omega arith), get_or-take n s (1 + 1) 0 (omega arith), get_or-take n s (1 + 2) 0 (omega arith), get_or-take n s (1 + 2 + 1) 0 (omega arith))

pub all-records : (s : List ℕ) → All IsRecord (records_in s)
all-records = by-records (λ s. All IsRecord (records_in s))
    (λ s e. rw (records-none s e) nil)
    (λ s e ih. rw (records-cons s e) (con (record {
      version = get_or-take (size_at s) s 0 0 (omega arith) ∙ (whole-facts s e).0;
      sized = ap (λ k. 5 + k) (at32-take (size_at s) s (omega arith)) ∙ sym (length-take-le (size_at s) s (whole-facts s e).1);
    }) ih))

-- a record at the front
module _ (r t : List ℕ) (h : IsRecord r) where
  record-size : size_at (r ++ t) ≡ length r
  record-size = rw (byte 1 (omega arith), byte (1 + 1) (omega arith), byte (1 + 2) (omega arith), byte (1 + 2 + 1) (omega arith)) h.sized
    where
      byte : (i : ℕ) → i < 5 → get_or (r ++ t) i 0 ≡ get_or r i 0
      byte i l = get_or-append r t 0 i (omega (arith, h.sized))

  record-whole : whole (r ++ t) ≡ true
  record-whole = facts-whole (r ++ t) (get_or-append r t 0 0 (omega (arith, h.sized)) ∙ h.version) (omega (arith, record-size, length-append r t))

  record-first : records_in (r ++ t) ≡ r ∷ records_in t
  record-first = records-cons (r ++ t) record-whole ∙ ap₂ (λ a b. a ∷ records_in b)
      (take_at r t (size_at (r ++ t)) (sym record-size)) (drop_at r t (size_at (r ++ t)) (sym record-size))

no-records : (k : ℕ) → records_in (replicate k 0) ≡ []
no-records zero = records-none [] (not-empty [] (omega arith))
no-records (suc k) = records-none (replicate (suc k) 0) (not-version (replicate (suc k) 0) (λ e. omega arith))

-- records with zeros after, at any length
pub laid-back : (n : ℕ) {rs : List (List ℕ)} → All IsRecord rs → records_in (stored n rs) ≡ rs
unfolding joined
laid-back n {rs} h = back (n - length (joined rs)) h
  where
    back : (k : ℕ) {xs : List (List ℕ)} → All IsRecord xs → records_in (joined xs ++ replicate k 0) ≡ xs
    back k nil = no-records k
    back k (con {x} {xs} h t) = ap records_in (append_assoc x (joined xs) (replicate k 0)) ∙ record-first x (joined xs ++ replicate k 0) h ∙ ap (λ l. x ∷ l) (back k t)

-- WHAT STANDS AT THE FRONT: no record, or one and the rest

module _ (s : List ℕ) where
  pub none-short : length s < 5 → records_in s ≡ []
  none-short l = records-none s (bool_cases (whole s) (λ e. absurd (omega (arith, (whole-facts s e).1))) (λ e. e))

  pub none-version : get_or s 0 0 ≢ 1 → records_in s ≡ []
  none-version v = records-none s (not-version s v)

  pub none_long : 5 ≤ length s → get_or s 0 0 ≡ 1 → length s - 5 < at32 s 1 → records_in s ≡ []
  none_long k v l = records-none s (not-long s v (omega arith))

  pub splits-whole : {n : ℕ} {r t : List ℕ} → 5 ≤ length s → get_or s 0 0 ≡ 1 → n ≡ at32 s 1 → n ≤ length s - 5
      → r ≡ take (5 + n) s → t ≡ drop (5 + n) s → SplitsOff s r t
  splits-whole {n} k v e l er et =
      let w = facts-whole s v (omega arith) in
      let z : 5 + n ≡ size_at s = omega arith in
      rw (er, et, z) (record {
        parts = sym (take-append-drop (size_at s) s);
        records = records-cons s w;
        some = omega (arith, length-take-le (size_at s) s (whole-facts s w).1);
      })

-- ONE TURN OF A WALK, at byte a

module _ (s : List ℕ) where
  pub front-short : length s < 5 → 0 ≡ front_size s
  unfolding front_size
  front-short l = bool_cases (whole s) (λ e. absurd (omega (arith, (whole-facts s e).1))) (λ e. rw e)

  pub front-version : get_or s 0 0 ≢ 1 → 0 ≡ front_size s
  unfolding front_size
  front-version v = rw (not-version s v)

  pub front_long : 5 ≤ length s → get_or s 0 0 ≡ 1 → length s - 5 < at32 s 1 → 0 ≡ front_size s
  unfolding front_size
  front_long k v l = rw (not-long s v (omega arith))

  pub front-whole : 5 ≤ length s → get_or s 0 0 ≡ 1 → at32 s 1 ≤ length s - 5 → size_at s ≡ front_size s
  unfolding front_size
  front-whole k v l = rw (facts-whole s v (omega arith))

module _ (s : List ℕ) (a n : ℕ) (e : n ≡ front_size (drop a s)) where
  walk-size : n ≢ 0 → (whole (drop a s) ≡ true) × (n ≡ size_at (drop a s))
  unfolding front_size
  walk-size d = bool_cases (whole (drop a s)) (λ w. (w, e ∙ rw w)) (λ w. absurd (d (e ∙ rw w)))

  pub walk_ends : n ≡ 0 → records_in (drop a s) ≡ []
  unfolding front_size
  walk_ends z = bool_cases (whole (drop a s)) (λ w. absurd (let q : n ≡ size_at (drop a s) = e ∙ rw w in omega arith)) (records-none (drop a s))

  pub walk-fits : n ≢ 0 → a + n ≤ length s
  walk-fits d = let w = walk-size d in omega (arith, w.1, (whole-facts (drop a s) w.0).1, length-drop a s)

  pub walk-cons : n ≢ 0 → records_in (drop a s) ≡ take n (drop a s) ∷ records_in (drop (a + n) s)
  walk-cons d = let w = walk-size d in records-cons (drop a s) w.0
      ∙ ap (λ k. take k (drop a s) ∷ records_in (drop k (drop a s))) (sym w.1) ∙ ap (λ t. take n (drop a s) ∷ records_in t) (drop-drop n a s)
