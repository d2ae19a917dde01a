-- Where the first record that passes stands: the list in two parts around it (`parted`), the part of the store there (`spot-part`), what is left
-- without it (`record-leaves`, `lengths`, `without-keeps`), and a record behind the last (`comes`).
use Rattle.std.specs.Prelude.{ℕ, ◌+◌, ◌-◌, ◌≤◌, ◌≡◌, refl, Bool, true, false, cond, drop, replicate}
use Rattle.std.proofs.Common.{arith, add-zero, sym, ap, ap₂, subst, ◌∙◌, length-append, take-append-drop, drop_at}
use mathlib.Core.List.{List, [], ◌∷◌, ◌++◌, append_assoc, append-nil}
use Rattle.std.proofs.Math.ListN.{length, take}
use Rattle.std.proofs.lemmas.List.{length-replicate, replicate-append-replicate}
use Rattle.std.proofs.Math.Seq.{take_at, drop-append-add}
use Rattle.std.proofs.lemmas.List.Edits.{sets, sets-eq}
use Rattle.base.specs.Pool.{All, nil, con}
use Rattle.base.proofs.laws.Cond.{bool_cases}
use Rattle.store.specs.Records.{records_in, joined, stored}
use Rattle.store.specs.Names.{spot_from, without_first}
use Rattle.store_records.specs.Walk.{length-joined, joined-append, front-is}

-- the first record that passes, nothing where none does
unfoldable pub first_of : (List ℕ → Bool) → List (List ℕ) → List ℕ
first_of q [] = []
first_of q (r ∷ rs) = cond (q r) r (first_of q rs)

-- no record passes
abbrev pub NonePass : (List ℕ → Bool) → List (List ℕ) → Type 0
NonePass q rs = All (λ r. q r ≡ false) rs

-- A RECORD MORE IN FRONT

module _ (q : List ℕ → Bool) (r : List ℕ) (rs : List (List ℕ)) where
  pub spot-hit : (a : ℕ) → q r ≡ true → spot_from q a (r ∷ rs) ≡ record { at = a; size = length r }
  unfolding spot_from
  spot-hit a e = rw e

  pub spot-next : (a : ℕ) → q r ≡ false → spot_from q a (r ∷ rs) ≡ spot_from q (a + length r) rs
  unfolding spot_from
  spot-next a e = rw e

  without-hit : q r ≡ true → without_first q (r ∷ rs) ≡ rs
  unfolding without_first
  without-hit e = rw e

  without-next : q r ≡ false → without_first q (r ∷ rs) ≡ r ∷ without_first q rs
  unfolding without_first
  without-next e = rw e

  pub first-hit : q r ≡ true → first_of q (r ∷ rs) ≡ r
  unfolding first_of
  first-hit e = rw e

  pub first_next : q r ≡ false → first_of q (r ∷ rs) ≡ first_of q rs
  unfolding first_of
  first_next e = rw e

pub spot-none : (q : List ℕ → Bool) (a : ℕ) → spot_from q a [] ≡ record { at = a; size = 0 }
unfolding spot_from
spot-none q a = refl

-- THE LIST AROUND IT

pub data Parted (q : List ℕ → Bool) (a : ℕ) (rs : List (List ℕ)) : Type 0 where
  unheld : NonePass q rs → spot_from q a rs ≡ record { at = a + length (joined rs); size = 0 } → first_of q rs ≡ [] → without_first q rs ≡ rs → Parted q a rs
  held_at : (b : List (List ℕ)) (r : List ℕ) (t : List (List ℕ)) → rs ≡ b ++ (r ∷ t) → q r ≡ true
      → spot_from q a rs ≡ record { at = a + length (joined b); size = length r } → first_of q rs ≡ r → without_first q rs ≡ b ++ t → Parted q a rs

pub parted : (q : List ℕ → Bool) (a : ℕ) (rs : List (List ℕ)) → Parted q a rs
unfolding joined without_first first_of
parted q a [] = unheld nil (spot-none q a ∙ ap (λ k. record { at = k; size = 0 }) (sym (add-zero a))) refl refl
parted q a (r ∷ rs) = bool_cases (q r)
    (λ e. held_at [] r rs refl e (spot-hit q r rs a e ∙ ap (λ k. record { at = k; size = length r }) (sym (add-zero a))) (first-hit q r rs e) (without-hit q r rs e))
    (λ e. behind e (parted q (a + length r) rs))
  where
    behind : q r ≡ false → Parted q (a + length r) rs → Parted q a (r ∷ rs)
    behind e (unheld miss spot first rest) = unheld (con e miss)
        (spot-next q r rs a e ∙ spot ∙ ap (λ k. record { at = k; size = 0 }) (let l : a + length r + length (joined rs) ≡ a + length (joined (r ∷ rs)) = omega (arith, length-joined r rs) in l))
        (first_next q r rs e ∙ first) (without-next q r rs e ∙ ap (λ l. r ∷ l) rest)
    behind e (held_at b x t parts hit spot first rest) = held_at (r ∷ b) x t (ap (λ l. r ∷ l) parts) hit
        (spot-next q r rs a e ∙ spot ∙ ap (λ k. record { at = k; size = length x }) (let l : a + length r + length (joined b) ≡ a + length (joined (r ∷ b)) = omega (arith, length-joined r b) in l))
        (first_next q r rs e ∙ first) (without-next q r rs e ∙ ap (λ l. r ∷ l) rest)

pub spot-size : (q : List ℕ → Bool) (a : ℕ) (rs : List (List ℕ)) → (spot_from q a rs).size ≡ length (first_of q rs)
spot-size q a rs = size (parted q a rs)
  where
    size : Parted q a rs → (spot_from q a rs).size ≡ length (first_of q rs)
    size (unheld miss spot first rest) = rw (spot, first)
    size (held_at b r t parts hit spot first rest) = rw (spot, first)

-- WITHOUT IT

pub lengths : (q : List ℕ → Bool) (a : ℕ) (rs : List (List ℕ)) → length (joined (without_first q rs)) + (spot_from q a rs).size ≡ length (joined rs)
lengths q a rs = sizes (parted q a rs)
  where
    sizes : Parted q a rs → length (joined (without_first q rs)) + (spot_from q a rs).size ≡ length (joined rs)
    sizes (unheld miss spot first rest) = rw (spot, rest) (add-zero (length (joined rs)))
    sizes (held_at b r t parts hit spot first rest) = rw (spot, rest, parts, joined-append b t, joined-append b (r ∷ t))
        (omega (arith, length-append (joined b) (joined t), length-append (joined b) (joined (r ∷ t)), length-joined r t))

pub without-keeps : {P : List ℕ → Type 0} (q : List ℕ → Bool) {rs : List (List ℕ)} → All P rs → All P (without_first q rs)
unfolding without_first
without-keeps q nil = nil
without-keeps q (con {x} {xs} h t) = bool_cases (q x) (λ e. rw e t) (λ e. rw e (con h (without-keeps q t)))

-- IN THE STORE

-- bytes that begin with the records
module _ (q : List ℕ → Bool) (rs : List (List ℕ)) (z : List ℕ) where
  spot-within : (spot_from q 0 rs).at + (spot_from q 0 rs).size ≤ length (joined rs ++ z)
  spot-within = within (parted q 0 rs)
    where
      within : Parted q 0 rs → (spot_from q 0 rs).at + (spot_from q 0 rs).size ≤ length (joined rs ++ z)
      within (unheld miss spot first rest) = rw spot (omega (arith, length-append (joined rs) z))
      within (held_at b r t parts hit spot first rest) = rw (spot, parts, joined-append b (r ∷ t))
          (omega (arith, length-append (joined b ++ joined (r ∷ t)) z, length-append (joined b) (joined (r ∷ t)), length-joined r t))

  part-there : take (spot_from q 0 rs).size (drop (spot_from q 0 rs).at (joined rs ++ z)) ≡ first_of q rs
  unfolding joined
  part-there = there (parted q 0 rs)
    where
      there : Parted q 0 rs → take (spot_from q 0 rs).size (drop (spot_from q 0 rs).at (joined rs ++ z)) ≡ first_of q rs
      there (unheld miss spot first rest) = rw (spot, first)
      there (held_at b r t parts hit spot first rest) = rw (spot, first, parts, joined-append b (r ∷ t), append_assoc (joined b) (r ++ joined t) z)
          (ap (take (length r)) (drop_at (joined b) (r ++ joined t ++ z) (0 + length (joined b)) (omega arith) ∙ append_assoc r (joined t) z)
          ∙ take_at r (joined t ++ z) (length r) refl)

module _ (q : List ℕ → Bool) (s : List ℕ) where
  pub spot-fits : (spot_from q 0 (records_in s)).at + (spot_from q 0 (records_in s)).size ≤ length s
  spot-fits = subst (λ t. (spot_from q 0 (records_in s)).at + (spot_from q 0 (records_in s)).size ≤ length t) (front-is s)
      (spot-within q (records_in s) (drop (length (joined (records_in s))) s))

  -- the part at the spot is the record
  pub spot-part : take (spot_from q 0 (records_in s)).size (drop (spot_from q 0 (records_in s)).at s) ≡ first_of q (records_in s)
  spot-part = subst (λ t. take (spot_from q 0 (records_in s)).size (drop (spot_from q 0 (records_in s)).at t) ≡ first_of q (records_in s)) (front-is s)
      (part-there q (records_in s) (drop (length (joined (records_in s))) s))

-- the record leaves, what is behind it closes up, and zeros come after
closed-up : (b t : List ℕ) (k m : ℕ) → b ++ ((t ++ replicate k 0) ++ replicate m 0) ≡ (b ++ t) ++ replicate (k + m) 0
closed-up b t k m = ap (λ x. b ++ x) (append_assoc t (replicate k 0) (replicate m 0) ∙ ap (λ x. t ++ x) (replicate-append-replicate k m 0))
    ∙ sym (append_assoc b t (replicate (k + m) 0))

record-out : (b r t z : List ℕ) (a : ℕ) → a ≡ length b → (s : List ℕ) → s ≡ (b ++ (r ++ t)) ++ z
    → take a s ++ (drop (length r) (drop a s) ++ replicate (length r) 0) ≡ b ++ ((t ++ z) ++ replicate (length r) 0)
record-out b r t z a e s q = rw (
  q ∙ append_assoc b (r ++ t) z ∙ ap (λ x. b ++ x) (append_assoc r t z),
  take_at b (r ++ (t ++ z)) a (sym e),
  drop_at b (r ++ (t ++ z)) a (sym e),
  drop_at r (t ++ z) (length r) refl,
)

pub record-leaves : (q : List ℕ → Bool) (n : ℕ) (rs : List (List ℕ)) → length (joined rs) ≤ n
    → take (spot_from q 0 rs).at (stored n rs) ++ (drop (spot_from q 0 rs).size (drop (spot_from q 0 rs).at (stored n rs)) ++ replicate (spot_from q 0 rs).size 0)
    ≡ stored n (without_first q rs)
unfolding joined
record-leaves q n rs l = left (parted q 0 rs)
  where
    left : Parted q 0 rs
        → take (spot_from q 0 rs).at (stored n rs) ++ (drop (spot_from q 0 rs).size (drop (spot_from q 0 rs).at (stored n rs)) ++ replicate (spot_from q 0 rs).size 0)
        ≡ stored n (without_first q rs)
    left (unheld miss spot first rest) = rw (spot, rest)
        (ap (λ t. take (0 + length (joined rs)) (stored n rs) ++ t) (append-nil (drop (0 + length (joined rs)) (stored n rs))) ∙ take-append-drop (0 + length (joined rs)) (stored n rs))
    left (held_at b r t parts hit spot first rest) =
        let k = n - length (joined rs) in
        let all : joined rs ≡ joined b ++ (r ++ joined t) = ap joined parts ∙ joined-append b (r ∷ t) in
        let many : k + length r ≡ n - length (joined b ++ joined t) = omega (
          arith,
          ap length all,
          length-append (joined b) (joined t),
          length-append (joined b) (r ++ joined t),
          length-append r (joined t),
        ) in
        rw (spot, rest, joined-append b t, ← many)
        (record-out (joined b) r (joined t) (replicate k 0) (0 + length (joined b)) (omega arith) (stored n rs) (ap (λ x. x ++ replicate k 0) all)
        ∙ closed-up (joined b) (joined t) k (length r))

-- a record behind the last
store-behind : (j r : List ℕ) (k m : ℕ) → k ≡ length r + m → sets (j ++ replicate k 0) (length j) r ≡ (j ++ r) ++ replicate m 0
store-behind j r k m e = rw e (sets-eq r (j ++ zeros) (length j) (omega (arith, length-append j zeros, length-replicate {A = ℕ} (length r + m) 0))
    ∙ ap₂ (λ (a b : List ℕ). a ++ r ++ b) (take_at j zeros (length j) refl) behind)
  where
    zeros : List ℕ
    zeros = replicate (length r + m) 0

    behind : drop (length j + length r) (j ++ zeros) ≡ replicate m 0
    behind = drop-append-add j zeros (length r) ∙ ap (drop (length r)) (sym (replicate-append-replicate (length r) m 0))
        ∙ drop_at (replicate (length r) 0) (replicate m 0) (length r) (length-replicate (length r) 0)

pub comes : (n : ℕ) (rs : List (List ℕ)) (r : List ℕ) → length (joined rs) + length r ≤ n
    → sets (stored n rs) (length (joined rs)) r ≡ stored n (rs ++ (r ∷ []))
unfolding joined
comes n rs r l = rw (joined-append rs (r ∷ []), append-nil r)
    (store-behind (joined rs) r (n - length (joined rs)) (n - length (joined rs ++ r)) (omega (arith, length-append (joined rs) r)))
