-- The walks over a store by their turns: how many bytes the records take (`used-ends`, `used-on`), where a record stands (`seek-ends`, `seek_hit`,
-- `seek-on`); and the record there leaves (`leave-is`), or none does (`leave-none`).
use Rattle.std.specs.Prelude.{ℕ, ◌+◌, ◌-◌, ◌≤◌, ◌≡◌, Bool, true, false, not, List, [], ◌∷◌, ◌++◌, length, take, drop, replicate, eqb}
use Rattle.std.proofs.Common.{arith, refl, sym, ap, ◌∙◌, add-zero, ne_eqb, append-nil, take-append-drop, length-append, length-drop}
use Rattle.store.specs.declared.Spot.{Spot}
use Rattle.store.specs.Records.{records_in, joined, stored}
use Rattle.store.specs.Names.{spot_from, without_first}
use Rattle.store_records.specs.Walk.{SplitsOff, length-joined, used-fits}
use Rattle.store_records.specs.Spots.{spot-hit, spot-next, spot-none, spot-fits, record-leaves}
use Rattle.store_records.proofs.Bytes.{tail_all, tail-back}

pub splits-length : {s r rest : List ℕ} → SplitsOff s r rest → length s ≡ length r + length rest
splits-length {s} {r} {rest} h = ap length h.parts ∙ length-append r rest

-- t is left of a store of these records, behind a bytes
module _ (rs : List (List ℕ)) (a : ℕ) (t : List ℕ) where
  module _ (e : length (joined rs) ≡ a + length (joined (records_in t))) where
    pub used-ends : records_in t ≡ [] → a ≡ length (joined rs)
    unfolding joined
    used-ends z = sym (e ∙ ap (λ xs. a + length (joined xs)) z ∙ add-zero a)

    pub used-on : {r u : List ℕ} → SplitsOff t r u → length (joined rs) ≡ a + length r + length (joined (records_in u))
    used-on {r} {u} h =
        let l : a + length (joined (r ∷ records_in u)) ≡ a + length r + length (joined (records_in u)) = omega (arith, length-joined r (records_in u)) in
        e ∙ ap (λ xs. a + length (joined xs)) h.records ∙ l

  module _ (q : List ℕ → Bool) (e : spot_from q 0 rs ≡ spot_from q a (records_in t)) where
    pub seek-ends : records_in t ≡ [] → (not (eqb (spot_from q 0 rs).size 0) ≡ false) × ◌≡◌ {A = Spot} (record { at = a; size = 0 }) (spot_from q 0 rs)
    seek-ends z =
        let none = e ∙ ap (spot_from q a) z ∙ spot-none q a in
        (rw none refl, sym none)

    module _ {r u : List ℕ} (h : SplitsOff t r u) where
      seek-next : spot_from q 0 rs ≡ spot_from q a (r ∷ records_in u)
      seek-next = e ∙ ap (spot_from q a) h.records

      pub seek_hit : q r ≡ true → (not (eqb (spot_from q 0 rs).size 0) ≡ true) × ◌≡◌ {A = Spot} (record { at = a; size = length r }) (spot_from q 0 rs)
      seek_hit y =
          let here = seek-next ∙ spot-hit q r (records_in u) a y in
          (rw (here, ne_eqb (length r) 0 (λ z. omega (arith, h.some))) refl, sym here)

      pub seek-on : q r ≡ false → spot_from q 0 rs ≡ spot_from q (a + length r) (records_in u)
      seek-on n = seek-next ∙ spot-next q r (records_in u) a n

-- THE RECORD LEAVES: the part from it on closes up and is put back

module _ (s : List ℕ) (q : List ℕ → Bool) (p : Spot) (e : p ≡ spot_from q 0 (records_in s)) where
  pub spot-inside : p.at + p.size ≤ length s
  spot-inside = rw e (spot-fits q s)

  pub part_room : p.size ≤ length (take (length s - p.at) (drop p.at s))
  part_room = omega (arith, spot-inside, length-drop p.at s, ap length (tail_all s p.at))

  abbrev left : Spot → List ℕ → List ℕ
  left r t = take r.at t ++ (drop r.size (drop r.at t) ++ replicate r.size 0)

  leaves : s ≡ stored (length s) (records_in s) → left p s ≡ stored (length s) (without_first q (records_in s))
  leaves h = ap (left p) h ∙ ap (λ r. left r (stored (length s) (records_in s))) e ∙ record-leaves q (length s) (records_in s) (used-fits s)

  pub leave-is : s ≡ stored (length s) (records_in s) → (y : List ℕ) → y ≡ drop p.size (take (length s - p.at) (drop p.at s)) ++ replicate p.size 0
      → take p.at s ++ (y ++ drop (length s - p.at) (drop p.at s)) ≡ stored (length s) (without_first q (records_in s))
  leave-is h y c =
      tail-back s y p.at ∙ ap (λ t. take p.at s ++ t) (c ∙ ap (λ t. drop p.size t ++ replicate p.size 0) (tail_all s p.at)) ∙ leaves h

  pub leave-none : p.size ≡ 0 → s ≡ stored (length s) (records_in s) → s ≡ stored (length s) (without_first q (records_in s))
  leave-none z h =
      sym (ap (λ n. take p.at s ++ (drop n (drop p.at s) ++ replicate n 0)) z ∙ ap (λ t. take p.at s ++ t) (append-nil (drop p.at s)) ∙ take-append-drop p.at s)
      ∙ leaves h
