-- Finding by its outcomes: `find-76`, `find-77`, `find_none`, `find-done`; the part that is shown lies in the store (`cut_inside`); found, it is the record of the name
-- (`cut-shown`), which fits (`cut_fits`).
use Prim.Native.Nat.{ℕ, ◌+◌, ◌-◌, ◌≤◌}
use native.Mathlib.Omega.{arith}
use mathlib.Core.Path.{◌≡◌, refl, sym, ap, ◌∙◌}
use mathlib.Core.Logic.{◌≢◌}
use mathlib.Core.Bool.{Bool, true, false, cond, not, ◌&&◌, and-eq-true_iff}
use mathlib.Core.List.{List}
use lib.ListN.{length, take, drop}
use borrow.Author.Tests.{ne_eqb, not-false}
use Rattle.base.proofs.laws.Cond.{eqb-cases}
use Rattle.base.proofs.laws.Refuse.{or_else-zero}
use Rattle.store.specs.declared.FoundPoint.{FoundPoint}
use Rattle.store.specs.declared.Spot.{Spot}
use Rattle.store.specs.Names.{name_fits, is_named, spot_of, holds, shown_part}
use Rattle.store.specs.Reading.{record_fits}
use Rattle.store.specs.Calls.{store_fits, find_refusal, find_point, part_at}
use Rattle.store.proofs.laws.Outcomes.{find-refusal}
use Rattle.store_records.specs.Spots.{spot-fits}
use Rattle.store_records.specs.Fit.{held_fits}

module _ (name s : List ℕ) where
  -- refused by n
  missing : (n : ℕ) → n ≢ 0 → find_refusal name s ≡ n → record { refusal = n; at = 0; size = 0 } ≡ find_point name s
  unfolding find_point
  missing n d q = sym (rw (q, ne_eqb n 0 d) refl)

  pub find-76 : store_fits s ≡ false → record { refusal = 76; at = 0; size = 0 } ≡ find_point name s
  unfolding find_refusal
  find-76 f = missing 76 (λ z. omega arith) (rw f)

  module _ (f : store_fits s ≡ true) where
    pub find-77 : name_fits name ≡ false → record { refusal = 77; at = 0; size = 0 } ≡ find_point name s
    unfolding find_refusal
    find-77 g = missing 77 (λ z. omega arith) (rw (f, g))

    module _ (g : name_fits name ≡ true) where
      pub find_none : holds name s ≡ false → record { refusal = 77; at = 0; size = 0 } ≡ find_point name s
      unfolding find_refusal
      find_none h = missing 77 (λ y. omega arith) (rw (f, g, h))

      pub find-done : (p : Spot) → (holds name s ≡ true) × (p ≡ spot_of name s) → record { refusal = 0; at = p.at; size = p.size } ≡ find_point name s
      unfolding find_refusal find_point
      find-done p h = rw h.1 (sym (rw (f, g, h.0) refl))

  find-inside : (find_point name s).at + (find_point name s).size ≤ length s
  unfolding find_point
  find-inside = eqb-cases (find_refusal name s) 0 (λ b. (outcome b).at + (outcome b).size ≤ length s) (λ e. spot-fits (is_named name) s) (λ n. omega arith)
    where
      outcome : Bool → FoundPoint
      outcome b = cond b (record { refusal = 0; at = (spot_of name s).at; size = (spot_of name s).size }) (record { refusal = find_refusal name s; at = 0; size = 0 })

  -- FOUND

  module _ (z : (find_point name s).refusal ≡ 0) where
    not-refused : find_refusal name s ≡ 0
    not-refused = sym (find-refusal name s) ∙ z

    pub part-shown : part_at (find_point name s) s ≡ shown_part name s
    unfolding find_point
    part-shown = rw not-refused refl

    pub part-fits : record_fits (shown_part name s) ≡ true
    unfolding find_refusal
    part-fits =
        let a = or_else-zero (not (store_fits s)) 75 not-refused in
        let b = or_else-zero (not (name_fits name && holds name s)) 76 a.1 in
        (held_fits s (not-false _ a.0) name ((and-eq-true_iff (name_fits name) (holds name s)).0 (not-false _ b.0)).1).1

-- as code cuts it
module _ (name s : List ℕ) (f : FoundPoint) (e : f ≡ find_point name s) where
  abbrev part : List ℕ
  part = take (f.at + f.size - f.at) (drop f.at s)

  pub cut_inside : f.at + f.size ≤ length s
  cut_inside = rw e (find-inside name s)

  pub cut_at : part ≡ part_at (find_point name s) s
  cut_at = ap (λ k. take k (drop f.at s)) (let n : f.at + f.size - f.at ≡ f.size = omega arith in n) ∙ ap (λ (x : FoundPoint). part_at x s) e

  module _ (z : f.refusal ≡ 0) where
    found : (find_point name s).refusal ≡ 0
    found = sym (ap (λ (x : FoundPoint). x.refusal) e) ∙ z

    pub cut-shown : part ≡ shown_part name s
    cut-shown = cut_at ∙ part-shown name s found

    pub cut_fits : record_fits part ≡ true
    cut_fits = ap record_fits cut-shown ∙ part-fits name s found
