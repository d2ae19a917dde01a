-- The walk over a store by its turns (`fit-ends`, `fit-stops`, `fit_on`), and a record before the rest (`before-bad`, `before-good`).
use Prim.Native.Nat.{ℕ, ◌+◌}
use mathlib.Core.Path.{◌≡◌, refl, sym, ap, ◌∙◌}
use mathlib.Core.Bool.{Bool, true, false, not, ◌&&◌}
use mathlib.Core.List.{List, [], ◌∷◌}
use lib.ListN.{length, drop}
use lib.Seq.{drop-append-add}
use lib.Dec.{eqb}
use Rattle.field.specs.Valid.{all_of}
use Rattle.store.specs.Records.{records_in, joined}
use Rattle.store.specs.Names.{name_in, holds}
use Rattle.store.specs.Reading.{record_fits}
use Rattle.store.specs.Calls.{records_fit, store_fits}
use Rattle.store_records.specs.Walk.{SplitsOff, length-joined}
use Rattle.base.proofs.laws.Cond.{bool_cases}
use Rattle.store.specs.declared.Spot.{Spot}
use Rattle.store.specs.Names.{spot_of}

and_both : (a b c d : Bool) → ((a && b && c) && d) ≡ (a && b && (c && d))
and_both true true c d = refl
and_both true false c d = refl
and_both false b c d = refl

-- s is left of a store t, and fits exactly if t does
module _ (t s : List ℕ) (e : store_fits t ≡ store_fits s) where
  -- a store of these records
  abbrev by : List (List ℕ) → Bool
  by rs = records_fit rs && all_of (λ x. eqb x 0) (drop (length (joined rs)) s)

  start : store_fits t ≡ by (records_in s)
  unfolding store_fits
  start = e

  pub fit-ends : records_in s ≡ [] → all_of (λ x. eqb x 0) s ≡ store_fits t
  unfolding records_fit joined
  fit-ends z = sym (start ∙ ap by z)

  module _ {r rest : List ℕ} (h : SplitsOff s r rest) where
    behind : drop (length (joined (r ∷ records_in rest))) s ≡ drop (length (joined (records_in rest))) rest
    behind =
        let j = length (joined (records_in rest)) in
        let l : length (joined (r ∷ records_in rest)) ≡ length r + j = length-joined r (records_in rest) in
        ap (λ k. drop k s) l ∙ ap (drop (length r + j)) h.parts ∙ drop-append-add r rest j

    turn : store_fits t ≡ ((record_fits r && not (holds (name_in r) rest)) && store_fits rest)
    unfolding records_fit store_fits
    turn =
        start ∙ ap by h.records
        ∙ ap (λ u. records_fit (r ∷ records_in rest) && all_of (λ x. eqb x 0) u) behind
        ∙ and_both (record_fits r) (not (holds (name_in r) rest)) (records_fit (records_in rest)) (all_of (λ x. eqb x 0) (drop (length (joined (records_in rest))) rest))

    pub fit-stops : (record_fits r && not (holds (name_in r) rest)) ≡ false → false ≡ store_fits t
    fit-stops f = sym (turn ∙ ap (λ x. x && store_fits rest) f)

    pub fit_on : (record_fits r && not (holds (name_in r) rest)) ≡ true → store_fits t ≡ store_fits rest
    fit_on f = turn ∙ ap (λ x. x && store_fits rest) f

-- a record before the rest
module _ (r rest : List ℕ) where
  pub before-bad : record_fits r ≡ false → false ≡ (record_fits r && not (holds (name_in r) rest))
  before-bad e = rw e

  pub before-good : record_fits r ≡ true → (p : Spot) → p ≡ spot_of (name_in r) rest → eqb p.size 0 ≡ (record_fits r && not (holds (name_in r) rest))
  before-good e p q = rw (e, q) (bool_cases (eqb (spot_of (name_in r) rest).size 0) (λ t. rw t) (λ t. rw t))
