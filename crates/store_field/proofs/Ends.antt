-- One more link and one more module (`ends_next`, `below_next`), which stay within all (`ends-within`, `below-within`); the marks' places are the ends (`places-ends`).
use Prim.Native.Nat.{ℕ, zero, suc, ◌+◌, ◌≤◌, ◌<◌}
use native.Mathlib.Nat.{not-suc-le-zero}
use native.Mathlib.Numerals.{add-one}
use native.Mathlib.Omega.{arith}
use mathlib.Core.Path.{◌≡◌, refl, ap}
use mathlib.Core.Bool.{Bool, true, false, cond}
use mathlib.Core.List.{[], ◌∷◌, ◌++◌, map, map-append}
use lib.ListN.{length, length-append}
use Rattle.base.proofs.laws.Cond.{by-eq}
use Rattle.plan.specs.Links.{Plan}
use Rattle.field.specs.Edges.{is_own, end_of}
use Rattle.store.specs.Layout.{mark_place, mark_places, module_places, places_below}
use Rattle.store_field.specs.Ends.{own_end, own_ends}

module _ (p : Plan) where
  pub ends_next : (v k : ℕ) → own_ends p v (k + 1) ≡ own_ends p v k ++ own_end p v k
  unfolding own_ends
  ends_next v k = rw (add-one k) refl

  pub below_next : (v : ℕ) → places_below p (v + 1) ≡ places_below p v ++ module_places p v
  unfolding places_below
  below_next v = rw (add-one v) refl

  -- with link k, no more than those of all
  pub ends-within : (v k n : ℕ) → k < n → length (own_ends p v k) + length (own_end p v k) ≤ length (own_ends p v n)
  unfolding own_ends
  ends-within v k zero l = absurd (not-suc-le-zero l)
  ends-within v k (suc n) l =
      let e = length-append (own_ends p v n) (own_end p v n) in
      by-eq k n
      (λ q. rw q (omega (arith, e)))
      (λ d. omega (arith, e, ends-within v k n (omega arith)))

  pub below-within : (v n : ℕ) → v < n → length (places_below p v) + length (module_places p v) ≤ length (places_below p n)
  unfolding places_below
  below-within v zero l = absurd (not-suc-le-zero l)
  below-within v (suc n) l =
      let e = length-append (places_below p n) (module_places p n) in
      by-eq v n
      (λ q. rw q (omega (arith, e)))
      (λ d. omega (arith, e, below-within v n (omega arith)))

  pub places-ends : (v k : ℕ) → mark_places p v k ≡ map mark_place (own_ends p v k)
  unfolding mark_places own_ends
  places-ends v zero = refl
  places-ends v (suc k) = rw (places-ends v k, map-append mark_place (own_ends p v k) (own_end p v k)) (ap (λ l. map mark_place (own_ends p v k) ++ l) (placed (is_own p v k)))
    where
      placed : (b : Bool) → cond b (mark_place (end_of p v k) ∷ []) [] ≡ map mark_place (cond b (end_of p v k ∷ []) [])
      placed true = refl
      placed false = refl

  module _ (v k : ℕ) where
    pub own-none : is_own p v k ≡ false → own_end p v k ≡ []
    own-none e = rw e

    pub own-one : (d : ℕ) → is_own p v k ≡ true → d ≡ end_of p v k → own_end p v k ≡ d ∷ []
    own-one d e h = rw (e, h)
