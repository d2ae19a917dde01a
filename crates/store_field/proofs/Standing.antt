-- Where a place stands among all places of an accepted plan (`cell-stands`, `mark-stands`), and that the number read for it is that of its position (`stands-poured`).
use Prim.Native.Nat.{ℕ, zero, suc, ◌+◌, ◌*◌, ◌/◌, ◌%◌, ◌≤◌, ◌<◌}
use native.Mathlib.Nat.{add-zero, zero-add, suc-add}
use native.Mathlib.Omega.{arith}
use mathlib.Core.Path.{◌≡◌, refl, sym, ap, ap₂, subst, ◌∙◌}
use mathlib.Core.Bool.{Bool, true, false, cond}
use mathlib.Core.List.{List, [], ◌∷◌, ◌++◌}
use lib.ListN.{length, get_or, set, length-set, length-append}
use lib.Seq.{get_or-set_same}
use lib.Dec.{eqb}
use borrow.Author.Tests.{eq-eqb, ne_eqb}
use Rattle.base.specs.Cond.{bit}
use Rattle.base.proofs.laws.Cond.{by-eq}
use Rattle.base.specs.Table.{tabulate}
use Rattle.base.proofs.laws.Table.{length-tabulate}
use Rattle.base.specs.Twice.{NoTwice, nobody, another}
use Rattle.plan.specs.Links.{Plan, modules_of, links_of, lower_of, higher_of}
use Rattle.plan.proofs.laws.Accepted.{Accepted}
use Rattle.field.specs.Edges.{is_own, end_of, link_of, from}
use Rattle.field.specs.State.{WIDTH, cell_of}
use Rattle.field_laws.proofs.Places.{from-own, over-from, from-below}
use Rattle.store.specs.Layout.{mark_place, value_places, mark_places, module_places, places_below, places}
use Rattle.store.specs.Reading.{poured}
use Rattle.store_laws.proofs.Places.{link-bits}
use Rattle.store_laws.proofs.Pour.{poured-keeps}
use Rattle.store_field.specs.Ends.{ends_below}

-- i is the one behind j others
pub data Standing (i : ℕ) : ℕ → List ℕ → Type 0 where
  front : {l : List ℕ} → Standing i zero (i ∷ l)
  behind : {x j : ℕ} {l : List ℕ} → Standing i j l → Standing i (suc j) (x ∷ l)

stands-left : {i j : ℕ} {a : List ℕ} (b : List ℕ) → Standing i j a → Standing i j (a ++ b)
stands-left b front = front
stands-left b (behind m) = behind (stands-left b m)

stands-right : {i j : ℕ} (a : List ℕ) {b : List ℕ} → Standing i j b → Standing i (length a + j) (a ++ b)
stands-right {i} {j} [] {b} m = subst (λ n. Standing i n b) (sym (zero-add j)) m
stands-right {i} {j} (x ∷ a) {b} m = subst (λ n. Standing i n (x ∷ (a ++ b))) (sym (suc-add (length a) j)) (behind (stands-right a m))

stands-tabulate : (n : ℕ) (f : ℕ → ℕ) (j : ℕ) → j < n → Standing (f j) j (tabulate n f)
unfolding tabulate
stands-tabulate zero f j l = absurd (omega arith)
stands-tabulate (suc n) f zero l = front
stands-tabulate (suc n) f (suc j) l = behind (stands-tabulate n (λ k. f (suc k)) j (omega arith))

pub stands-below : {i j : ℕ} {l : List ℕ} → Standing i j l → j < length l
stands-below front = omega arith
stands-below (behind m) = omega (arith, stands-below m)

-- no place twice: what is put at a place stays
pub stands-poured : (f : ℕ → ℕ) (q : ℕ) {i j : ℕ} {is : List ℕ} → NoTwice is → Standing i j is → (e : List ℕ) → i < length e → get_or (poured f q is e) i 0 ≡ f (q + j)
unfolding poured
stands-poured f q nobody x5 e b = elim x5 [ ]
stands-poured f q (another {x} n t) front e b = poured-keeps f x (suc q) n (set e x (f q)) ∙ get_or-set_same e x (f q) 0 b ∙ ap f (sym (add-zero q))
stands-poured f q (another {x} n t) (behind {j = j} m) e b =
    stands-poured f (suc q) t m (set e x (f q)) (omega (arith, length-set e x (f q))) ∙ ap f (let w : suc q + j ≡ q + suc j = omega arith in w)

module _ (p : Plan) where
  module-stands : (v n i j : ℕ) → v < n → Standing i j (module_places p v) → Standing i (length (places_below p v) + j) (places_below p n)
  unfolding places_below
  module-stands v zero i j l m = absurd (omega arith)
  module-stands v (suc n) i j l m = by-eq v n
      (λ e. subst (λ u. Standing i (length (places_below p v) + j) (places_below p u ++ module_places p u)) e (stands-right (places_below p v) m))
      (λ d. stands-left (module_places p n) (module-stands v n i j (omega arith) m))

  pub cell-stands : (v j : ℕ) → v < modules_of p → j < WIDTH → Standing (cell_of v j) (length (places_below p v) + j) (places p)
  cell-stands v j l m = module-stands v (modules_of p) (cell_of v j) j l (stands-left (mark_places p v (links_of p)) (stands-tabulate WIDTH (cell_of v) j m))

  own-stands : (v k n : ℕ) → is_own p v k ≡ true → k < n → Standing (mark_place (end_of p v k)) (length (mark_places p v k)) (mark_places p v n)
  unfolding mark_places
  own-stands v k zero o l = absurd (omega arith)
  own-stands v k (suc n) o l = by-eq k n
      (λ e. subst (λ u. Standing (mark_place (end_of p v k)) (length (mark_places p v k)) (mark_places p v u ++ cond (is_own p v u) (mark_place (end_of p v u) ∷ []) [])) e last)
      (λ d. stands-left (cond (is_own p v n) (mark_place (end_of p v n) ∷ []) []) (own-stands v k n o (omega arith)))
    where
      last : Standing (mark_place (end_of p v k)) (length (mark_places p v k)) (mark_places p v k ++ cond (is_own p v k) (mark_place (end_of p v k) ∷ []) [])
      last = subst (λ n. Standing (mark_place (end_of p v k)) n (mark_places p v k ++ cond (is_own p v k) (mark_place (end_of p v k) ∷ []) [])) (add-zero (length (mark_places p v k)))
          (stands-right (mark_places p v k) (rw o front))

  -- the ends in their order: of link k the lower one, then the higher one
  even-end : (k d : ℕ) → d ≡ 2 * k → from p d ≡ lower_of p k
  even-end k d e = rw (eq-eqb (d % 2) 0 (omega arith)) (ap (lower_of p) (omega arith))

  odd-end : (k d : ℕ) → d ≡ suc (2 * k) → from p d ≡ higher_of p k
  odd-end k d e = rw (ne_eqb (d % 2) 0 (λ q. omega arith)) (ap (higher_of p) (omega arith))

  pub ends_on : (v d : ℕ) → ends_below p v (suc d) ≡ ends_below p v d + bit (eqb (from p d) v)
  unfolding ends_below
  ends_on v d = refl

  one-mark : (b : Bool) (i : ℕ) → length (cond b (i ∷ []) []) ≡ bit b
  one-mark true i = refl
  one-mark false i = refl

  module _ (a : Accepted p) where
    pub marks-ends : (v k : ℕ) → k ≤ links_of p → length (mark_places p v k) ≡ ends_below p v (2 * k)
    unfolding mark_places ends_below
    marks-ends v zero l = refl
    marks-ends v (suc k) l =
        omega (
          arith,
          length-append (mark_places p v k) (cond (is_own p v k) (mark_place (end_of p v k) ∷ []) []),
          one-mark (is_own p v k) (mark_place (end_of p v k)),
          marks-ends v k (omega arith),
          link-bits p a k l v,
          ap (ends_below p v) (let e : 2 * suc k ≡ suc (suc (2 * k)) = omega arith in e),
          ends_on v (suc (2 * k)),
          ends_on v (2 * k),
          ap (λ u. bit (eqb u v)) (even-end k (2 * k) refl),
          ap (λ u. bit (eqb u v)) (odd-end k (suc (2 * k)) refl),
        )

    module _ (d : ℕ) (l : d < 2 * links_of p) where
      before-mark : length (mark_places p (from p d) (link_of d)) ≡ ends_below p (from p d) d
      before-mark = by-eq (d % 2) 0
          (λ z. marks-ends (from p d) (link_of d) (omega arith) ∙ ap (ends_below p (from p d)) (let e : 2 * (d / 2) ≡ d = omega arith in e))
          (λ n. let k = link_of d in
          let e : d ≡ suc (2 * k) = omega (arith, n) in
          let u = from p d in
          omega (
            arith,
            marks-ends u k (omega arith),
            ap (ends_below p u) e,
            ends_on u (2 * k),
            ap bit (ne_eqb (from p (2 * k)) u (λ q. omega (arith, even-end k (2 * k) refl, odd-end k d e, (a.each k (omega arith)).ordered))),
          ))

      pub mark-stands : Standing (mark_place d) (length (places_below p (from p d)) + (WIDTH + ends_below p (from p d) d)) (places p)
      mark-stands =
          let v = from p d in
          module-stands v (modules_of p) (mark_place d) (WIDTH + ends_below p v d) (from-below p a d l)
          (subst (λ n. Standing (mark_place d) n (module_places p v)) (ap₂ (λ (m n : ℕ). m + n) (length-tabulate WIDTH (cell_of v)) before-mark)
          (stands-right (value_places v)
          (subst (λ x. Standing (mark_place x) (length (mark_places p v (link_of d))) (mark_places p v (links_of p))) (over-from p a d l)
          (own-stands v (link_of d) (links_of p) (from-own p a d l) (omega arith)))))
