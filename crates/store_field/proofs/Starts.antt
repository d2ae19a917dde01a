-- The array of counts and starts: one end more (`starts-on`), one module more (`starts-next`), and what it then holds (`cell-reached`, `mark-reached`), which is a number of the
-- field (`cell-inside`, `mark-inside`).
use Prim.Native.Nat.{ℕ, zero, suc, ◌+◌, ◌*◌, ◌/◌, ◌%◌, ◌≤◌, ◌<◌}
use native.Mathlib.Numerals.{add-one}
use native.Mathlib.Omega.{arith}
use mathlib.Core.Path.{◌≡◌, refl, sym, ap, subst, ◌∙◌}
use mathlib.Core.List.{List}
use lib.ListN.{length, get_or, set, replicate, length-set, length-append, length-replicate, get_or-replicate}
use lib.Seq.{get_or-set_same, get_or-set_other}
use lib.Dec.{eqb}
use borrow.Author.Tests.{eq-eqb, ne_eqb}
use Rattle.base.specs.Cond.{bit}
use Rattle.base.proofs.laws.Cond.{bit_le, by-eq}
use Rattle.base.specs.Limits.{max_modules}
use Rattle.base.specs.Table.{tabulate, upto}
use Rattle.base.proofs.laws.Table.{length-tabulate, get_d_tabulate, tabulated, upto-in}
use Rattle.plan.specs.Links.{Plan, modules_of, links_of}
use Rattle.plan.proofs.laws.Accepted.{Accepted}
use Rattle.field.specs.Edges.{from}
use Rattle.field.specs.State.{WIDTH, cell_of}
use Rattle.field_laws.proofs.Places.{from-below}
use Rattle.store.specs.Layout.{value_places, mark_places, module_places, places_below, field_numbers}
use Rattle.store_laws.proofs.Places.{places-length}
use Rattle.store_field.specs.Ends.{ends_below, values_from, cell_number, mark_number, laid_starts, entry}
use Rattle.store_field.proofs.Ends.{below_next, below-within}
use Rattle.store_field.proofs.Standing.{stands-below, cell-stands, mark-stands, marks-ends, ends_on}

-- module w goes on by one
module _ (w : ℕ) (f g : ℕ → ℕ) (t : List ℕ) (l : w < max_modules) (e : t ≡ tabulate max_modules f) (h : (v : ℕ) → g v ≡ f v + bit (eqb w v)) where
  there : (v : ℕ) → v < max_modules → entry t v ≡ f v
  there v m = ap (λ s. entry s v) e ∙ get_d_tabulate max_modules f v m

  long : length t ≡ max_modules
  long = ap length e ∙ length-tabulate max_modules f

  pub starts-on : {u : List ℕ} → u ≡ set t w (entry t w + 1) → u ≡ tabulate max_modules g
  starts-on i = i ∙ tabulated max_modules g (set t w (entry t w + 1)) (length-set t w (entry t w + 1) ∙ long) (λ v m. by-eq v w
      (λ q. subst (λ u. get_or (set t w (entry t w + 1)) u 0 ≡ g u) (sym q)
      (get_or-set_same t w (entry t w + 1) 0 (omega (arith, long)) ∙ omega (arith, there w l, h w, ap bit (eq-eqb w w refl))))
      (λ n. get_or-set_other t w v (entry t w + 1) 0 n ∙ omega (arith, there v m, h v, ap bit (ne_eqb w v (λ q. n (sym q))))))

module _ (p : Plan) where
  pub ends_more : (v d : ℕ) → ends_below p v (d + 1) ≡ ends_below p v d + bit (eqb (from p d) v)
  ends_more v d = ap (ends_below p v) (add-one d) ∙ ends_on p v d

  pub none-counted : (t : List ℕ) → t ≡ replicate max_modules 0 → t ≡ tabulate max_modules (λ v. ends_below p v 0)
  unfolding ends_below
  none-counted t e = tabulated max_modules (λ v. 0) t (ap length e ∙ length-replicate {A = ℕ} max_modules 0) (λ v l. ap (λ s. entry s v) e ∙ get_or-replicate max_modules v 0 0 l)

  pub reached-none : (t : List ℕ) → length t ≡ max_modules → t ≡ tabulate max_modules (λ v. entry t v + ends_below p v 0)
  unfolding ends_below
  reached-none t e = tabulated max_modules (λ v. entry t v + 0) t e (λ v l. omega arith)

  pub ends-small : (v d : ℕ) → ends_below p v d ≤ d
  unfolding ends_below
  ends-small v zero = omega arith
  ends-small v (suc d) = omega (arith, ends-small v d, bit_le (eqb (from p d) v))

  module _ (a : Accepted p) where
    module-long : (v : ℕ) → length (module_places p v) ≡ WIDTH + ends_below p v (2 * links_of p)
    module-long v = omega (arith, length-append (value_places v) (mark_places p v (links_of p)), length-tabulate WIDTH (cell_of v), marks-ends p a v (links_of p) (omega arith))

    pub starts-next : (v : ℕ) → values_from p (v + 1) ≡ values_from p v + (WIDTH + ends_below p v (2 * links_of p))
    starts-next v = omega (arith, ap length (below_next p v), length-append (places_below p v) (module_places p v), module-long v)

    pub starts-small : (v : ℕ) → v < modules_of p → values_from p v + (WIDTH + ends_below p v (2 * links_of p)) < 65536
    starts-small v l = omega (arith, module-long v, below-within p v (modules_of p) l, places-length p a, a.modules_ok, a.links_ok)

    laid-at : (t : List ℕ) → t ≡ laid_starts p (modules_of p) → (v : ℕ) → v < modules_of p → entry t v ≡ values_from p v
    laid-at t e v l =
        let rest : ℕ → ℕ = λ u. ends_below p u (2 * links_of p) in
        ap (λ s. entry s v) e ∙ get_d_tabulate max_modules (upto (modules_of p) (values_from p) rest) v (omega (arith, a.modules_ok)) ∙ upto-in (modules_of p) (values_from p) rest v l

    -- cell i is of a module below N
    module _ (i : ℕ) (l : i < modules_of p * WIDTH) where
      pub cell-inside : cell_number p i < field_numbers p
      cell-inside = omega (arith, stands-below (cell-stands p (i / WIDTH) (i % WIDTH) (omega arith) (omega arith)))

      pub cell-reached : (t : List ℕ) → t ≡ laid_starts p (modules_of p) → entry t (i / WIDTH) ≡ values_from p (i / WIDTH)
      cell-reached t e = laid-at t e (i / WIDTH) (omega arith)

    -- the ends below d have been gone through
    module _ (d : ℕ) (l : d < 2 * links_of p) where
      pub mark-inside : mark_number p d < field_numbers p
      mark-inside = omega (arith, stands-below (mark-stands p a d l))

      pub mark-reached : (s t : List ℕ) → s ≡ laid_starts p (modules_of p) → t ≡ tabulate max_modules (λ v. entry s v + ends_below p v d)
          → entry t (from p d) ≡ values_from p (from p d) + ends_below p (from p d) d
      mark-reached s t h e =
          let b = from-below p a d l in
          ap (λ u. entry u (from p d)) e ∙ get_d_tabulate max_modules (λ v. entry s v + ends_below p v d) (from p d) (omega (arith, b, a.modules_ok))
          ∙ ap (λ (n : ℕ). n + ends_below p (from p d) d) (laid-at s h (from p d) b)
