-- The order of two links by their ends (`in-order-after`); the links from k on (`links-stop`, `links-go`, `links-over`). A law for each outcome of a check,
-- each under the tests that came before: of counts (`c-`), a link (`v-`), the plan (`p-`).
use Rattle.std.specs.Prelude.{ℕ, zero, suc, ◌+◌, ◌-◌, ◌≤◌, ◌<◌, ◌≡◌, ◌≢◌, refl, Some, Bool}
use Rattle.std.proofs.Common.{arith, ap, ◌∙◌}
use Rattle.std.proofs.lemmas.Bool.Decides.{nat_tests}
use Rattle.std.specs.Ordering.{nat_cmp, partial_lt, partial_ordering_then}
use borrow.Author.Tests.{eq-eqb, ne_eqb}
use native.Mathlib.Numerals.{add-one}
use Rattle.plan.specs.Links.{Plan, lower_of, higher_of}
use Rattle.plan.specs.Refusal.{ascends, in_order, link_refusal, links_refusal}
use mathlib.Core.Path.{sym}
use mathlib.Core.Bool.{true, false}
use lib.Dec.{ltb}
use borrow.Author.Tests.{lt-ltb, le-ltb, le-leb, lt-leb}
use Rattle.base.proofs.laws.Cond.{bool_cases}
use Rattle.base.specs.Limits.{max_modules, max_links, max_reading}
use Rattle.plan.specs.Links.{modules_of, links_of, near_of, far_of}
use Rattle.plan.proofs.laws.Accepted.{Counts, counted}
use Rattle.plan.specs.Refusal.{counts_refusal, link_verdict, plan_refusal}

-- `<` of two pairs
abbrev pair_lt : ℕ × ℕ → ℕ × ℕ → Bool
pair_lt = partial_lt (λ (x y : ℕ × ℕ). partial_ordering_then (Some (nat_cmp x.0 y.0)) (Some (nat_cmp x.1 y.1)))

pair-ascends : (a b c d : ℕ) → pair_lt (a, b) (c, d) ≡ ascends a b c d
unfolding ascends
pair-ascends a b c d = grind (arith, nat_tests)

pub in-order-after : (p : Plan) (k : ℕ) → k ≢ 0 → {x y : ℕ × ℕ} → x ≡ (lower_of p (k - 1), higher_of p (k - 1)) → y ≡ (lower_of p k, higher_of p k)
    → pair_lt x y ≡ in_order p k
unfolding in_order
in-order-after p zero d e f = absurd (d refl)
in-order-after p (suc k) d e f = rw (e, f, (let g : suc k - 1 ≡ k = omega arith in g)) (pair-ascends _ _ _ _)

-- ALL LINKS, n of them still to do, from link k on

module _ (p : Plan) (l k : ℕ) (m : k < l) where
  pub links-stop : link_refusal p k ≢ 0 → links_refusal p (l - k) k ≡ link_refusal p k
  unfolding links_refusal
  links-stop d = (let e : l - k ≡ suc (l - suc k) = omega arith in ap (λ n. links_refusal p n k) e) ∙ rw (ne_eqb (link_refusal p k) 0 d)

  pub links-go : link_refusal p k ≡ 0 → links_refusal p (l - k) k ≡ links_refusal p (l - (k + 1)) (k + 1)
  unfolding links_refusal
  links-go z = (let e : l - k ≡ suc (l - suc k) = omega arith in ap (λ n. links_refusal p n k) e) ∙ rw (eq-eqb (link_refusal p k) 0 z, add-one)

pub links-over : (p : Plan) (l k : ℕ) → l ≤ k → links_refusal p (l - k) k ≡ 0
unfolding links_refusal
links-over p l k m = (let e : l - k ≡ 0 = omega arith in ap (λ n. links_refusal p n k) e)

-- THE ORDER OF TWO LINKS

module _ (lo hi lo' hi' : ℕ) where
  pub same-lower : lo ≡ lo' → ltb hi hi' ≡ ascends lo hi lo' hi'
  unfolding ascends
  same-lower e = rw (le-ltb lo lo' (omega arith), eq-eqb lo lo' e)

  pub other-lower : lo ≢ lo' → ltb lo lo' ≡ ascends lo hi lo' hi'
  unfolding ascends
  other-lower d = rw (ne_eqb lo lo' d) (bool_cases (ltb lo lo') (λ e. rw e) (λ e. rw e))

-- the code's numbers, in a plan
module _ (p : Plan) (k lo hi : ℕ) (e : lo ≡ lower_of p k) (f : hi ≡ higher_of p k) where
  pub in-order-from : (lo' hi' : ℕ) → k ≢ 0 → lo' ≡ lower_of p (k - 1) → hi' ≡ higher_of p (k - 1) → ascends lo' hi' lo hi ≡ in_order p k
  unfolding in_order
  in-order-from lo' hi' d g h = rw (e, f, g, h) (after k d)
    where
      after : (k : ℕ) → k ≢ 0 → ascends (lower_of p (k - 1)) (higher_of p (k - 1)) (lower_of p k) (higher_of p k) ≡ in_order p k
      after zero d = absurd (d refl)
      after (suc k) d = rw (let e : suc k - 1 ≡ k = omega arith in e, in_order)

  pub link-from : (n near far r : ℕ) (u : Bool) → n ≡ modules_of p → u ≡ in_order p k → near ≡ near_of p k → far ≡ far_of p k
      → r ≡ link_verdict n lo hi u near far → r ≡ link_refusal p k
  link-from n near far r u g h i j q = rw (e, f, g, h, i, j) at q

-- ONE LINK

module _ (n lo hi : ℕ) (u : Bool) (a b : ℕ) where
  pub v-order : hi ≤ lo → 16 ≡ link_verdict n lo hi u a b
  unfolding link_verdict
  v-order h = rw (le-leb hi lo h)

  module _ (p : lo < hi) where
    pub v-range : n ≤ hi → 16 ≡ link_verdict n lo hi u a b
    unfolding link_verdict
    v-range h = rw (lt-leb hi lo p, le-leb n hi h)

    module _ (q : hi < n) where
      pub v-after : u ≡ false → 17 ≡ link_verdict n lo hi u a b
      unfolding link_verdict
      v-after h = rw (lt-leb hi lo p, lt-leb n hi q, h)

      module _ (r : u ≡ true) where
        pub v-near : max_reading < a → 18 ≡ link_verdict n lo hi u a b
        unfolding link_verdict
        v-near h = rw (lt-leb hi lo p, lt-leb n hi q, r, lt-ltb max_reading a h)

        module _ (s : a ≤ max_reading) where
          pub v-far : max_reading < b → 18 ≡ link_verdict n lo hi u a b
          unfolding link_verdict
          v-far h = rw (lt-leb hi lo p, lt-leb n hi q, r, le-ltb max_reading a s, lt-ltb max_reading b h)

          pub v-fine : b ≤ max_reading → 0 ≡ link_verdict n lo hi u a b
          unfolding link_verdict
          v-fine h = rw (lt-leb hi lo p, lt-leb n hi q, r, le-ltb max_reading a s, le-ltb max_reading b h)

-- N AND L

module _ (n l : ℕ) (fits : Bool) where
  pub c-modules : max_modules < n → 14 ≡ counts_refusal n l fits
  c-modules h = rw (lt-ltb max_modules n h)

  module _ (b : n ≤ max_modules) where
    pub c-links : max_links < l → 15 ≡ counts_refusal n l fits
    c-links h = rw (le-ltb max_modules n b, lt-ltb max_links l h)

    module _ (d : l ≤ max_links) where
      pub c-length : fits ≡ false → 15 ≡ counts_refusal n l fits
      c-length h = rw (le-ltb max_modules n b, le-ltb max_links l d, h)

      pub c-fine : fits ≡ true → 0 ≡ counts_refusal n l fits
      c-fine h = rw (le-ltb max_modules n b, le-ltb max_links l d, h)

pub c-limits : (n l : ℕ) {r : ℕ} → r ≡ counts_refusal n l true → r ≡ 0 → Counts n l
c-limits n l e z = (counted n l true (sym e ∙ z)).0

-- THE PLAN

module _ (p : Plan) (n : ℕ) (a : n ≡ counts_refusal (modules_of p) (links_of p) true) where
  pub p-counts : n ≢ 0 → n ≡ plan_refusal p
  unfolding plan_refusal
  p-counts d = rw (← a, ne_eqb n 0 d)

  module _ (b : n ≡ 0) where
    pub p-links : (r : ℕ) → r ≡ links_refusal p (links_of p) 0 → r ≡ plan_refusal p
    unfolding plan_refusal
    p-links r e = rw (← a, eq-eqb n 0 b, ← e)
