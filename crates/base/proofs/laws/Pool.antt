-- A pool from whose middle one is taken and to whose end some are put: what holds of all (`All-`), and sums (`sumL-`), go through both.
-- A list turned round (`All-reverse`, `reverse-All`).
use Rattle.std.specs.Prelude.{ℕ, ◌+◌, ◌≡◌, refl}
use Rattle.std.proofs.Common.{zero-add, arith, sym, subst}
use mathlib.Core.List.{List, [], ◌∷◌, ◌++◌, reverse, reverse-cons, reverse-reverse}
use Rattle.base.specs.Pool.{All, nil, con, Out, here, there, sum_l}

module _ {A : Type 0} where
  pub All-map : {P Q : A → Type 0} {l : List A} → ((m : A) → P m → Q m) → All P l → All Q l
  All-map f nil = nil
  All-map f (con {x} h t) = con (f x h) (All-map f t)

  pub All-app : {P : A → Type 0} {xs ys : List A} → All P xs → All P ys → All P (xs ++ ys)
  All-app nil k = k
  All-app (con h t) k = con h (All-app t k)

  pub All-one : {P : A → Type 0} {x : A} → P x → All P (x ∷ [])
  All-one h = con h nil

  pub All-reverse : {P : A → Type 0} {l : List A} → All P l → All P (reverse l)
  All-reverse nil = nil
  All-reverse {P} (con {x} {xs} h t) = subst (All P) (sym (reverse-cons x xs)) (All-app (All-reverse t) (All-one h))

  -- and back
  pub reverse-All : {P : A → Type 0} (l : List A) → All P (reverse l) → All P l
  reverse-All {P} l h = subst (All P) (reverse-reverse l) (All-reverse h)

  pub All-both : {P Q : A → Type 0} {l : List A} → All P l → All Q l → All (λ x. P x × Q x) l
  All-both nil nil = nil
  All-both (con h t) (con k s) = con (h, k) (All-both t s)

  pub All-here : {P : A → Type 0} {l r : List A} {m : A} → Out l m r → All P l → P m
  All-here here (con h t) = h
  All-here (there o) (con h t) = All-here o t

  pub All-rest : {P : A → Type 0} {l r : List A} {m : A} → Out l m r → All P l → All P r
  All-rest here (con h t) = t
  All-rest (there o) (con h t) = con h (All-rest o t)

  pub sum_l-app : (f : A → ℕ) (xs ys : List A) → sum_l f (xs ++ ys) ≡ sum_l f xs + sum_l f ys
  sum_l-app f [] ys = sym (zero-add (sum_l f ys))
  sum_l-app f (x ∷ xs) ys = omega (arith, sum_l-app f xs ys)

  pub sum_l-out : (f : A → ℕ) {l r : List A} {m : A} → Out l m r → sum_l f l ≡ f m + sum_l f r
  sum_l-out f here = refl
  sum_l-out f (there o) = omega (arith, sum_l-out f o)
