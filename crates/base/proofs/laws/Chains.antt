-- What chains of iterators answer is what the definitions say, in std's words: the place of the first that passes (`place-is`, `first-is`), how many pass
-- (`many-is`), that none does (`none-is`), whether all numbers below n do (`every-is`); the same of a list's front (`every-front`, `sum-front`).
use Rattle.std.specs.Prelude.{ℕ, zero, suc, ◌≡◌, ◌≤◌, ◌<◌, Bool, ◌&&◌, not, Option, None, Some, MatchOption, cond, List, [], ◌∷◌, length, get_or, take, position, count_by}
use Rattle.std.specs.List.{list_all, list_any, position_or_len, range_with_len}
use Rattle.std.proofs.Common.{refl, sym, ap, ◌∙◌, arith, add-one}
use Rattle.std.proofs.lemmas.List.FromFn.{length-range_with_len, get_or-range_with_len}
use Rattle.std.proofs.lemmas.List.Folds.{list_all_more}
use Rattle.std.proofs.lemmas.List.Recursion.{is_count_by, is_position_or_len}
use Rattle.std.proofs.lemmas.List.Sums.{prefix_len-le-length, count_by_more_no, count_by_more_yes}
use Rattle.std.proofs.Math.Seq.{take_all}
use Rattle.std.proofs.Math.Bool.{and-true, and-false}
use Rattle.base.specs.Cond.{bit}
use Rattle.base.specs.Keep.{many, place}
use Rattle.base.specs.Sum.{sum}
use Rattle.base.specs.Test.{every}
use Rattle.base.proofs.laws.Cond.{bool_cases, ltb-cases}
use Rattle.base.proofs.laws.Test.{every-ext}

module _ {A : Type 0} (q : A → Bool) where
  pub place-is : (l : List A) → place q l ≡ position_or_len q l
  unfolding place
  place-is = is_position_or_len (place q) q refl (λ x l. bool_cases (q x) (λ e. rw e refl) (λ e. rw e (omega arith)))

  pub many-is : (l : List A) → many q l ≡ count_by q l
  unfolding many
  many-is = is_count_by (many q) q refl (λ x l. bool_cases (q x) (λ e. rw e refl) (λ e. rw e (omega arith)))

  -- what `position` answers
  pub first-is : (l : List A) (r : Option ℕ) → r ≡ position q l → MatchOption r (place q l ≡ length l) (λ i. (i < length l) × (i ≡ place q l))
  first-is l r e =
      let i = position_or_len q l in
      let h : i ≤ length l = prefix_len-le-length (λ x. not (q x)) l in
      rw (e, place-is l) (ltb-cases i (length l) (λ b. MatchOption (cond b (Some i) None) (i ≡ length l) (λ k. (k < length l) × (k ≡ i))) (λ k. (k, refl)) (λ k. omega arith))

  -- no member passes
  pub none-is : (l : List A) → not (list_any q l) ≡ list_all (λ x. not (q x)) l
  none-is [] = refl
  none-is (x ∷ l) = bool_cases (q x) (λ e. rw e refl) (λ e. rw e (none-is l))

  -- of the first n of a list
  module _ (l : List A) (d : A) where
    pub every-front : (n : ℕ) → n ≤ length l → every n (λ k. q (get_or l k d)) ≡ list_all q (take n l)
    unfolding every
    every-front zero h = refl
    every-front (suc n) h =
        let e : list_all q (take (suc n) l) ≡ (every n (λ k. q (get_or l k d)) && q (get_or l n d)) =
        ap (λ (k : ℕ). list_all q (take k l)) (sym (add-one n)) ∙ list_all_more q l n d h ∙ ap (λ b. b && q (get_or l n d)) (sym (every-front n (omega arith))) in
        bool_cases (q (get_or l n d))
        (λ y. rw (e, y) (sym (and-true (every n (λ k. q (get_or l k d))))))
        (λ f. rw (e, f) (sym (and-false (every n (λ k. q (get_or l k d))))))

    pub sum-front : (n : ℕ) → n ≤ length l → sum n (λ k. bit (q (get_or l k d))) ≡ count_by q (take n l)
    sum-front zero h = refl
    sum-front (suc n) h =
        let e : sum n (λ k. bit (q (get_or l k d))) ≡ count_by q (take n l) = sum-front n (omega arith) in
        bool_cases (q (get_or l n d))
        (λ y. rw (y, ← add-one n, count_by_more_yes q l n d h y) (omega arith))
        (λ f. rw (f, ← add-one n, count_by_more_no q l n d h f) (omega arith))

-- of all numbers below n
pub every-is : (n : ℕ) (p : ℕ → Bool) → every n p ≡ list_all p (range_with_len 0 n)
every-is n p =
    let l = range_with_len 0 n in
    let e : length l ≡ n = length-range_with_len 0 n in
    every-ext n p (λ k. p (get_or l k 0)) (λ k h. ap p (let i : k ≡ get_or l k 0 = omega (arith, get_or-range_with_len 0 n k 0 h) in i))
    ∙ every-front p l 0 n (omega arith) ∙ ap (list_all p) (take_all n l (omega arith))
