-- Names: `same_list` is equality (`same-equal`, `equal-same`), by turns of a loop too (`same-`). Of the first records that pass (`first-`): one of a name
-- that is saved is found, those of other names are found as before (`saved-own`, `saved-other`).
use Rattle.std.specs.Prelude.{ℕ, ◌≡◌, ◌≢◌, Bool, true, false, not, eqb}
use native.Mathlib.Omega.{arith}
use Rattle.std.proofs.Math.Path.{refl, sym}
use Rattle.std.proofs.Common.{ap, ap₂, ◌∙◌, true≢false}
use Rattle.std.proofs.Math.Bool.{and-eq-true_iff}
use mathlib.Core.List.{List, [], ◌∷◌, ◌++◌}
use Rattle.std.proofs.Math.ListN.{length}
use borrow.Author.Tests.{eqb-true, not-false}
use Rattle.base.specs.Pool.{All, nil, con}
use Rattle.base.proofs.laws.Pool.{All-app, All-one}
use Rattle.base.proofs.laws.Cond.{bool_cases, eqb_same}
use Rattle.store.specs.Records.{records_in, stored}
use Rattle.base.specs.Test.{same_list}
use Rattle.store.specs.Names.{name_in, is_named, without_first, held_among, shown_part}
use Rattle.store_records.specs.Walk.{IsRecord, laid-back}
use Rattle.store_records.specs.Spots.{first_of, NonePass, first-hit, first_next, spot-size, spot-part, without-keeps}
use Rattle.std.specs.Prelude.{◌+◌, ◌≤◌, ◌<◌, get_or, drop}
use Rattle.std.proofs.Math.Numerals.{add-one}
use Rattle.std.proofs.Math.ListN.{drop_of_length-le}
use Rattle.std.proofs.Math.Seq.{drop-cons}
use borrow.Author.Tests.{eq-eqb, ne_eqb}

pub same-equal : (a b : List ℕ) → same_list a b ≡ true → a ≡ b
unfolding same_list
same-equal [] [] e = refl
same-equal [] (y ∷ b) e = absurd (true≢false (sym e))
same-equal (x ∷ a) [] e = absurd (true≢false (sym e))
same-equal (x ∷ a) (y ∷ b) e = let h = (and-eq-true_iff (eqb x y) (same_list a b)).0 e in ap₂ ◌∷◌ (eqb-true x y h.0) (same-equal a b h.1)

same_self : (a : List ℕ) → same_list a a ≡ true
unfolding same_list
same_self [] = refl
same_self (x ∷ a) = rw (eqb_same x) (same_self a)

pub equal-same : {a b : List ℕ} → a ≡ b → same_list a b ≡ true
equal-same {a} {b} e = ap (λ x. same_list a x) (sym e) ∙ same_self a

pub same-swap : (a b : List ℕ) → same_list a b ≡ false → same_list b a ≡ false
same-swap a b e = bool_cases (same_list b a) (λ t. absurd (true≢false (sym (equal-same (sym (same-equal b a t))) ∙ e))) (λ f. f)

-- A LOOP OVER BOTH, from byte i on

pub same-lengths : (a b : List ℕ) → length a ≢ length b → false ≡ same_list a b
same-lengths a b d = bool_cases (same_list a b) (λ t. absurd (d (ap length (same-equal a b t)))) (λ f. sym f)

module _ (a b : List ℕ) (i : ℕ) (k : length a ≡ length b) (e : same_list a b ≡ same_list (drop i a) (drop i b)) where
  pub same_over : length a ≤ i → true ≡ same_list a b
  unfolding same_list
  same_over h = sym (e ∙ rw (drop_of_length-le a h, drop_of_length-le b (let l : length b ≤ i = omega arith in l)))

  module _ (l : i < length a) where
    pub same-on : get_or a i 0 ≡ get_or b i 0 → same_list a b ≡ same_list (drop (i + 1) a) (drop (i + 1) b)
    unfolding same_list
    same-on h = e ∙ rw (drop-cons a i 0 l, drop-cons b i 0 (omega arith), eq-eqb (get_or a i 0) (get_or b i 0) h, add-one i)

    pub same-off : get_or a i 0 ≢ get_or b i 0 → false ≡ same_list a b
    unfolding same_list
    same-off h = sym (e ∙ rw (drop-cons a i 0 l, drop-cons b i 0 (omega arith), ne_eqb (get_or a i 0) (get_or b i 0) h))

-- THE FIRST THAT PASSES

module _ (q : List ℕ → Bool) where
  -- where records are records, the first that passes is one, and nothing is found exactly if none passes
  pub first-has : {P : List ℕ → Type 0} {rs : List (List ℕ)} → All P rs → length (first_of q rs) ≢ 0 → P (first_of q rs) × (q (first_of q rs) ≡ true)
  unfolding first_of
  first-has nil d = absurd (d refl)
  first-has (con {x} {xs} h t) d = bool_cases (q x) (λ e. rw e (h, e)) (λ e. rw e (first-has t (rw e at d)))

  pub first-empty : {rs : List (List ℕ)} → NonePass q rs → first_of q rs ≡ []
  unfolding first_of
  first-empty nil = refl
  first-empty (con {x} {xs} e t) = first_next q x xs e ∙ first-empty t

  pub none_first : {rs : List (List ℕ)} → All IsRecord rs → length (first_of q rs) ≡ 0 → NonePass q rs
  none_first nil z = nil
  none_first (con {x} {xs} h t) z = bool_cases (q x)
      (λ e. absurd (omega (arith, h.sized, ap length (first-hit q x xs e))))
      (λ e. con e (none_first t (sym (ap length (first_next q x xs e)) ∙ z)))

  -- one more behind
  pub first-own : {rs : List (List ℕ)} (r : List ℕ) → NonePass q rs → q r ≡ true → first_of q (rs ++ (r ∷ [])) ≡ r
  first-own r nil e = first-hit q r [] e
  first-own r (con {x} {xs} f t) e = first_next q x (xs ++ (r ∷ [])) f ∙ first-own r t e

  pub first_past : (rs : List (List ℕ)) (r : List ℕ) → q r ≡ false → first_of q (rs ++ (r ∷ [])) ≡ first_of q rs
  first_past [] r e = first_next q r [] e
  first_past (x ∷ rs) r e = bool_cases (q x)
      (λ y. first-hit q x (rs ++ (r ∷ [])) y ∙ sym (first-hit q x rs y))
      (λ y. first_next q x (rs ++ (r ∷ [])) y ∙ first_past rs r e ∙ sym (first_next q x rs y))

  -- one that another test takes out
  pub first-without : (p : List ℕ → Bool) → ((r : List ℕ) → p r ≡ true → q r ≡ false) → (rs : List (List ℕ)) → first_of q (without_first p rs) ≡ first_of q rs
  unfolding without_first
  first-without p apart [] = refl
  first-without p apart (x ∷ rs) = bool_cases (p x)
      (λ e. rw e (sym (first_next q x rs (apart x e))))
      (λ e. rw e (bool_cases (q x)
      (λ y. first-hit q x (without_first p rs) y ∙ sym (first-hit q x rs y))
      (λ y. first_next q x (without_first p rs) y ∙ first-without p apart rs ∙ sym (first_next q x rs y))))

-- OF A NAME

-- a record has one name
pub one_name : (m n r : List ℕ) → same_list m n ≡ false → is_named n r ≡ true → is_named m r ≡ false
one_name m n r d e = bool_cases (is_named m r)
    (λ t. absurd (true≢false (sym (equal-same (same-equal m (name_in r) t ∙ sym (same-equal n (name_in r) e))) ∙ d))) (λ f. f)

-- held: there is a first record of the name
pub held_first : (name : List ℕ) (rs : List (List ℕ)) → held_among name rs ≡ not (eqb (length (first_of (is_named name) rs)) 0)
held_first name rs = ap (λ k. not (eqb k 0)) (spot-size (is_named name) 0 rs)

pub held-there : (name : List ℕ) (rs : List (List ℕ)) → held_among name rs ≡ true → length (first_of (is_named name) rs) ≢ 0
held-there name rs e z = true≢false (sym e ∙ held_first name rs ∙ ap (λ k. not (eqb k 0)) z)

pub shown-first : (name s : List ℕ) → shown_part name s ≡ first_of (is_named name) (records_in s)
shown-first name s = spot-part (is_named name) s

pub shown-stored : (name : List ℕ) (n : ℕ) {rs : List (List ℕ)} → All IsRecord rs → shown_part name (stored n rs) ≡ first_of (is_named name) rs
shown-stored name n {rs} h = shown-first name (stored n rs) ∙ ap (first_of (is_named name)) (laid-back n h)

-- a record saved under name n, in place of the one that had it
module _ (n r : List ℕ) {rs : List (List ℕ)} (h : All IsRecord rs) (i : IsRecord r) (e : is_named n r ≡ true) where
  saved-all : All IsRecord (without_first (is_named n) rs ++ (r ∷ []))
  saved-all = All-app (without-keeps (is_named n) h) (All-one i)

  pub saved-own : (k : ℕ) → NonePass (is_named n) (without_first (is_named n) rs) → shown_part n (stored k (without_first (is_named n) rs ++ (r ∷ []))) ≡ r
  saved-own k apart = shown-stored n k saved-all ∙ first-own (is_named n) r apart e

  pub first-other : (m : List ℕ) → same_list m n ≡ false → first_of (is_named m) (without_first (is_named n) rs ++ (r ∷ [])) ≡ first_of (is_named m) rs
  first-other m d = first_past (is_named m) (without_first (is_named n) rs) r (one_name m n r d e) ∙ first-without (is_named m) (is_named n) (λ x t. one_name m n x d t) rs

  pub saved-other : (k : ℕ) (m : List ℕ) → same_list m n ≡ false → shown_part m (stored k (without_first (is_named n) rs ++ (r ∷ []))) ≡ first_of (is_named m) rs
  saved-other k m d = shown-stored m k saved-all ∙ first-other m d

  -- and is held or not as before
  pub held-other : (m : List ℕ) → same_list m n ≡ false → held_among m (without_first (is_named n) rs ++ (r ∷ [])) ≡ held_among m rs
  held-other m d = held_first m (without_first (is_named n) rs ++ (r ∷ [])) ∙ ap (λ t. not (eqb (length t) 0)) (first-other m d) ∙ sym (held_first m rs)

-- not held: no record has the name
pub unheld-none : (name : List ℕ) {rs : List (List ℕ)} → All IsRecord rs → held_among name rs ≡ false → NonePass (is_named name) rs
unheld-none name {rs} h e = none_first (is_named name) h (eqb-true (length (first_of (is_named name) rs)) 0 (not-false _ (sym (held_first name rs) ∙ e)))

pub none-unheld : (name : List ℕ) {rs : List (List ℕ)} → NonePass (is_named name) rs → held_among name rs ≡ false
none-unheld name {rs} h = held_first name rs ∙ ap (λ t. not (eqb (length t) 0)) (first-empty (is_named name) h)
