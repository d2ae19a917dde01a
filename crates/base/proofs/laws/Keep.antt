-- The first of a list that passes a test, taken out: what passes a narrower test has it as its head (`head_of`), what passes another is as it was
-- (`others`); `place` finds it (`place-first`), and it alone (`first_found`, `first-left`).
use Rattle.std.specs.Prelude.{suc, ◌≤◌, ◌<◌, ◌≡◌, Bool, true, false, length, get_or, take, drop}
use Rattle.std.proofs.Common.{not-suc-le-zero, le_of_suc-le-suc, arith, sym, ap, ◌∙◌}
use Rattle.std.proofs.Math.Path.{refl}
use mathlib.Core.List.{List, [], ◌∷◌, ◌++◌}
use Rattle.base.proofs.laws.Cond.{bool_cases}
use Rattle.base.specs.Pool.{Out, here, there}
use Rattle.base.specs.Keep.{keep, place}

module _ {A : Type 0} where
  pub no_length : (l : List A) → length l ≡ 0 → l ≡ []
  no_length [] e = refl
  no_length (x ∷ l) e = absurd (omega arith)

  pub keep-yes : (q : A → Bool) (x : A) (l : List A) → q x ≡ true → keep q (x ∷ l) ≡ x ∷ keep q l
  unfolding keep
  keep-yes q x l e = rw e

  pub keep-no : (q : A → Bool) (x : A) (l : List A) → q x ≡ false → keep q (x ∷ l) ≡ keep q l
  unfolding keep
  keep-no q x l e = rw e

  pub keep-nil : (q : A → Bool) → keep q [] ≡ []
  unfolding keep
  keep-nil q = refl

  pub keep-app : (q : A → Bool) (l m : List A) → keep q (l ++ m) ≡ keep q l ++ keep q m
  unfolding keep
  keep-app q [] m = refl
  keep-app q (x ∷ l) m = bool_cases (q x)
      (λ e. rw e (ap (λ r. x ∷ r) (keep-app q l m)))
      (λ e. rw e (keep-app q l m))

  pub keep_one : (q : A → Bool) (x : A) → q x ≡ true → keep q (x ∷ []) ≡ x ∷ []
  keep_one q x e = keep-yes q x [] e ∙ ap (λ r. x ∷ r) (keep-nil q)

  pub keep-none : (q : A → Bool) (x : A) → q x ≡ false → keep q (x ∷ []) ≡ []
  keep-none q x e = keep-no q x [] e ∙ keep-nil q

  -- w is the first of l that passes, and r is l without it
  pub data FirstThat (p : A → Bool) : List A → A → List A → Type 0 where
    first : {w : A} {l : List A} → p w ≡ true → FirstThat p (w ∷ l) w l
    later : {x w : A} {l r : List A} → p x ≡ false → FirstThat p l w r → FirstThat p (x ∷ l) w (x ∷ r)

  pub first_passes : {p : A → Bool} {l r : List A} {w : A} → FirstThat p l w r → p w ≡ true
  first_passes (first e) = e
  first_passes (later e f) = first_passes f

  pub first_out : {p : A → Bool} {l r : List A} {w : A} → FirstThat p l w r → Out l w r
  first_out (first e) = here
  first_out (later e f) = there (first_out f)

  -- what passes a narrower test q: w is their head ..
  pub head_of : {p : A → Bool} {l r : List A} {w : A} (q : A → Bool) → ((x : A) → p x ≡ false → q x ≡ false) → q w ≡ true → FirstThat p l w r → keep q l ≡ w ∷ keep q r
  head_of q n e (first {w} {l} h) = keep-yes q w l e
  head_of {w} q n e (later {x} {l = l} {r = r} h f) = keep-no q x l (n x h) ∙ head_of q n e f ∙ ap (λ y. w ∷ y) (sym (keep-no q x r (n x h)))

  -- .. and what passes a test that w does not is as it was
  pub others : {p : A → Bool} {l r : List A} {w : A} (q : A → Bool) → q w ≡ false → FirstThat p l w r → keep q l ≡ keep q r
  others q e (first {w} {l} h) = keep-no q w l e
  others {w} q e (later {x} {l = l} {r = r} h f) = bool_cases (q x)
      (λ y. keep-yes q x l y ∙ ap (λ z. x ∷ z) (others q e f) ∙ sym (keep-yes q x r y))
      (λ y. keep-no q x l y ∙ others q e f ∙ sym (keep-no q x r y))

  pub place-first : (p : A → Bool) (l : List A) (z : A) → place p l < length l
      → FirstThat p l (get_or l (place p l) z) (take (place p l) l ++ drop (suc (place p l)) l)
  unfolding place
  place-first p [] z h = absurd (not-suc-le-zero h)
  place-first p (x ∷ l) z h = bool_cases (p x)
      (λ e. rw e (first e))
      (λ e. rw e (later e (place-first p l z (le_of_suc-le-suc (rw e at h)))))

  pub place-some : (p : A → Bool) (l : List A) → 1 ≤ length (keep p l) → place p l < length l
  unfolding place keep
  place-some p [] h = absurd (not-suc-le-zero h)
  place-some p (x ∷ l) h = bool_cases (p x)
      (λ e. rw e (omega arith))
      (λ e. rw e (omega (arith, place-some p l (rw e at h))))

  -- there is no other such: it stands where `place` says ..
  pub first_found : {p : A → Bool} {l r : List A} {w : A} (z : A) → FirstThat p l w r → w ≡ get_or l (place p l) z
  unfolding place
  first_found z (first e) = rw e
  first_found z (later e f) = rw e (first_found z f)

  -- .. and r is what is left without that place
  pub first-left : {p : A → Bool} {l r : List A} {w : A} → FirstThat p l w r → r ≡ take (place p l) l ++ drop (suc (place p l)) l
  unfolding place
  first-left (first e) = rw e
  first-left (later {x} e f) = rw e (ap (λ y. x ∷ y) (first-left f))
