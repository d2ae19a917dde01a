-- The last test of a schedule (`kinds-bad`, `kinds-fine`), and the outcomes of the whole check (`short-is-51`, `version-is-52`, `wrong-length-is-53`, `uneven-is-53`, `of-kinds`);
-- how long a schedule is that is taken (`taken-size`).
use Rattle.std.specs.Prelude.{ℕ, ◌+◌, ◌*◌, ◌/◌, ◌%◌, ◌≤◌, ◌<◌, ◌≡◌, ◌≢◌, true, false, not, cond, List, length, get_or, eqb}
use Rattle.std.proofs.Common.{div-add-mod', arith, sym, ◌∙◌, true≢false}
use Rattle.std.proofs.Math.Path.{refl, ap}
use Rattle.std.proofs.Math.Bool.{and-eq-true_iff}
use borrow.Author.Tests.{lt-ltb, le-ltb, le-leb, lt-leb, eq-eqb, ne_eqb, eqb-true, not-false}
use Rattle.format_int16.specs.Int16.{at16}
use Rattle.base.proofs.laws.Cond.{bool_cases, ltb-cases}
use Rattle.base.specs.Test.{every}
use Rattle.base.proofs.laws.Test.{every-all, all-every}
use Rattle.field_calls.specs.Schedule.{steps_in, kind_of, length_fits, kind_listed, schedule_refusal}

-- "54 a kind not 1 to 3 (checked throughout ..)": of the first n steps
unfoldable pub kinds_from : List ℕ → ℕ → ℕ
kinds_from s n = cond (not (every n (λ i. kind_listed (kind_of s i)))) 54 0

module _ (s : List ℕ) (n : ℕ) where
  pub kinds-bad : (i : ℕ) → i < n → kind_listed (kind_of s i) ≡ false → 54 ≡ kinds_from s n
  unfolding kinds_from
  kinds-bad i l e = bool_cases (every n (λ i. kind_listed (kind_of s i)))
      (λ y. absurd (true≢false (sym (every-all n (λ i. kind_listed (kind_of s i)) y i l) ∙ e)))
      (λ f. rw f refl)

  pub kinds-fine : ((i : ℕ) → i < n → kind_listed (kind_of s i) ≡ true) → 0 ≡ kinds_from s n
  unfolding kinds_from
  kinds-fine h = rw (all-every n (λ i. kind_listed (kind_of s i)) h) refl

module _ (s : List ℕ) where
  pub short-is-51 : length s < 3 → 51 ≡ schedule_refusal s
  unfolding schedule_refusal
  short-is-51 h = simp (lt-ltb _ _ h)

  module _ (long : 3 ≤ length s) where
    pub version-is-52 : get_or s 0 0 ≢ 1 → 52 ≡ schedule_refusal s
    unfolding schedule_refusal
    version-is-52 h = simp (le-ltb _ _ long, ne_eqb _ _ h)

    module _ (one : get_or s 0 0 ≡ 1) where
      pub wrong-length-is-53 : at16 s 1 + 3 ≢ length s → 53 ≡ schedule_refusal s
      unfolding schedule_refusal
      wrong-length-is-53 h = simp (le-ltb _ _ long, eq-eqb _ _ one, ne_eqb _ _ h)

      module _ (fits : at16 s 1 + 3 ≡ length s) where
        pub uneven-is-53 : at16 s 1 % 3 ≢ 0 → 53 ≡ schedule_refusal s
        unfolding schedule_refusal
        uneven-is-53 h = simp (le-ltb _ _ long, eq-eqb _ _ one, eq-eqb _ _ fits, ne_eqb _ _ h)

        pub of-kinds : at16 s 1 % 3 ≡ 0 → kinds_from s (at16 s 1 / 3) ≡ schedule_refusal s
        unfolding schedule_refusal kinds_from
        of-kinds h =
            let q : steps_in s ≡ at16 s 1 / 3 = ap (λ (x : ℕ). x / 3) (omega arith) in
            simp (le-ltb _ _ long, eq-eqb _ _ one, eq-eqb _ _ fits, eq-eqb _ _ h, q)

-- a number above 3 is no kind
pub unlisted : (k : ℕ) → 4 ≤ k → false ≡ kind_listed k
unlisted k h = simp (le-leb 1 k (omega arith), lt-leb k 3 (omega arith))

-- what a schedule that is taken says of its length: each step has its three bytes
pub taken-size : (s : List ℕ) → schedule_refusal s ≡ 0 → (3 ≤ length s) × (steps_in s * 3 + 3 ≡ length s)
unfolding schedule_refusal
taken-size s = ltb-cases (length s) 3 (λ b. ◌≡◌ {A = ℕ} (cond b 51 (cond (not (eqb (get_or s 0 0) 1)) 52 (cond (not (length_fits s)) 53 (cond (not (every (steps_in s) (λ i. kind_listed (kind_of s i)))) 54 0)))) 0 → (3 ≤ length s) × (steps_in s * 3 + 3 ≡ length s))
    (λ l e. absurd (never 51 (omega arith) e))
    (λ l. bool_cases (not (eqb (get_or s 0 0) 1))
    (λ v. rw v (λ e. absurd (never 52 (omega arith) e)))
    (λ v. rw v (bool_cases (not (length_fits s)) (λ w. rw w (λ e. absurd (never 53 (omega arith) e))) (λ w. rw w (λ e. (l, size l (not-false _ w)))))))
  where
    never : (n : ℕ) → 1 ≤ n → n ≡ 0 → ⊥
    never n l e = omega arith

    size : 3 ≤ length s → length_fits s ≡ true → steps_in s * 3 + 3 ≡ length s
    size l f =
        let t = (and-eq-true_iff (eqb (at16 s 1 + 3) (length s)) (eqb (at16 s 1 % 3) 0)).0 f in
        let a = eqb-true (at16 s 1 + 3) (length s) t.0 in
        let b = eqb-true (at16 s 1 % 3) 0 t.1 in
        let q : steps_in s ≡ at16 s 1 / 3 = ap (λ (x : ℕ). x / 3) (omega arith) in
        omega (arith, div-add-mod' (at16 s 1) 3)
