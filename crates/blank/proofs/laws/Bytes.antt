-- Bytes that declare no module but links meet 16 (`bytes-meet-16`), or 15 before it (`bytes-meet-15`); 14 is for more than 192 modules alone
-- (`bytes-above-192`).
use Prim.Native.Nat.{ℕ, ◌+◌, ◌*◌, ◌-◌, ◌≤◌, ◌<◌}
use native.Mathlib.Omega.{arith}
use Rattle.std.specs.Prelude.{◌≡◌, ◌≢◌, ◌⊎◌, false, not, ◌||◌, List, length, get_or, eqb}
use Rattle.std.proofs.Math.Path.{refl}
use Rattle.std.proofs.Common.{sym, ◌∙◌, inl, inr}
use Rattle.std.proofs.Math.Bool.{true, or-true}
use Rattle.std.proofs.Math.Dec.{ltb}
use borrow.Author.Tests.{lt-ltb, eq-eqb, ne_eqb, ltb-true, ltb-false}
use Rattle.base.proofs.laws.Cond.{bool_cases}
use Rattle.base.specs.Limits.{max_modules, max_links}
use Rattle.base.proofs.laws.Refuse.{or_else-zero}
use Rattle.plan.specs.Links.{modules_of, links_of}
use Rattle.plan.specs.Refusal.{counts_refusal, plan_refusal}
use Rattle.plan.proofs.laws.Accepted.{counted_back}
use Rattle.plan_file.specs.Layout.{number_at, decode}
use Rattle.plan_file.specs.Reading.{head_verdict, head_refusal, read_refusal, read_plan}
use Rattle.plan_file.proofs.laws.RoundTrip.{number-decode, read-refusal}
use Rattle.blank.specs.Claim.{HeadTaken, links_length}
use Rattle.blank.proofs.laws.Plans.{not-or_else, not_first, nobody-15, counts-never, above-192, link-meets-16}

decode-modules : (s : List ℕ) → modules_of (decode s) ≡ number_at s 1
decode-modules s = number-decode s 0 (omega arith)

decode-links : (s : List ℕ) → links_of (decode s) ≡ number_at s 2
decode-links s = number-decode s 1 (omega arith)

-- where none of 11 to 13 applies the counts decide
head-counts : (size version len counts : ℕ) → head_verdict size version len 0 ≡ 0 → head_verdict size version len counts ≡ counts
unfolding head_verdict
head-counts size version len counts h =
    let f11 = or_else-zero (ltb size 3) 10 h in
    let f12 = or_else-zero (not (eqb version 1)) 11 f11.1 in
    let f13 = or_else-zero (not (eqb len (size - 3)) || ltb len 4) 12 f12.1 in
    rw (f11.0, f12.0, f13.0) refl

pub bytes-meet-16 : (s : List ℕ) → HeadTaken s → number_at s 1 ≡ 0 → 0 < number_at s 2 → number_at s 2 ≤ max_links → number_at s 0 ≡ links_length (number_at s 2)
    → (read_plan s).refusal ≡ 16
unfolding read_refusal
bytes-meet-16 s t z m l f =
    let h : head_refusal s ≡ 0 = head-counts (length s) (get_or s 0 0) (number_at s 0) _ t
    ∙ rw (eq-eqb (number_at s 0) (links_length (number_at s 2)) f) (counted_back (number_at s 1) (number_at s 2) (record { modules_ok = omega (arith, z); links_ok = l })) in
    let e : plan_refusal (decode s) ≡ 16 = link-meets-16 (decode s) (decode-modules s ∙ z) (omega (arith, decode-links s)) (omega (arith, decode-links s)) in
    read-refusal s ∙ rw (h, e) refl

pub bytes-above-192 : (s : List ℕ) → (read_plan s).refusal ≡ 14 → max_modules < number_at s 1
unfolding read_refusal head_verdict
bytes-above-192 s e = bool_cases (ltb max_modules (number_at s 1)) (λ t. ltb-true _ _ t) (λ f. absurd (never f (sym (read-refusal s) ∙ e)))
  where
    never : ltb max_modules (number_at s 1) ≡ false → read_refusal s ≢ 14
    never f = not_first (head_refusal s)
        (not-or_else (ltb (length s) 3) 11 (λ e. omega arith)
        (not-or_else (not (eqb (get_or s 0 0) 1)) 12 (λ e. omega arith)
        (not-or_else (not (eqb (number_at s 0) (length s - 3)) || ltb (number_at s 0) 4) 13 (λ e. omega arith)
        (counts-never (number_at s 1) (number_at s 2) (eqb (number_at s 0) (4 + 8 * number_at s 2)) f))))
        (λ e. let l = (above-192 (decode s)).0 e in let k = ltb-false max_modules (number_at s 1) f in omega (arith, l, k, decode-modules s))

pub bytes-meet-15 : (s : List ℕ) → HeadTaken s → number_at s 1 ≡ 0 → (max_links < number_at s 2) ⊎ (number_at s 0 ≢ links_length (number_at s 2))
    → (read_plan s).refusal ≡ 15
unfolding read_refusal
bytes-meet-15 s h z t =
    let fits = eqb (number_at s 0) (links_length (number_at s 2)) in
    let c : counts_refusal (number_at s 1) (number_at s 2) fits ≡ 15 = nobody-15 (number_at s 1) (number_at s 2) fits z (unfit t) in
    let e : head_refusal s ≡ 15 = head-counts (length s) (get_or s 0 0) (number_at s 0) _ h ∙ c in
    read-refusal s ∙ rw e refl
  where
    unfit : (max_links < number_at s 2) ⊎ (number_at s 0 ≢ links_length (number_at s 2)) → (ltb max_links (number_at s 2) || not (eqb (number_at s 0) (links_length (number_at s 2)))) ≡ true
    unfit (inl l) = rw (lt-ltb max_links (number_at s 2) l) refl
    unfit (inr n) = rw (ne_eqb (number_at s 0) (links_length (number_at s 2)) n) (or-true (ltb max_links (number_at s 2)))
