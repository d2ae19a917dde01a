-- A record that passes its check: what that says (`record-ok`). Read and written again it is the same bytes (`read-saved`), so one field has one layout; its
-- field is tidy (`record-tidy`), and does not meet 31.
use Rattle.std.specs.Prelude.{ℕ, ◌+◌, ◌%◌, ◌≤◌, ◌<◌, ◌≡◌, ◌≢◌, true, ◌&&◌, get_or, take}
use native.Mathlib.Omega.{arith}
use Rattle.std.proofs.Math.Path.{sym, ap, ap₂}
use Rattle.std.proofs.Common.{◌∙◌, take-append-drop, drop-cons, drop-drop, get_or-take, get_or-drop}
use Rattle.std.proofs.Math.Bool.{not, and-eq-true_iff}
use mathlib.Core.List.{List, ◌∷◌, ◌++◌, append_assoc, append-nil}
use Rattle.std.proofs.Math.ListN.{length, drop, length-take, length-drop, get_or-eq_default}
use Rattle.std.proofs.Math.Seq.{drop-append_seam, length-take-le}
use Rattle.std.proofs.Math.Dec.{eqb, leb}
use borrow.Author.Tests.{eqb-true, eqb-false, leb-true, not-true}
use Rattle.base.specs.Limits.{AllBytes}
use Rattle.base.specs.Pool.{All}
use Rattle.base.proofs.laws.Cond.{ltb-cases}
use Rattle.base.proofs.laws.Pool.{All-map}
use Rattle.format_int16.specs.Int16.{at16}
use Rattle.format_wide.specs.Wide.{at32, bytes32}
use Rattle.format_wide.proofs.laws.Wide.{at32-drop, first-four}
use Rattle.plan.proofs.laws.Accepted.{Accepted, accepted}
use Rattle.plan_file.specs.Reading.{read_refusal}
use Rattle.plan_file.proofs.laws.RoundTrip.{read_head, read-accepted, read-written, decode-trimmed}
use Rattle.field.specs.Valid.{all_of, waiting_in}
use Rattle.field.specs.Held.{valid}
use Rattle.field_laws.proofs.Fits.{all-of}
use Rattle.field_laws.proofs.Laid.{waited-back}
use Rattle.store.specs.Records.{size_at}
use Rattle.store.specs.Names.{name_fits, name_size, name_in, body_in}
use Rattle.store.specs.Layout.{field_bytes, word_bytes, following, record_bytes, record_with}
use Rattle.store.specs.Reading.{plan_bytes, plan_in, behind_plan, numbers_size, numbers_in, words_part, held_in, filled_up, record_fits}
use Rattle.store.specs.Tidied.{tidied}
use Rattle.store_laws.proofs.Words.{words_back}
use Rattle.store_laws.proofs.FieldBytes.{numbers-back, read-tidy}

-- what the check of a record says
pub record RecordOk (r : List ℕ) : Type 0 where
  pub name : name_fits (name_in r) ≡ true
  pub plan : read_refusal (plan_bytes r) ≡ 0
  pub numbers : numbers_size r ≤ length (behind_plan r)
  pub whole : length (words_part r) % 8 ≡ 0
  pub nonzero : All (λ w. w ≢ 0) (held_in r).words
  pub valid : valid (filled_up (held_in r)) ≡ true

take-bytes : (n : ℕ) (s : List ℕ) → AllBytes s → AllBytes (take n s)
take-bytes n s b i = ltb-cases i n (λ t. get_or (take n s) i 0 ≤ 255)
    (λ l. rw (get_or-take n s i 0 l) (b i))
    (λ l. rw (get_or-eq_default (take n s) 0 {n = i} (omega (arith, length-take n s))) (omega arith))

drop-bytes : (n : ℕ) (s : List ℕ) → AllBytes s → AllBytes (drop n s)
drop-bytes n s b i = rw (get_or-drop n s i 0) (b (n + i))

-- a front, and what is left behind its own length
front-left : (n : ℕ) (s : List ℕ) → take n s ++ drop (length (take n s)) s ≡ s
front-left n s = ap (λ (t : List ℕ). take n s ++ drop (length (take n s)) t) (sym (take-append-drop n s)) ∙ ap (λ (t : List ℕ). take n s ++ t) (drop-append_seam (take n s) (drop n s)) ∙ take-append-drop n s

module _ (r : List ℕ) (fit : record_fits r ≡ true) where
  pub record-ok : RecordOk r
  unfolding record_fits
  record-ok =
      let nm = name_fits (name_in r) in
      let pl = eqb (read_refusal (plan_bytes r)) 0 in
      let nu = leb (numbers_size r) (length (behind_plan r)) in
      let wh = eqb (length (words_part r) % 8) 0 in
      let nz = all_of (λ w. not (eqb w 0)) (held_in r).words in
      let x5 = (and-eq-true_iff (nm && pl && nu && wh && nz) (valid (filled_up (held_in r)))).0 fit in
      let x4 = (and-eq-true_iff (nm && pl && nu && wh) nz).0 x5.0 in
      let x3 = (and-eq-true_iff (nm && pl && nu) wh).0 x4.0 in
      let x2 = (and-eq-true_iff (nm && pl) nu).0 x3.0 in
      let x1 = (and-eq-true_iff nm pl).0 x2.0 in
      record {
        name = x1.0;
        plan = eqb-true _ _ x1.1;
        numbers = leb-true _ _ x2.1;
        whole = eqb-true _ _ x3.1;
        nonzero = All-map (λ w e. eqb-false w 0 (not-true _ e)) (all-of (λ w. not (eqb w 0)) (held_in r).words x4.1);
        valid = x5.1;
      }

  pub plan-in-accepted : Accepted (plan_in r)
  plan-in-accepted = accepted (plan_in r) (read-accepted (plan_bytes r) record-ok.plan)

  -- the name and the plan are there
  pub name-inside : 6 + name_size r < length r
  unfolding plan_bytes body_in
  name-inside =
      omega (
        arith,
        (read_head (plan_bytes r) record-ok.plan).size,
        length-take (3 + at16 (body_in r) 1) (body_in r),
        length-drop (6 + name_size r) r,
      )

  module _ (b : AllBytes r) where
    body_bytes : AllBytes (body_in r)
    unfolding body_in
    body_bytes = drop-bytes (6 + name_size r) r b

    plan-bytes : AllBytes (plan_bytes r)
    unfolding plan_bytes
    plan-bytes = take-bytes (3 + at16 (body_in r) 1) (body_in r) body_bytes

    behind-bytes : AllBytes (behind_plan r)
    unfolding behind_plan
    behind-bytes = drop-bytes (length (plan_bytes r)) (body_in r) body_bytes

    field_back : field_bytes (held_in r).field ≡ plan_bytes r ++ numbers_in r
    unfolding field_bytes held_in
    field_back = ap₂ (λ (x y : List ℕ). x ++ y) (read-written (plan_bytes r) record-ok.plan plan-bytes)
        (numbers-back (plan_in r) plan-in-accepted (numbers_in r) (length-take-le (numbers_size r) (behind_plan r) record-ok.numbers) (take-bytes (numbers_size r) (behind_plan r) behind-bytes))

    waiting-read : waiting_in (held_in r).words ≡ (held_in r).words
    waiting-read = ap waiting_in (sym (append-nil (held_in r).words)) ∙ waited-back 0 record-ok.nonzero

    words-part : word_bytes (waiting_in (held_in r).words) ≡ words_part r
    unfolding held_in
    words-part = ap word_bytes waiting-read ∙ words_back (words_part r) record-ok.whole (drop-bytes (numbers_size r) (behind_plan r) behind-bytes)

    plan-behind : plan_bytes r ++ behind_plan r ≡ body_in r
    unfolding plan_bytes behind_plan
    plan-behind = front-left (3 + at16 (body_in r) 1) (body_in r)

    body_back : field_bytes (held_in r).field ++ word_bytes (waiting_in (held_in r).words) ≡ body_in r
    body_back =
        ap₂ (λ (x y : List ℕ). x ++ y) field_back words-part ∙ append_assoc (plan_bytes r) (numbers_in r) (words_part r)
        ∙ ap (λ (x : List ℕ). plan_bytes r ++ x) (take-append-drop (numbers_size r) (behind_plan r)) ∙ plan-behind

    -- what follows the length
    follows : following (name_in r) (held_in r).field (waiting_in (held_in r).words) ≡ drop 5 r
    unfolding name_in body_in
    follows =
        let n = name_size r in
        let k : length (take n (drop 6 r)) ≡ n = length-take-le n (drop 6 r) (omega (arith, name-inside, length-drop 6 r)) in
        ap₂ (λ x (y : List ℕ). x ∷ (take n (drop 6 r) ++ y)) k (body_back ∙ sym (drop-drop n 6 r)) ∙ ap (λ (y : List ℕ). n ∷ y) (take-append-drop n (drop 6 r)) ∙ sym (drop-cons r 5 0 (omega (arith, name-inside)))

    -- its four bytes
    length_back : size_at r ≡ length r → bytes32 (length (drop 5 r)) ≡ take 4 (drop 1 r)
    length_back z =
        let n : length (drop 5 r) ≡ at32 (drop 1 r) 0 = omega (arith, length-drop 5 r, at32-drop 1 r 0) in
        ap bytes32 n ∙ first-four (drop 1 r) (omega (arith, length-drop 1 r, name-inside)) (drop-bytes 1 r b)

    behind-version : take 4 (drop 1 r) ++ drop 5 r ≡ drop 1 r
    behind-version = ap (λ (x : List ℕ). take 4 (drop 1 r) ++ x) (sym (drop-drop 4 1 r)) ∙ take-append-drop 4 (drop 1 r)

    -- READ, THEN WRITTEN: the same bytes
    pub read-saved : get_or r 0 0 ≡ 1 → size_at r ≡ length r → record_bytes (name_in r) (held_in r) ≡ r
    unfolding record_bytes record_with
    read-saved v z =
        ap (λ (x : List ℕ). 1 ∷ (bytes32 (length x) ++ x)) follows ∙ ap (λ (x : List ℕ). 1 ∷ (x ++ drop 5 r)) (length_back z)
        ∙ ap₂ (λ x (y : List ℕ). x ∷ y) (sym v) behind-version ∙ sym (drop-cons r 0 0 (omega (arith, name-inside)))

pub record-tidy : (r : List ℕ) → record_fits r ≡ true → tidied (held_in r).field ≡ (held_in r).field
unfolding held_in
record-tidy r fit = read-tidy (plan_in r) (plan-in-accepted r fit) (numbers_in r) (decode-trimmed (plan_bytes r))
