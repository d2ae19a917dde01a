-- Input that is longer than the program reads: no plan is as long, and what was read is refused by the same number.
use Rattle.std.specs.Prelude.{ℕ, ◌-◌, ◌≤◌, ◌≡◌, not, List, get_or, take, eqb}
use native.Mathlib.Omega.{arith}
use Rattle.std.proofs.Math.Decide.{dec_le}
use Rattle.std.proofs.Math.Path.{refl}
use Rattle.std.proofs.Common.{sym, ap, ◌∙◌, take_all, length-take-le, get_or-take}
use Rattle.std.proofs.Math.Logic.{by_cases}
use Rattle.std.proofs.Math.ListN.{length}
use borrow.Author.Tests.{le-ltb, ne_eqb}
use Rattle.base.proofs.laws.Cond.{bool_cases}
use Rattle.base.specs.Refuse.{or_else}
use Rattle.base.specs.Limits.{AllBytes}
use Rattle.format_text.proofs.laws.Input.{Enough}
use Rattle.plan_file.specs.Reading.{Outcome}
use Rattle.plan_file.specs.Layout.{number_at, blank}
use Rattle.plan_file.specs.Reading.{head_verdict, head_refusal, read_refusal, read_plan}
use Rattle.text_owed.specs.Reported.{plan_text, reported}
use Rattle.text_owed.proofs.laws.Room.{PLANROOM}

-- "12 version; 13 length not the bytes that follow", by the first byte
abbrev long_outcome : ℕ → Outcome
long_outcome version = record { refusal = or_else (not (eqb version 1)) 12 13; plan = blank }

-- more bytes than a 16-bit length can tell of
module _ (s : List ℕ) (far : PLANROOM ≤ length s) (small : number_at s 0 ≤ 65535) where
  head-long : head_refusal s ≡ or_else (not (eqb (get_or s 0 0) 1)) 12 13
  unfolding head_verdict
  head-long = rw (le-ltb (length s) 3 (omega arith), ne_eqb (number_at s 0) (length s - 3) apart) refl
    where
      apart : number_at s 0 ≡ length s - 3 → ⊥
      apart e = omega arith

  read-long : read_plan s ≡ long_outcome (get_or s 0 0)
  unfolding read_plan read_refusal
  read-long = rw head-long (bool_cases (eqb (get_or s 0 0) 1) (λ t. rw t refl) (λ f. rw f refl))

-- so a buffer of n bytes is enough
module _ (n : ℕ) (far : PLANROOM ≤ n) (s : List ℕ) (bytes : AllBytes s) where
  same_outcome : n ≤ length s → read_plan (take n s) ≡ read_plan s
  same_outcome l =
      let size = length-take-le n s l in
      let here : (i : ℕ) → i ≤ 2 → get_or (take n s) i 0 ≡ get_or s i 0 = λ i h. get_or-take n s i 0 (omega arith) in
      let less : number_at (take n s) 0 ≤ 65535 = omega (arith, here 1 (omega arith), here 2 (omega arith), bytes 1, bytes 2) in
      read-long (take n s) (omega arith) less ∙ ap long_outcome (here 0 (omega arith))
      ∙ sym (read-long s (omega arith) (omega (arith, bytes 1, bytes 2)))

-- THE REPORT OF WHAT WAS READ IS THE REPORT OF THE INPUT, however long it is
pub long-refused : Enough reported PLANROOM
long-refused n far s bytes =
    by_cases (dec_le n (length s)) (λ l. ap plan_text (same_outcome n far s bytes l)) (λ l. ap reported (take_all n s (omega arith)))
