-- Input that is longer than the program reads: no plan and schedule are as long, and what was read leads to the same.
use Rattle.std.specs.Prelude.{ℕ, ◌+◌, ◌≤◌, ◌<◌, ◌≡◌, not, List, get_or, take, drop, eqb}
use native.Mathlib.Omega.{arith}
use Rattle.std.proofs.Math.Decide.{dec_le}
use Rattle.std.proofs.Math.Path.{refl, ap}
use Rattle.std.proofs.Common.{sym, ◌∙◌, length-drop, take_all, get_or-take, get_or-drop}
use Rattle.std.proofs.Math.Logic.{by_cases}
use Rattle.std.proofs.Math.Bool.{cond}
use Rattle.std.proofs.Math.ListN.{length}
use Rattle.std.proofs.Math.Seq.{length-take-le, take-take}
use borrow.Author.Tests.{le-ltb, ne_eqb}
use Rattle.base.proofs.laws.Cond.{bool_cases, eqb-cases}
use Rattle.base.specs.Loop.{Ran}
use Rattle.format_int16.specs.Int16.{at16}
use Rattle.base.specs.Limits.{AllBytes}
use Rattle.format_text.proofs.laws.Input.{Enough}
use Rattle.base.proofs.laws.Refuse.{first_refusal-zero}
use Rattle.plan_file.specs.Reading.{Outcome}
use Rattle.plan_file.specs.Layout.{decode, blank}
use Rattle.plan_file.specs.Reading.{head_refusal, read_refusal, read_plan}
use Rattle.plan_file.specs.laws.Head.{head_ok}
use Rattle.field.specs.Held.{Held, valid}
use Rattle.field_calls.specs.Schedule.{schedule_refusal}
use Rattle.field_calls.specs.Call.{refused_run, run_bytes}
use Rattle.format_text.specs.Lines.{refused_text}
use Rattle.text_owed.specs.Traced.{fresh_held, plan_part, ran_text, traced}
use Rattle.text_owed.proofs.laws.Room.{RUNROOM}

-- "52 version; 53 length wrong", by the first byte
abbrev long_run : ℕ → Held → Ran Held
long_run version h = cond (not (valid h)) (refused_run 31 h) (refused_run (cond (not (eqb version 1)) 52 53) h)

-- a schedule of more bytes than a 16-bit length can tell of
module _ (x : List ℕ) (far : 65539 ≤ length x) (small : at16 x 1 ≤ 65535) where
  schedule-long : schedule_refusal x ≡ cond (not (eqb (get_or x 0 0) 1)) 52 53
  unfolding schedule_refusal
  schedule-long = rw (le-ltb (length x) 3 (omega arith), ne_eqb (at16 x 1 + 3) (length x) apart) refl
    where
      apart : at16 x 1 + 3 ≡ length x → ⊥
      apart e = omega arith

  run_long : (h : Held) → run_bytes x h ≡ long_run (get_or x 0 0) h
  unfolding run_bytes
  run_long h = rw schedule-long (bool_cases (eqb (get_or x 0 0) 1) (λ t. rw t refl) (λ f. rw f refl))

-- a plan that is taken has 4807 bytes at most
plan-short : (x : List ℕ) → (read_plan x).refusal ≡ 0 → length x ≤ 4807
unfolding read_plan read_refusal
plan-short x z =
    let none : read_refusal x ≡ 0 = eqb-cases (read_refusal x) 0
    (λ b. (cond {A = Outcome} b (record { refusal = 0; plan = decode x }) (record { refusal = read_refusal x; plan = blank })).refusal ≡ 0 → read_refusal x ≡ 0)
    (λ e y. e) (λ d y. y) z in
    let o = head_ok x (first_refusal-zero (head_refusal x) none).0 in
    omega (arith, o.size, o.counts.links_ok)

module _ (n : ℕ) (far : RUNROOM ≤ n) (s : List ℕ) (bytes : AllBytes s) where
  module _ (l : n ≤ length s) where
    here : (i : ℕ) → i < n → get_or (take n s) i 0 ≡ get_or s i 0
    here i h = get_or-take n s i 0 h

    same-part : plan_part (take n s) ≡ plan_part s
    same-part =
        let size = length-take-le n s l in
        omega (arith, here 1 (omega arith), here 2 (omega arith), bytes 1, bytes 2)

    part-short : plan_part s ≤ 65538
    part-short = omega (arith, bytes 1, bytes 2)

    -- what follows a plan that is taken, in what was read and in the whole
    module _ (part : ℕ) (short : part ≤ 4807) where
      same-run : (h : Held) → run_bytes (drop part (take n s)) h ≡ run_bytes (drop part s) h
      same-run h =
          let size = length-take-le n s l in
          let left = length-drop part (take n s) in
          let all = length-drop part s in
          let at : (i : ℕ) → i ≤ 2 → get_or (drop part (take n s)) i 0 ≡ get_or s (part + i) 0 = λ i m. get_or-drop part (take n s) i 0 ∙ here (part + i) (omega arith) in
          let of : (i : ℕ) → get_or (drop part s) i 0 ≡ get_or s (part + i) 0 = λ i. get_or-drop part s i 0 in
          run_long (drop part (take n s)) (omega arith) (omega (arith, at 1 (omega arith), at 2 (omega arith), bytes (part + 1), bytes (part + 2))) h
          ∙ ap (λ v. long_run v h) (at 0 (omega arith) ∙ sym (of 0))
          ∙ sym (run_long (drop part s) (omega arith) (omega (arith, of 1, of 2, bytes (part + 1), bytes (part + 2))) h)

    same-trace : traced (take n s) ≡ traced s
    unfolding traced
    same-trace =
        let part = plan_part s in
        let g = read_plan (take part s) in
        rw (same-part, take-take part n s (omega (arith, part-short)))
        (eqb-cases g.refusal 0
        (λ b. cond b (ran_text g.plan (run_bytes (drop part (take n s)) (fresh_held g.plan))) (refused_text g.refusal)
        ≡ cond b (ran_text g.plan (run_bytes (drop part s) (fresh_held g.plan))) (refused_text g.refusal))
        (λ z. ap (ran_text g.plan) (same-run part (short z) (fresh_held g.plan)))
        (λ d. refl))
      where
        short : (read_plan (take (plan_part s) s)).refusal ≡ 0 → plan_part s ≤ 4807
        short z = omega (arith, plan-short (take (plan_part s) s) z, length-take-le (plan_part s) s (omega arith))

-- WHAT IS PRINTED OF WHAT WAS READ IS WHAT IS PRINTED OF THE INPUT, however long it is
pub long_same : Enough traced RUNROOM
long_same n far s bytes = by_cases (dec_le n (length s)) (λ l. same-trace n far s bytes l) (λ l. ap traced (take_all n s (omega arith)))
